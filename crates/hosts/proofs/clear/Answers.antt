use Rattle.hosts.proofs.clear.Goals as goal

pub returns : goal.returns
returns c =
    record {
      said = c.clear-said.result.answer;
      promise = rw c.from-2.ensures (rw c.from.ensures at c.clear-said.ensures);
      told = c.reply_told.ensures;
    }
