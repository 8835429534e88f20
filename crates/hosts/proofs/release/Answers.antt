use Rattle.hosts.proofs.release.Goals as goal

pub returns : goal.returns
returns c =
    record {
      said = c.release-said.result.answer;
      promise = rw c.from-2.ensures (rw c.from.ensures at c.release-said.ensures);
      told = c.reply_told.ensures;
    }
