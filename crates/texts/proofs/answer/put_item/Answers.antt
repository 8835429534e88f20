use Rattle.texts.specs.Put.{put_then}
use Rattle.texts.proofs.Short.{item_lines_lem}
use Rattle.texts.proofs.answer.put_item.Goals as goal

pub returns : goal.returns
returns c =
    let live = c.put_live.ensures in
    item_lines_lem _ live.live_len_bound (put_then c.put_text-a.ensures live.puts)
