use Rattle.texts.specs.Put.{put_then}
use Rattle.texts.specs.Text.{line}
use Rattle.texts.proofs.text.put_line.Goals as goal

pub returns : goal.returns
unfolding line
returns c = put_then c.put_text-a.ensures (put_then c.put_spaced-b.ensures c.put_byte.ensures)
