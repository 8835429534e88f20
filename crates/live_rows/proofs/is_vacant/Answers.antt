use Rattle.numbers.specs.Library.{rules}
use Rattle.live_rows.specs.Live.{is_vacant}
use Rattle.live_rows.proofs.is_vacant.Goals as goal

pub returns : goal.returns
unfolding is_vacant
returns c = search rules
