-- `list_rows`: the rows so far are listed, and no others; a live one has a place, since there is room for all of them.
use Rattle.numbers.specs.Library.{List}
use Rattle.rows.specs.declared.live.Live.{Live}
use Rattle.promises.specs.Prelude.{written}
use Rattle.listing.proofs.Listed.{Listed}
use Rattle.listing.proofs.list.list_rows.Given as goal

abbrev pub invariant-loop-row : goal.invariant-loop-row
invariant-loop-row l = Listed l.h l.shelves l.items (λ (ls : List Live). written 0 ls l.initial.out) l.row l.count l.out
