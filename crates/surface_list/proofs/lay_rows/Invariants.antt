-- `lay_rows`: the rows so far are laid, and no others; a live one has a place, since there is room for all of them.
use Rattle.numbers.specs.Library.{List}
use Rattle.rows.specs.declared.live.Live.{Live}
use Rattle.listing.proofs.Listed.{Listed}
use Rattle.surface_list.specs.Lives.{laid}
use Rattle.surface_list.proofs.lay_rows.Given as goal

abbrev pub invariant-loop-row : goal.invariant-loop-row
invariant-loop-row l = Listed l.h l.shelves l.items (λ (ls : List Live). laid ls l.initial.out) l.row l.count l.out
