-- `has_rows`: both tables.
use Rattle.numbers.specs.Library.{ap, not}
use Rattle.numbers.specs.Prelude.{refuted, denied, allowed}
use Rattle.load.proofs.has_rows.Goals as goal

pub returns-else-has : goal.returns-else-has
returns-else-has c = rw c.if-has.false (refuted (λ has. denied c.has.ensures (ap not c.if-has.false) has.shelf_room))

pub returns-then-has : goal.returns-then-has
returns-then-has c =
    record {
      sound = λ t. record { shelf_room = allowed c.has.ensures (ap not c.if-has.true); item_room = c.has-then-has.ensures.sound t };
      complete = λ has. c.has-then-has.ensures.complete has.item_room;
    }
