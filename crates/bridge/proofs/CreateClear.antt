-- Create and clear: what they leave is a fresh atlas, whatever stood in the tables before. A clear is a create with the limits of the header.
-- Assumes nothing.
use Rattle.std.specs.Prelude.{◌≤◌}
use Rattle.numbers.specs.Library.{ℕ, List}
use Rattle.numbers.specs.declared.limits.Limits.{Limits}
use Rattle.numbers.specs.Prelude.{columns, WithinLimits}
use Rattle.rows.specs.Prelude.{rows, items, shelves}
use Rattle.rows.specs.declared.header.Header.{Header}
use Rattle.rules.specs.Prelude.{fresh, room_in, PassesForClear, Becomes}
use Rattle.laws.proofs.Shape.Kept.{fresh_shaped, fresh_sound}
use Rattle.init.specs.Init.{fresh_header, fresh_shelf_table, fresh_item_table}
use Rattle.bridge.proofs.Shelves.Fresh.{fresh_lies, fresh_room, fresh_shelves_past, fresh_items_past}
use Rattle.bridge.proofs.Outcome.{becomes_stored}

pub create_becomes : (l : Limits) (S I : List ℕ) → WithinLimits l → columns l ≤ rows shelves S → columns l ≤ rows items I
    → Becomes S I (fresh_header l (columns l)) (fresh_shelf_table l (columns l) S) (fresh_item_table l (columns l) I) (fresh l)
unfolding fresh room_in
create_becomes l S I limits shelf_room item_room =
    becomes_stored S I (fresh_header l (columns l)) (fresh_shelf_table l (columns l) S) (fresh_item_table l (columns l) I) (fresh l)
    (fresh_lies l limits S I shelf_room item_room)
    (record { sound = rw fresh_room (fresh_sound (room_in S I) l limits shelf_room item_room); shaped = fresh_shaped l limits })
    (fresh_shelves_past l (columns l) S)
    (fresh_items_past l (columns l) I)

pub clear_becomes : (h : Header) (S I : List ℕ) → PassesForClear h S I
    → Becomes S I (fresh_header h.limits (columns h.limits)) (fresh_shelf_table h.limits (columns h.limits) S) (fresh_item_table h.limits (columns h.limits) I) (fresh h.limits)
clear_becomes h S I p = create_becomes h.limits S I p.rule1.limits p.shelf_room p.item_room
