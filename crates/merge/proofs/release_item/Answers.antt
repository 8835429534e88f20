use Rattle.std.specs.Prelude.{◌*◌, ◌<◌, ◌≡◌}
use mir.Val.{bool_byte}
use Rattle.numbers.specs.Library.{ℕ, Bool, true, false, ap, List, lt-ltb}
use Rattle.rules.specs.Prelude.{flag}
use Rattle.numbers.specs.declared.{index.ItemIndex.ItemIndex, index.ShelfIndex.ShelfIndex}
use Rattle.rows.specs.declared.shelf.ShelfRow.{ShelfRow}
use Rattle.rows.specs.Prelude.{get-change_there, shelves, item_at, shelf_capacity, shelf_at_of, change_shelf, with_first_free, with_empty}
use Rattle.live_rows.specs.Live.{area_at}
use Rattle.shelf_edits.specs.ShelfEdits.{with_free}
use Rattle.merge.specs.Merge.{loosened, release_item}
use Rattle.merge.specs.Releasable.{shelf_there, loosens, front_there}
use Rattle.merge.proofs.release_item.Goals as goal

-- a flag, as a number
flag-of : (b : Bool) (n : ℕ) → n ≡ bool_byte b → n ≡ flag b
flag-of true n e = e
flag-of false n e = e

-- the empty flag that was written is the one that is read
flag-written : (S : List ℕ) (on : ShelfIndex) (first : ItemIndex) (empty : ℕ) → on.0 < shelf_capacity S → (shelf_at_of (change_shelf S on (with_free first empty)) on).is_empty ≡ empty
unfolding with_free with_first_free with_empty
flag-written S on first empty b = ap (λ (s : ShelfRow). s.is_empty) (get-change_there shelves S on.0 (with_free first empty) (lt-ltb on.0 (shelf_capacity S) b))

-- the area of an item that has been read, and its shelf too
area_read : (S I : List ℕ) (on : ShelfIndex) (at : ItemIndex) → on ≡ (item_at I at).shelf → (item_at I at).width * (shelf_at_of S on).height ≡ area_at S I at
unfolding area_at
area_read S I on at e = rw e

pub loosen-loosened-requires : goal.loosen-loosened-requires
loosen-loosened-requires c = rw (c.vacate-less.ensures, c.shelf_there-s.ensures) (loosens c.requires.0 c.requires.1 _)

pub is_one_free-empty-requires : goal.is_one_free-empty-requires
unfolding loosened
is_one_free-empty-requires c =
    rw (c.loosen-loosened.ensures.items, c.vacate-less.ensures, c.area_of_rows.ensures, c.item_there-i.ensures, c.shelf_there-s.ensures, area_read _ _ _ _ c.requires.1)
    (front_there c.requires.0 c.requires.1)

pub returns-clause-is : goal.returns-clause-is
unfolding release_item loosened
returns-clause-is c =
    rw (
      c.set_free.ensures,
      flag-of _ _ c.from.ensures,
      c.is_one_free-empty.ensures,
      c.loosen-loosened.ensures.header,
      c.loosen-loosened.ensures.first,
      c.loosen-loosened.ensures.items,
      c.vacate-less.ensures,
      c.area_of_rows.ensures,
      c.item_there-i.ensures,
      c.shelf_there-s.ensures,
      area_read _ _ _ _ c.requires.1,
    )

pub returns-clause-empty : goal.returns-clause-empty
returns-clause-empty c = rw (c.set_free.ensures, ← flag-of _ _ c.from.ensures) (flag-written _ _ _ _ (shelf_there c.requires.0 c.requires.1))
