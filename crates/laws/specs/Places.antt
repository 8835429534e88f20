-- What is a place for a request, and when an atlas has none. Assumes nothing.
use Rattle.std.specs.Prelude.{◌≤◌, ◌<◌, ◌≡◌, ◌⊎◌, ◌∷◌}
use Rattle.numbers.specs.Library.{ℕ, true, false, some, List, []}
use Rattle.numbers.specs.declared.request.Asked.{Asked}
use Rattle.chains.specs.Prelude.{◌∈◌, Distinct, Each, Focus, back_onto}
use Rattle.rules.specs.Prelude.{Item, Shelf, Atlas, Room, good, bad, width_of, search, find_item, splits_shelf, splits_item, too_few_rows, item_rows_of}

-- What the search may hold: a shelf deep enough where it stands, and a row of its free list whose item is wide enough.
pub record Fits (asked : Asked) (shelves : List Shelf) (f : Focus Shelf) (row : ℕ) : Type 0 where
  pub stands : shelves ≡ back_onto f.before (f.this ∷ f.after)
  pub listed : row ∈ f.this.free
  pub wide : asked.width ≤ width_of row f.this.items
  pub deep : asked.depth ≤ f.this.depth

-- A free item where it stands in a shelf.
pub record Spot (s : Shelf) (w : Focus Item) : Type 0 where
  pub stands : s.items ≡ back_onto w.before (w.this ∷ w.after)
  pub once : Distinct (item_rows_of (back_onto w.before (w.this ∷ w.after)))
  pub listed : w.this.row ∈ s.free
  pub free : w.this.live ≡ false

-- The item that a request gets, or a part of it: in a shelf deep enough, and wide enough.
pub record Chosen (a : Atlas) (asked : Asked) (f : Focus Shelf) (w : Focus Item) : Type 0 where
  pub stands : a.shelves ≡ back_onto f.before (f.this ∷ f.after)
  pub deep : asked.depth ≤ f.this.depth
  pub spot : Spot f.this w
  pub wide : asked.width ≤ w.this.width

-- no shelf at least as deep as the rounded request has a wide enough free stretch
abbrev pub NoPlace : Asked → List Shelf → Type 0
NoPlace asked = Each (λ (s : Shelf). asked.depth ≤ s.depth → Each (λ (i : Item). i.live ≡ false → i.width < asked.width) s.items)

-- "the chosen splits need more rows of a table than are freed or unused there"
pub record TooFew (left : Room) (a : Atlas) (q : Asked) : Type 0 where
  pub shelf : Focus Shelf
  pub item : Focus Item
  pub row : ℕ
  pub chosen : (search q a.shelves ≡ good shelf row) ⊎ (search q a.shelves ≡ bad shelf row)
  pub its_item : find_item row [] shelf.this.items ≡ some item
  pub too_few : too_few_rows left a.rows (splits_shelf q shelf.this) (splits_item q item.this) ≡ true
