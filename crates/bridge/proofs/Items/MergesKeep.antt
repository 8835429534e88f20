-- What the two merges of a release keep of a shelf: its first row, its live area but for the item, its width, and the shelf rows; and what
-- holds of the item between them. Assumes nothing.
use Rattle.std.specs.Prelude.{◌+◌, ◌*◌, ◌≡◌, ◌∷◌}
use Rattle.numbers.specs.Library.{ℕ, refl, ap, ◌∙◌, Bool, true, false, List, [], arith}
use Rattle.numbers.specs.Prelude.{pick}
use Rattle.chains.specs.Prelude.{◌∈◌, back_onto, first_row}
use Rattle.chains.proofs.Prelude.{self, first_onto}
use Rattle.rules.specs.Prelude.{Item, Pool, Rows, live_area, replace_row, Loose, free_item_row, free_with, merge_next, merge_into, item}
use Rattle.bridge.proofs.Items.SumsAndFreeLists.{area_onto, kept_in}
use Rattle.bridge.proofs.Items.NoWrap.{widths, widths_onto}
use Rattle.bridge.proofs.Items.OpenShelf.{listed}
use Rattle.laws.proofs.Shape.Around.{known_yes, known_no}
use Rattle.laws.proofs.Shape.Merging.{loose}

abbrev pub items_of : Loose → List Item
items_of m = back_onto m.items.before (m.items.this ∷ m.items.after)

pub record Steady (first width : ℕ) (area : ℕ → ℕ) (shelf_rows : Pool ℕ) (m : Loose) : Type 0 where
  pub first_item : first_row (item 0).row (items_of m) ≡ first
  pub live_area_lem : (d : ℕ) → live_area d (items_of m) ≡ area d
  pub as_wide : widths (items_of m) ≡ width
  pub same_shelves : m.rows.shelves ≡ shelf_rows

-- the item between the merges: free, in its row, on no list
pub record Between (row : ℕ) (m : Loose) : Type 0 where
  pub is_free : m.items.this.live ≡ false
  pub same_row : m.items.this.row ≡ row
  pub unlisted : row ∈ listed m.free → ⊥

pub next_between : (ib : List Item) (i : Item) (ia : List Item) (fl : List ℕ) (r : Rows) → (i.row ∈ listed fl → ⊥) → Between i.row (merge_next (loose ib i ia fl r))
unfolding merge_next free_with
next_between ib i [] fl r out = record { is_free = refl; same_row = refl; unlisted = out }
next_between ib i (n ∷ ia) fl r out = go n.live refl where
  fewer : (l : List ℕ) → i.row ∈ listed (replace_row n.row [] l) → i.row ∈ listed l
  fewer l m = rw self (kept_in i.row n.row l (rw self at m))

  go : (b : Bool) → n.live ≡ b → Between i.row (merge_next (loose ib i (n ∷ ia) fl r))
  go true f = known_yes (Between i.row) n.live _ _ f (record { is_free = refl; same_row = refl; unlisted = out })
  go false f = known_no (Between i.row) n.live _ _ f (record { is_free = refl; same_row = refl; unlisted = λ m. out (fewer fl m) })

module _ (first width : ℕ) (shelf_rows : Pool ℕ) where
  pub next_steady : (area area' : ℕ → ℕ) (ib : List Item) (i : Item) (ia : List Item) (fl : List ℕ) (r : Rows) → i.live ≡ true → ((d : ℕ) → area d ≡ area' d + i.width * d)
      → Steady first width area shelf_rows (loose ib i ia fl r) → Steady first width area' shelf_rows (merge_next (loose ib i ia fl r))
  unfolding merge_next free_with free_item_row live_area widths
  next_steady area area' ib i [] fl r was_live sum was = record {
    first_item = first_onto (item 0) ib (free_with i i.width) i [] [] refl ∙ was.first_item;
    live_area_lem = λ d. omega (arith, sum d, was.live_area_lem d, area_onto d ib (i ∷ []), area_onto d ib (free_with i i.width ∷ []), ap (λ (b : Bool). pick b (i.width * d) 0) was_live);
    as_wide = omega (arith, was.as_wide, widths_onto ib (i ∷ []), widths_onto ib (free_with i i.width ∷ []));
    same_shelves = was.same_shelves;
  }
  next_steady area area' ib i (next-item ∷ ia) fl r was_live sum was = go next-item.live refl where
    go : (b : Bool) → next-item.live ≡ b → Steady first width area' shelf_rows (merge_next (loose ib i (next-item ∷ ia) fl r))
    go true next-flag = known_yes (Steady first width area' shelf_rows) next-item.live _ _ next-flag (record {
      first_item = first_onto (item 0) ib (free_with i i.width) i (next-item ∷ ia) (next-item ∷ ia) refl ∙ was.first_item;
      live_area_lem = λ d. omega (arith, sum d, was.live_area_lem d, area_onto d ib (i ∷ next-item ∷ ia), area_onto d ib (free_with i i.width ∷ next-item ∷ ia), ap (λ (b : Bool). pick b (i.width * d) 0) was_live);
      as_wide = omega (arith, was.as_wide, widths_onto ib (i ∷ next-item ∷ ia), widths_onto ib (free_with i i.width ∷ next-item ∷ ia));
      same_shelves = was.same_shelves;
    })
    go false next-flag = known_no (Steady first width area' shelf_rows) next-item.live _ _ next-flag (record {
      first_item = first_onto (item 0) ib (free_with i (i.width + next-item.width)) i ia (next-item ∷ ia) refl ∙ was.first_item;
      live_area_lem = λ d. omega (
        arith,
        sum d,
        was.live_area_lem d,
        area_onto d ib (i ∷ next-item ∷ ia),
        area_onto d ib (free_with i (i.width + next-item.width) ∷ ia),
        ap (λ (b : Bool). pick b (i.width * d) 0) was_live,
        ap (λ (b : Bool). pick b (next-item.width * d) 0) next-flag,
      );
      as_wide = omega (arith, was.as_wide, widths_onto ib (i ∷ next-item ∷ ia), widths_onto ib (free_with i (i.width + next-item.width) ∷ ia));
      same_shelves = was.same_shelves;
    })

  pub into_steady : (area : ℕ → ℕ) (ib : List Item) (i : Item) (ia : List Item) (fl : List ℕ) (r : Rows) → i.live ≡ false
      → Steady first width area shelf_rows (loose ib i ia fl r) → Steady first width area shelf_rows (merge_into (loose ib i ia fl r))
  unfolding merge_into free_with free_item_row live_area widths
  into_steady area [] i ia fl r is_free was = record { first_item = was.first_item; live_area_lem = was.live_area_lem; as_wide = was.as_wide; same_shelves = was.same_shelves }
  into_steady area (previous ∷ ib) i ia fl r is_free was = go previous.live refl where
    go : (b : Bool) → previous.live ≡ b → Steady first width area shelf_rows (merge_into (loose (previous ∷ ib) i ia fl r))
    go true previous-flag = known_yes (Steady first width area shelf_rows) previous.live _ _ previous-flag (record { first_item = was.first_item; live_area_lem = was.live_area_lem; as_wide = was.as_wide; same_shelves = was.same_shelves })
    go false previous-flag = known_no (Steady first width area shelf_rows) previous.live _ _ previous-flag (record {
      first_item = first_onto (item 0) ib (free_with previous (previous.width + i.width)) previous ia (i ∷ ia) refl ∙ was.first_item;
      live_area_lem = λ d. omega (
        arith,
        was.live_area_lem d,
        area_onto d ib (previous ∷ i ∷ ia),
        area_onto d ib (free_with previous (previous.width + i.width) ∷ ia),
        ap (λ (b : Bool). pick b (previous.width * d) 0) previous-flag,
        ap (λ (b : Bool). pick b (i.width * d) 0) is_free,
      );
      as_wide = omega (arith, was.as_wide, widths_onto ib (previous ∷ i ∷ ia), widths_onto ib (free_with previous (previous.width + i.width) ∷ ia));
      same_shelves = was.same_shelves;
    })
