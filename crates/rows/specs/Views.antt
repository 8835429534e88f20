-- An item row seen in two views that do not overlap: its two free links, and all else. Assumes nothing.
use Rattle.std.specs.Prelude.{◌≡◌}
use Rattle.numbers.specs.Library.{ap, ◌∙◌, ℕ}
use Rattle.rows.specs.declared.item.ItemRow.{ItemRow}

pub record Body : Type 0 where
  pub x : ℕ
  pub width : ℕ
  pub prev : ℕ
  pub next : ℕ
  pub shelf : ℕ
  pub allocated : ℕ
  pub generation : ℕ

pub record Links : Type 0 where
  pub prev : ℕ
  pub next : ℕ

unfoldable pub body_of : ItemRow → Body
body_of v = record { x = v.x; width = v.width; prev = v.prev.0; next = v.next.0; shelf = v.shelf.0; allocated = v.allocated; generation = v.generation }

unfoldable pub links_of : ItemRow → Links
links_of v = record { prev = v.prev_unallocated.0; next = v.next_unallocated.0 }

-- the row with these two views
unfoldable pub seen_as : Body → Links → ItemRow
seen_as b l = record {
  x = b.x;
  width = b.width;
  prev = record { 0 = b.prev };
  next = record { 0 = b.next };
  prev_unallocated = record { 0 = l.prev };
  next_unallocated = record { 0 = l.next };
  shelf = record { 0 = b.shelf };
  allocated = b.allocated;
  generation = b.generation;
}

-- the two views determine the row
pub same_row : (v w : ItemRow) → body_of v ≡ body_of w → links_of v ≡ links_of w → v ≡ w
unfolding body_of links_of seen_as
same_row v w b l = ap (λ (a : Body). seen_as a (links_of v)) b ∙ ap (λ (a : Links). seen_as (body_of w) a) l

-- what a change of the row makes of all but its free links
unfoldable pub in_body : (ItemRow → ItemRow) → Body → Body
unfolding body_of seen_as
in_body change b = body_of (change (seen_as b (record { prev = 0; next = 0 })))
