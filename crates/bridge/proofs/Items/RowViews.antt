-- What a row says after changes, by two views of an item row: its body, and its links in the free list. `simp reads` works out any run of changes of a
-- table, and `simp sights` of the views, given that the rows differ that must. Assumes nothing.
use Rattle.std.specs.Prelude.{◌≡◌}
use Rattle.numbers.specs.Library.{ℕ, refl, ap, List}
use Rattle.numbers.specs.declared.{index.ItemIndex.ItemIndex, index.ShelfIndex.ShelfIndex}
use Rattle.rows.specs.Prelude.{get, rows-put, get-put_other, change, rows-change, get-change_other, get-put_there, get-change_there, unseen, items, with_item_x}
use Rattle.rows.specs.Prelude.{with_width, with_item_prev, with_item_next, with_prev_free, with_next_free, with_shelf, with_allocated, with_generation, Body, Links, body_of}
use Rattle.rows.specs.Prelude.{links_of, in_body}
use Rattle.rows.specs.declared.item.ItemRow.{ItemRow}
use Rattle.rules.specs.Prelude.{Item, resized, item, no_links}
use Rattle.item_edits.specs.ItemEdits.{with_links, with_span, mark_live, mark_free, rest_of, lone_item}

pub ruleset reads = (rows-put, rows-change, get-put_there, get-put_other, get-change_there, get-change_other)

-- ---- the views themselves changed

unfoldable pub body_prev : ℕ → Body → Body
unfolding in_body with_item_prev
body_prev n = in_body (with_item_prev (record { 0 = n }))

unfoldable pub body_span : ℕ → ℕ → Body → Body
unfolding in_body with_span with_width with_item_next
body_span width next = in_body (with_span width (record { 0 = next }))

unfoldable pub body_mark : ℕ → Body → Body
unfolding in_body with_allocated
body_mark flag = in_body (with_allocated flag)

-- what is left of an item in row `at`, free, in a row of its own
unfoldable pub body_rest : ℕ → ℕ → ℕ → Body → Body
unfolding in_body rest_of with_generation with_item_x with_width with_item_prev with_allocated
body_rest at width generation = in_body (λ v. with_generation generation (rest_of v (record { 0 = at }) width))

-- a free item that has its shelf to itself
unfoldable pub body_lone : ℕ → ℕ → ℕ → ℕ → Body
unfolding body_of lone_item with_links with_span with_generation with_item_x with_width with_item_prev with_item_next with_prev_free with_next_free with_shelf
body_lone x width on generation = body_of (with_generation generation (lone_item x width (record { 0 = on })))

-- what an item's row says, so changed
module _ (on prev next : ℕ) (i : Item) where
  pub says_prev : (n : ℕ) → body_prev n ((item on).says prev i next) ≡ (item on).says n i next
  unfolding body_prev
  says_prev n = refl

  pub says_span : (width n : ℕ)
      → body_span width n ((item on).says prev i next) ≡ (item on).says prev (resized i width i.live) n
  unfolding body_span
  says_span width n = refl

unfoldable pub links_prev : ℕ → Links → Links
links_prev n l = record { prev = n; next = l.next }

unfoldable pub links_next : ℕ → Links → Links
links_next n l = record { prev = l.prev; next = n }

unfoldable pub links : ℕ → ℕ → Links
links p n = record { prev = p; next = n }

-- ---- a row changed, in the view that sees it

module _ (v : ItemRow) (n : ItemIndex) where
  pub body-with_item_prev : body_of (with_item_prev n v) ≡ body_prev n.0 (body_of v)
  unfolding body_prev
  body-with_item_prev = refl

  pub body-with_span : (w : ℕ) → body_of (with_span w n v) ≡ body_span w n.0 (body_of v)
  unfolding body_span
  body-with_span w = refl

  pub body-rest_of : (w g : ℕ) → body_of (with_generation g (rest_of v n w)) ≡ body_rest n.0 w g (body_of v)
  unfolding body_rest
  body-rest_of w g = refl

  pub links-rest_of : (w g : ℕ) → links_of (with_generation g (rest_of v n w)) ≡ links_of v
  unfolding links_of rest_of with_generation with_item_x with_width with_item_prev with_allocated
  links-rest_of w g = refl

  pub links-with_prev_free : links_of (with_prev_free n v) ≡ links_prev n.0 (links_of v)
  unfolding links_of with_prev_free links_prev
  links-with_prev_free = refl

  pub links-with_next_free : links_of (with_next_free n v) ≡ links_next n.0 (links_of v)
  unfolding links_of with_next_free links_next
  links-with_next_free = refl

  pub links-with_links : (p : ItemIndex) → links_of (with_links p n v) ≡ links p.0 n.0
  unfolding links_of with_links with_prev_free with_next_free links
  links-with_links p = refl

module _ (v : ItemRow) where
  pub body-mark_live : body_of (mark_live v) ≡ body_mark 1 (body_of v)
  unfolding body_mark mark_live with_links with_prev_free with_next_free
  body-mark_live = refl

  pub links-mark_live : links_of (mark_live v) ≡ no_links
  unfolding links_of mark_live with_links with_prev_free with_next_free with_allocated
  links-mark_live = refl

  pub body-mark_free : body_of (mark_free v) ≡ body_mark 0 (body_of v)
  unfolding body_mark mark_free
  body-mark_free = refl

module _ (x w g : ℕ) (on : ShelfIndex) where
  pub body-lone_item : body_of (with_generation g (lone_item x w on)) ≡ body_lone x w on.0 g
  unfolding body_lone
  body-lone_item = refl

  pub links-lone_item : links_of (with_generation g (lone_item x w on)) ≡ no_links
  unfolding links_of lone_item with_links with_span with_generation with_item_x with_width with_item_prev with_item_next with_prev_free with_next_free with_shelf
  links-lone_item = refl

-- ---- a row changed, in the view that does not

module _ (l : List ℕ) (i j : ℕ) (n : ItemIndex) where
  pub body_prev_free : body_of (get items (change items l i (with_prev_free n)) j) ≡ body_of (get items l j)
  unfolding body_of with_prev_free
  body_prev_free = unseen items body_of (with_prev_free n) (λ v. refl) l i j

  pub body_next_free : body_of (get items (change items l i (with_next_free n)) j) ≡ body_of (get items l j)
  unfolding body_of with_next_free
  body_next_free = unseen items body_of (with_next_free n) (λ v. refl) l i j

  pub body-links : (p : ItemIndex) → body_of (get items (change items l i (with_links p n)) j) ≡ body_of (get items l j)
  unfolding body_of with_links with_prev_free with_next_free
  body-links p = unseen items body_of (with_links p n) (λ v. refl) l i j

  pub links-item_prev : links_of (get items (change items l i (with_item_prev n)) j) ≡ links_of (get items l j)
  unfolding links_of with_item_prev
  links-item_prev = unseen items links_of (with_item_prev n) (λ v. refl) l i j

  pub links_span : (w : ℕ) → links_of (get items (change items l i (with_span w n)) j) ≡ links_of (get items l j)
  unfolding links_of with_span with_width with_item_next
  links_span w = unseen items links_of (with_span w n) (λ v. refl) l i j

module _ (l : List ℕ) (i j : ℕ) where
  pub links-free : links_of (get items (change items l i mark_free) j) ≡ links_of (get items l j)
  unfolding links_of mark_free with_allocated
  links-free = unseen items links_of mark_free (λ v. refl) l i j

pub ruleset sights = (
  reads,
  body-with_item_prev,
  body-with_span,
  body-rest_of,
  body-lone_item,
  body-mark_live,
  body-mark_free,
  links-with_prev_free,
  links-with_next_free,
  links-with_links,
  links-rest_of,
  links-lone_item,
  links-mark_live,
  body_prev_free,
  body_next_free,
  body-links,
  links-item_prev,
  links_span,
  links-free,
)

-- ---- the links of a row as indices, by what its views say

module _ (v : ItemRow) where
  module _ {l : Links} (e : links_of v ≡ l) where
    pub seen_prev_free : v.prev_unallocated ≡ record { 0 = l.prev }
    unfolding links_of
    seen_prev_free = ap (λ (k : Links). record { 0 = k.prev }) e

    pub seen_next_free : v.next_unallocated ≡ record { 0 = l.next }
    unfolding links_of
    seen_next_free = ap (λ (k : Links). record { 0 = k.next }) e

  module _ {b : Body} (e : body_of v ≡ b) where
    pub seen-prev : v.prev ≡ record { 0 = b.prev }
    unfolding body_of
    seen-prev = ap (λ (k : Body). record { 0 = k.prev }) e

    pub seen_next : v.next ≡ record { 0 = b.next }
    unfolding body_of
    seen_next = ap (λ (k : Body). record { 0 = k.next }) e

    pub seen-shelf : v.shelf ≡ record { 0 = b.shelf }
    unfolding body_of
    seen-shelf = ap (λ (k : Body). record { 0 = k.shelf }) e

    pub seen_width : v.width ≡ b.width
    unfolding body_of
    seen_width = ap (λ (k : Body). k.width) e

    pub seen_allocated : v.allocated ≡ b.allocated
    unfolding body_of
    seen_allocated = ap (λ (k : Body). k.allocated) e

    pub seen_generation : v.generation ≡ b.generation
    unfolding body_of
    seen_generation = ap (λ (k : Body). k.generation) e
