-- Numbers after the used rows are never read: tables of the same lengths whose used rows are alike get the same verdict, and the same atlas is met
-- there. A walk that ends meets used rows only, so rules 2 and 3 go over with their walks; all the rules at once go over by the atlas, which lies
-- in used rows only. Assumes nothing.
use Rattle.std.specs.Prelude.{◌+◌, ◌<◌, ◌≡◌, ◌&&◌}
use Rattle.numbers.specs.Library.{ℕ, sym, ap, ◌∙◌, List, dec_lt, arith, ltb, eqb, le-ltb}
use Rattle.numbers.specs.Prelude.{no_row}
use Rattle.rows.specs.Prelude.{get, rows_long, items, shelves}
use Rattle.rows.specs.declared.{header.Header.Header, shelf.ShelfRow.ShelfRow, item.ItemRow.ItemRow}
use Rattle.chains.proofs.Prelude.{self, chain_frame, each_from, rows_alike, walk_alike}
use Rattle.rules.specs.Prelude.{Atlas, flag, shelf, freed_shelf, freed_item_of, Stores, room_in, Sound, WellFormed, shelf_next, item_next, shelves_met, Down, one_free_of}
use Rattle.rules.specs.Prelude.{ShelfRight, down, at_top_of, AllColumns, ItemRight, along, at_left_of, ItemsRight, Rule1, Rule2, Rule3, Passes, PassesForClear, atlas_in}
use Rattle.rules.proofs.Frames.{each_holds}
use Rattle.laws.specs.Same.{SameUsed, SameRead, SameVerdict}
use Rattle.laws.proofs.Stored.Once.{few_shelves, few_items, shelves_below, items_right}
use Rattle.laws.proofs.Stored.FromRules.{reads, formed}
use Rattle.laws.proofs.Stored.ToRules.{passes_read}
use Rattle.laws.proofs.Stored.Unique.{unique}

-- The atlas that is met in tables that pass lies in used rows only: it lies wherever these stand.
pub lies_alike : (h : Header) (S S' I I' : List ℕ) → SameUsed h h S S' I I' → Passes h S I → Stores h S' I' (atlas_in h S I)
unfolding atlas_in
lies_alike h S S' I I' used p =
    let a : Atlas = atlas_in h S I in
    let sound : Sound (room_in S I) a = (formed h S I p).sound in
    let stored : Stores h S I a = reads h S I p in
    record {
      header = stored.header;
      shelf_chain = chain_frame shelf (get shelves S) (get shelves S') no_row a.shelves (λ r m. sym (used.shelf_rows r (sound.shelf_rows.serving_used r m))) stored.shelf_chain;
      shelf_items = each_holds I I' a.shelves sound.free_listed (λ r m. sym (used.item_rows r (sound.item_rows.serving_used r m))) stored.shelf_items;
      freed_shelves_lem = chain_frame freed_shelf (get shelves S) (get shelves S') no_row a.rows.shelves.freed
          (λ r m. sym (used.shelf_rows r ((sound.shelf_rows.freed_exactly r).0 (rw self at m)).0)) stored.freed_shelves_lem;
      freed_items_lem = chain_frame freed_item_of (get items I) (get items I') no_row a.rows.items.freed
          (λ r m. sym (used.item_rows r ((sound.item_rows.freed_exactly r).0 m).0)) stored.freed_items_lem;
    }

module _ (h : Header) (S S' I I' : List ℕ) (same : SameRead h S S' I I') where
  abbrev same_shelf : (r : ℕ) → r < h.used_shelves → get shelves S' r ≡ get shelves S r
  same_shelf r b = sym (same.used.shelf_rows r b)

  abbrev same_item : (r : ℕ) → r < h.used_items → get items I' r ≡ get items I r
  same_item r b = sym (same.used.item_rows r b)

  same_room : room_in S' I' ≡ room_in S I
  unfolding room_in
  same_room = rw (rows_long shelves S S' same.shelves_long, rows_long items I I' same.items_long)

  -- ---- the rules, one by one

  rule1 : Rule1 h S I → Rule1 h S' I'
  rule1 one = record {
    limits = one.limits;
    shelves_fit = rw (← (rows_long shelves S S' same.shelves_long)) one.shelves_fit;
    items_fit = rw (← (rows_long items I I' same.items_long)) one.items_fit;
  }

  for_clear : PassesForClear h S I → PassesForClear h S' I'
  for_clear p = record {
    rule1 = rule1 p.rule1;
    shelf_room = rw (← (rows_long shelves S S' same.shelves_long)) p.shelf_room;
    item_room = rw (← (rows_long items I I' same.items_long)) p.item_room;
  }

  -- a row that is not used is no lone free item in either table
  same_flag : (first : ℕ) → one_free_of h I first ≡ one_free_of h I' first
  unfolding one_free_of
  same_flag first = go (dec_lt first h.used_items) where
    go : Dec (first < h.used_items) → one_free_of h I first ≡ one_free_of h I' first
    go (yes b) = ap (λ (i : ItemRow). ltb first h.used_items && eqb i.allocated 0 && eqb i.next.0 no_row) (same.used.item_rows first b)
    go (no n) = rw (le-ltb first h.used_items (omega arith))

  shelf_right : (d : Down) (r : ℕ) → r < h.used_shelves → ShelfRight h I d (get shelves S r) → ShelfRight h I' d (get shelves S' r)
  shelf_right d r b o =
      rw (same_shelf r b) (record {
        back = o.back;
        at_column = o.at_column;
        at_depth = o.at_depth;
        some_depth = o.some_depth;
        in_column = o.in_column;
        flag_right = o.flag_right ∙ ap flag (same_flag _);
        apart = o.apart;
      })

  module _ (one : Rule1 h S I) where
    rule2 : Rule2 h S I → Rule2 h S' I'
    unfolding Rule2
    rule2 two =
        walk_alike (shelf_next S) (shelf_next S') h.used_shelves (λ r b. ap (λ (s : ShelfRow). s.next.0) (same_shelf r b))
        (λ d r. ShelfRight h I d (get shelves S r)) (λ d r. ShelfRight h I' d (get shelves S' r))
        (λ d r. down h d r (get shelves S r)) (λ d r. down h d r (get shelves S' r)) (AllColumns h)
        shelf_right (λ d r b. ap (down h d r) (same_shelf r b)) (few_shelves one) 0 at_top_of two

    same_met : Rule2 h S I → shelves_met h S' ≡ shelves_met h S
    unfolding Rule2 shelves_met
    same_met two =
        rows_alike (shelf_next S) (shelf_next S') h.used_shelves (λ r b. ap (λ (s : ShelfRow). s.next.0) (same_shelf r b))
        (few_shelves one) 0 two.starts two.ends

    items_alike : (on : ℕ) → on < h.used_shelves → ItemsRight h S I on → ItemsRight h S' I' on
    unfolding ItemsRight
    items_alike on b right =
        rw (same_shelf on b) (walk_alike (item_next I) (item_next I') h.used_items (λ r b. ap (λ (i : ItemRow). i.next.0) (same_item r b))
        (λ d r. ItemRight h on d (get items I r)) (λ d r. ItemRight h on d (get items I' r))
        (λ d r. along d r (get items I r)) (λ d r. along d r (get items I' r)) (λ d. d.x ≡ (get shelves S on).x + h.limits.shelf_width)
        (λ d r b o. rw (same_item r b) o) (λ d r b. ap (along d r) (same_item r b)) (few_items one) (get shelves S on).first_item.0 (at_left_of (get shelves S on)) right)

    rule3 : Rule2 h S I → Rule3 h S I → Rule3 h S' I'
    unfolding Rule3
    rule3 two three =
        rw (same_met two) (each_from (shelves_met h S) (λ on m. items_alike on (shelves_below one two on m) (items_right one three on m)))

  -- ---- all of them

  module _ (p : Passes h S I) where
    abbrev a : Atlas
    a = atlas_in h S I

    lies : Stores h S' I' a
    lies = lies_alike h S S' I I' same.used p

    keeps_alike : WellFormed (room_in S' I') a
    keeps_alike = rw same_room (formed h S I p)

    -- the same atlas is met
    pub same_atlas : atlas_in h S I ≡ atlas_in h S' I'
    same_atlas = unique h S' I' a lies keeps_alike

    passes_alike : Passes h S' I'
    passes_alike = passes_read h S' I' (rw same_atlas at lies) (rw same_atlas at keeps_alike)

-- ---- both ways

turned : (h : Header) (S S' I I' : List ℕ) → SameRead h S S' I I' → SameRead h S' S I' I
turned h S S' I I' same = record {
  used = record { header = sym same.used.header; shelf_rows = same_shelf h S S' I I' same; item_rows = same_item h S S' I I' same };
  shelves_long = sym same.shelves_long;
  items_long = sym same.items_long;
}

pub same_verdict : (h : Header) (S S' I I' : List ℕ) → SameRead h S S' I I' → SameVerdict h S S' I I'
same_verdict h S S' I I' same =
    let back : SameRead h S' S I' I = turned h S S' I I' same in
    record {
      rule1 = (rule1 h S S' I I' same, rule1 h S' S I' I back);
      rule2 = (
        λ w. (rule1 h S S' I I' same w.0, rule2 h S S' I I' same w.0 w.1),
        λ w. (rule1 h S' S I' I back w.0, rule2 h S' S I' I back w.0 w.1),
      );
      rule3 = (
        λ w. (rule1 h S S' I I' same w.0, rule2 h S S' I I' same w.0 w.1, rule3 h S S' I I' same w.0 w.1 w.2),
        λ w. (rule1 h S' S I' I back w.0, rule2 h S' S I' I back w.0 w.1, rule3 h S' S I' I back w.0 w.1 w.2),
      );
      passes = (passes_alike h S S' I I' same, passes_alike h S' S I' I back);
      for_clear = (for_clear h S S' I I' same, for_clear h S' S I' I back);
    }
