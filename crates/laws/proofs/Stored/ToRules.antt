-- Where the atlas that is met in the tables lies there and keeps what an atlas keeps, the seven rules hold. Assumes nothing.
use Rattle.std.specs.Prelude.{◌+◌, ◌<◌, ◌≡◌}
use Rattle.numbers.specs.Library.{ℕ, refl, sym, ap, ◌∙◌, List, map, arith}
use Rattle.numbers.specs.Prelude.{no_row}
use Rattle.rows.specs.Prelude.{get, items, shelves, body_of, links_of}
use Rattle.rows.specs.declared.{header.Header.Header, shelf.ShelfRow.ShelfRow}
use Rattle.chains.specs.Prelude.{◌∈◌, Each, Neighbours, first_of, Ends}
use Rattle.chains.proofs.Prelude.{each_at, each_from, gather_in, in_gather}
use Rattle.rules.specs.Prelude.{Shelf, item, shelf, freed_item_of, no_links, Holds, header_of, Stores, room_in, Filled, NotBothFree, FreeListed, AllListed, Shared}
use Rattle.rules.specs.Prelude.{WellFormed, shelf_next, item_next, shelves_met, items_met, free_met, all_items_met, freed_shelves_met, freed_items_met, item_in_of, shelf_in}
use Rattle.rules.specs.Prelude.{freed_in, atlas_in, one_free_of, ItemsRight, FreeListRight, Rule1, Rule2, Rule3, Rule5, Rule6, Rule7, Passes}
use Rattle.laws.proofs.Stored.Lists.{each_unmapped, first_map}
use Rattle.laws.proofs.Stored.Once.{few_items}
use Rattle.laws.proofs.Stored.Follow.{Says, chain_says, chain_ends}
use Rattle.laws.proofs.Stored.Items.{item_names, items_hold}
use Rattle.laws.proofs.Stored.FreeList.{free_in, in_free, in_live, free_back, free_ends}
use Rattle.laws.proofs.Stored.Shelves.{one_free, Heads, shelf_names, shelves_hold}
use Rattle.laws.proofs.Stored.Freed.{freed_shelf_ends, freed_shelf_zero, freed_item-next, freed_item_zero, occupied_area}
use Rattle.laws.proofs.Stored.Serving.{shelves_serving, items_serving, all_serving, freed_serving}

module _ (h : Header) (S I : List ℕ) (l : Stores h S I (atlas_in h S I)) (k : WellFormed (room_in S I) (atlas_in h S I)) where
  rule1 : Rule1 h S I
  unfolding room_in atlas_in
  rule1 = record { limits = k.shaped.limits; shelves_fit = k.sound.in_room.shelves; items_fit = k.sound.in_room.items }

  shelf_rows : Shared h.used_shelves (shelves_met h S) (freed_shelves_met h S)
  unfolding atlas_in
  shelf_rows = rw shelves_serving at k.sound.shelf_rows

  item_rows : Shared h.used_items (all_items_met h S I) (freed_items_met h I)
  unfolding atlas_in
  item_rows = rw (all_serving, freed_serving) at k.sound.item_rows

  -- what holds of each shelf, at a row that is met
  at_shelf : (P : Shelf → Type 0) → Each P (atlas_in h S I).shelves → (on : ℕ) → on ∈ shelves_met h S → P (shelf_in h S I on)
  unfolding atlas_in
  at_shelf P e on m = each_at (λ r. P (shelf_in h S I r)) (shelves_met h S) (each_unmapped (shelf_in h S I) P (shelves_met h S) e) on m

  -- ---- one shelf

  module _ (on : ℕ) (m : on ∈ shelves_met h S) where
    holds : Holds I (shelf_in h S I on)
    holds = at_shelf (Holds I) l.shelf_items on m

    below : (r : ℕ) → r ∈ items_met h S I on → r < h.used_items
    unfolding all_items_met
    below r w = item_rows.serving_used r (in_gather (items_met h S I) (shelves_met h S) on r m w)

    said : (p : ℕ) × (n : ℕ) × (get shelves S on ≡ shelf.says p (shelf_in h S I on) n)
    unfolding shelf_in
    said = at_shelf (Says shelf (get shelves S)) (chain_says shelf (get shelves S) no_row (atlas_in h S I).shelves l.shelf_chain) on m

    first_item : (get shelves S on).first_item.0 ≡ first_of (items_met h S I on)
    unfolding shelf_in item_in_of
    first_item = ap (λ (s : ShelfRow). s.first_item.0) said.2 ∙ first_map (λ i. i.row) (item_in_of I) (λ r. refl) (items_met h S I on)

    first_free : (get shelves S on).first_unallocated.0 ≡ first_of (free_met h S I on)
    unfolding shelf_in
    first_free = ap (λ (s : ShelfRow). s.first_unallocated.0) said.2

    items_end : Ends (item_next I) h.used_items (items_met h S I on)
    unfolding shelf_in
    items_end =
        rw items_serving at (chain_ends (item on) (λ r. body_of (get items I r)) (item_next I) h.used_items (item_names h I on) no_row (map (item_in_of I) (items_met h S I on))
        (λ r w. below r (rw items_serving at w)) holds.in_order)

    heads : Heads h S I on
    unfolding shelf_in
    heads = record {
      first_item = first_item;
      first_free = first_free;
      empty = ap (one_free_of h I) first_item ∙ one_free h I (items_met h S I on) (few_items rule1) items_end;
    }

    items_right : ItemsRight h S I on
    unfolding ItemsRight items_met shelf_in atlas_in
    items_right = record {
      starts = sym first_item;
      ends = items_end;
      holds = items_hold h I on _ (get shelves S on).x (items_met h S I on) holds.in_order
          (at_shelf (λ s. Filled h.limits s.x (s.x + h.limits.shelf_width) s.items) k.shaped.filled on m)
          (at_shelf (λ s. Neighbours NotBothFree s.items) k.shaped.free_apart on m);
    }

    list_right : FreeListRight h S I on
    unfolding shelf_in free_met
    list_right =
        let listed : FreeListed (shelf_in h S I on) = at_shelf FreeListed k.sound.free_listed on m in
        let among : (r : ℕ) → r ∈ free_met h S I on → (r ∈ items_met h S I on) × ((get items I r).allocated ≡ 0) = λ r w. free_in I (items_met h S I on) r (listed.only r w) in
        record {
          linked = record {
            starts = sym first_free;
            ends = free_ends I h.used_items no_row (free_met h S I on) (λ r w. below r (among r w).0) holds.free_order;
            holds = free_back I no_row (free_met h S I on) holds.free_order;
          };
          once = listed.once;
          exactly = λ r. (among r, λ w. at_shelf AllListed k.shaped.all_listed on m r (in_free I (items_met h S I on) r w.0 w.1));
        }

    unlinked : (r : ℕ) → r ∈ items_met h S I on → (get items I r).allocated ≡ 1 → links_of (get items I r) ≡ no_links
    unfolding shelf_in
    unlinked r w e = holds.live_unlinked r (in_live I (items_met h S I on) r w (λ z. omega arith))

  -- ---- the whole

  rule2 : Rule2 h S I
  unfolding Rule2 shelves_met atlas_in shelf_in
  rule2 = record {
    starts = sym (first_map (λ s. s.row) (shelf_in h S I) (λ r. refl) (shelves_met h S)) ∙ k.shaped.first;
    ends = rw shelves_serving at (chain_ends shelf (get shelves S) (shelf_next S) h.used_shelves (shelf_names h S I) no_row (map (shelf_in h S I) (shelves_met h S))
        (λ r w. shelf_rows.serving_used r (rw shelves_serving at w)) l.shelf_chain);
    holds = shelves_hold h S I (shelves_met h S) rule1.limits.s_least heads l.shelf_chain k.shaped.stacked k.shaped.empty_apart;
  }

  rule3 : Rule3 h S I
  unfolding Rule3
  rule3 = each_from (shelves_met h S) items_right

  rule5 : Rule5 h S I
  unfolding Rule5
  rule5 = each_from (shelves_met h S) list_right

  freed_shelves-end : Ends (shelf_next S) h.used_shelves (freed_shelves_met h S)
  unfolding atlas_in
  freed_shelves-end = freed_shelf_ends S h.used_shelves no_row (freed_shelves_met h S) (λ r w. ((shelf_rows.freed_exactly r).0 w).0) l.freed_shelves_lem

  freed_items-end : Ends (item_next I) h.used_items (freed_items_met h I)
  unfolding atlas_in
  freed_items-end =
      rw freed_serving at (chain_ends freed_item_of (get items I) (item_next I) h.used_items (λ f p n. freed_item-next I f.row n f.generation) no_row
      (map (freed_in I) (freed_items_met h I)) (λ r w. ((item_rows.freed_exactly r).0 (rw freed_serving at w)).0) l.freed_items_lem)

  rule6 : Rule6 h S I
  unfolding header_of atlas_in freed_in freed_shelves_met freed_items_met
  rule6 = record {
    shelves_freed = record {
      starts = sym (ap (λ (q : Header). q.free_shelves.0) l.header);
      ends = freed_shelves-end;
      once = shelf_rows.freed_once;
      exactly = shelf_rows.freed_exactly;
    };
    items_freed = record {
      starts = sym (ap (λ (q : Header). q.free_items.0) l.header ∙ first_map (λ f. f.row) (freed_in I) (λ r. refl) (freed_items_met h I));
      ends = freed_items-end;
      once = item_rows.freed_once;
      exactly = item_rows.freed_exactly;
    };
  }

  rule7 : Rule7 h S I
  unfolding header_of atlas_in all_items_met
  rule7 = record {
    occupied = ap (λ (q : Header). q.occupied) l.header ∙ occupied_area h S I (shelves_met h S);
    live_unlinked = each_from (all_items_met h S I) (λ r w. let (on, m, v) = gather_in (items_met h S I) (shelves_met h S) r w in unlinked on m r v);
    freed_shelves_zero = freed_shelf_zero S no_row (freed_shelves_met h S) l.freed_shelves_lem;
    freed_items_zero = freed_item_zero I no_row (freed_items_met h I) l.freed_items_lem;
  }

  pub passes_read : Passes h S I
  passes_read = record {
    rule1 = rule1;
    rule2 = rule2;
    rule3 = rule3;
    rule4 = record { shelves_once = shelf_rows.serving_once; items_once = item_rows.serving_once };
    rule5 = rule5;
    rule6 = rule6;
    rule7 = rule7;
  }
