-- Where the seven rules hold, the atlas that is met in the tables lies there, and keeps what an atlas keeps. Assumes nothing.
use Rattle.std.specs.Prelude.{◌+◌, ◌≡◌}
use Rattle.numbers.specs.Library.{ℕ, refl, sym, ap, ◌∙◌, List, map, arith}
use Rattle.numbers.specs.Prelude.{no_row}
use Rattle.rows.specs.Prelude.{get, items, shelves, links_of}
use Rattle.rows.specs.declared.header.Header.{Header}
use Rattle.chains.specs.Prelude.{◌∈◌, Each, Neighbours, Ends}
use Rattle.chains.proofs.Prelude.{each_at, each_from, in_gather}
use Rattle.rules.specs.Prelude.{Shelf, no_links, Holds, header_of, Stores, room_in, Filled, NotBothFree, shelf_rows_of, all_item_rows, freed_rows, FreeListed, AllListed}
use Rattle.rules.specs.Prelude.{Shared, Sound, Shaped, WellFormed, item_next, shelves_met, items_met, free_met, all_items_met, freed_shelves_met, freed_items_met}
use Rattle.rules.specs.Prelude.{shelf_in, freed_in, atlas_in, at_top_of, at_left_of, one_free_of, ItemsRight, FreeListRight, Rule2, Rule5, Passes}
use Rattle.laws.proofs.Stored.Lists.{each_mapped, first_map}
use Rattle.laws.proofs.Stored.Once.{few_items, items_right, items_flagged, shelves_below, all_below}
use Rattle.laws.proofs.Stored.Items.{items_chain, items_filled, items_apart}
use Rattle.laws.proofs.Stored.FreeList.{free_in, in_free, live_in, free_chain}
use Rattle.laws.proofs.Stored.Shelves.{one_free, Heads, shelves_chain, shelves_stacked, shelves_apart}
use Rattle.laws.proofs.Stored.Freed.{freed_shelf_chain, freed_item_chain, occupied_area}
use Rattle.laws.proofs.Stored.Serving.{shelves_serving, all_serving, freed_serving}

module _ (h : Header) (S I : List ℕ) (p : Passes h S I) where
  -- ---- one shelf

  module _ (on : ℕ) (m : on ∈ shelves_met h S) where
    right : ItemsRight h S I on
    right = items_right p.rule1 p.rule3 on m

    list_right : FreeListRight h S I on
    unfolding Rule5
    list_right = each_at (FreeListRight h S I) (shelves_met h S) p.rule5 on m

    items_end : Ends (item_next I) h.used_items (items_met h S I on)
    unfolding ItemsRight items_met
    items_end = right.ends

    heads : Heads h S I on
    unfolding ItemsRight items_met free_met shelf_in
    heads = record {
      first_item = sym right.starts;
      first_free = sym list_right.linked.starts;
      empty = ap (one_free_of h I) (sym right.starts) ∙ one_free h I (items_met h S I on) (few_items p.rule1) items_end;
    }

    shelf_holds : Holds I (shelf_in h S I on)
    unfolding ItemsRight items_met free_met shelf_in all_items_met
    shelf_holds = record {
      in_order = items_chain h I on h.used_items ((get shelves S on).x + h.limits.shelf_width) (at_left_of (get shelves S on)) (items_met h S I on) items_end right.holds;
      free_order = free_chain I h.used_items no_row (free_met h S I on) list_right.linked.ends list_right.linked.holds;
      live_unlinked = λ r k.
          let (w, n) = live_in I (items_met h S I on) r k in
          each_at (λ r. (get items I r).allocated ≡ 1 → links_of (get items I r) ≡ no_links) (all_items_met h S I) p.rule7.live_unlinked r
          (in_gather (items_met h S I) (shelves_met h S) on r m w) (omega (arith, items_flagged p.rule1 p.rule3 on m r w));
    }

  -- ---- the whole

  pub reads : Stores h S I (atlas_in h S I)
  unfolding Rule2 shelves_met atlas_in header_of freed_shelves_met freed_items_met freed_in
  reads = record {
    header = λ z. record {
      limits = h.limits;
      used_shelves = h.used_shelves;
      used_items = h.used_items;
      free_items = record { 0 = sym (first_map (λ f. f.row) (freed_in I) (λ r. refl) (freed_items_met h I) ∙ p.rule6.items_freed.starts) z };
      free_shelves = record { 0 = sym p.rule6.shelves_freed.starts z };
      occupied = (p.rule7.occupied ∙ sym (occupied_area h S I (shelves_met h S))) z;
    };
    shelf_chain = shelves_chain h S I at_top_of (shelves_met h S) heads p.rule2.ends p.rule2.holds;
    shelf_items = each_mapped (shelf_in h S I) (Holds I) (shelves_met h S) (each_from (shelves_met h S) shelf_holds);
    freed_shelves_lem = freed_shelf_chain S h.used_shelves no_row (freed_shelves_met h S) p.rule6.shelves_freed.ends p.rule7.freed_shelves_zero;
    freed_items_lem = freed_item_chain I h.used_items no_row (freed_items_met h I) p.rule6.items_freed.ends p.rule7.freed_items_zero;
  }

  shared_shelves : Shared h.used_shelves (shelf_rows_of (map (shelf_in h S I) (shelves_met h S))) (freed_shelves_met h S)
  unfolding Rule2 shelves_met freed_shelves_met
  shared_shelves = rw shelves_serving (record {
    serving_once = p.rule4.shelves_once;
    serving_used = shelves_below p.rule1 p.rule2;
    freed_once = p.rule6.shelves_freed.once;
    freed_exactly = p.rule6.shelves_freed.exactly;
  })

  shared_items : Shared h.used_items (all_item_rows (map (shelf_in h S I) (shelves_met h S))) (freed_rows (map (freed_in I) (freed_items_met h I)))
  unfolding freed_items_met
  shared_items = rw (all_serving, freed_serving) (record {
    serving_once = p.rule4.items_once;
    serving_used = all_below p.rule1 p.rule3;
    freed_once = p.rule6.items_freed.once;
    freed_exactly = p.rule6.items_freed.exactly;
  })

  -- what is asked of each shelf, once it is shown for each row that is met
  each_shelf : (P : Shelf → Type 0) → ((on : ℕ) → on ∈ shelves_met h S → P (shelf_in h S I on)) → Each P (map (shelf_in h S I) (shelves_met h S))
  each_shelf P f = each_mapped (shelf_in h S I) P (shelves_met h S) (each_from (shelves_met h S) f)

  sound : Sound (room_in S I) (atlas_in h S I)
  unfolding room_in atlas_in shelf_in
  sound = record {
    in_room = record { shelves = p.rule1.shelves_fit; items = p.rule1.items_fit };
    free_listed = each_shelf FreeListed (λ on m. record {
      once = (list_right on m).once;
      only = λ r k. let (w, e) = ((list_right on m).exactly r).0 k in in_free I (items_met h S I on) r w e;
    });
    shelf_rows = shared_shelves;
    item_rows = shared_items;
  }

  shaped : Shaped (atlas_in h S I)
  unfolding atlas_in shelf_in Rule2 shelves_met ItemsRight items_met
  shaped = record {
    limits = p.rule1.limits;
    first = first_map (λ s. s.row) (shelf_in h S I) (λ r. refl) (shelves_met h S) ∙ p.rule2.starts;
    stacked = shelves_stacked h S I at_top_of (shelves_met h S) p.rule2.holds;
    empty_apart = shelves_apart h S I at_top_of (shelves_met h S) p.rule1.limits.s_least heads p.rule2.holds;
    filled = each_shelf (λ s. Filled h.limits s.x (s.x + h.limits.shelf_width) s.items)
        (λ on m. items_filled h I on _ (at_left_of (get shelves S on)) (items_met h S I on) (right on m).holds);
    free_apart = each_shelf (λ s. Neighbours NotBothFree s.items) (λ on m. items_apart h I on _ (at_left_of (get shelves S on)) (items_met h S I on) (right on m).holds);
    all_listed = each_shelf AllListed (λ on m r k. ((list_right on m).exactly r).1 (free_in I (items_met h S I on) r k));
  }

  pub formed : WellFormed (room_in S I) (atlas_in h S I)
  formed = record { sound = sound; shaped = shaped }
