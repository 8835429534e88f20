-- What the fast walk finds is enough for all the rules to hold. The walk goes by the loose header, which differs from the header in its alignments
-- alone; after rule 1, only rule 3 asks for one: so the widths' alignment is all that is left to add. Assumes nothing.
use Rattle.std.specs.Prelude.{◌≡◌, ◌+◌, ◌%◌, ◌^◌}
use Rattle.numbers.specs.Library.{refl, ◌∙◌, List, ℕ, arith, eqb, length}
use native.Mathlib.Nat.{mod-one}
use Rattle.numbers.specs.Prelude.{pick_same, along_step}
use Rattle.rows.specs.Prelude.{get, items, shelves}
use Rattle.rows.specs.declared.header.Header.{Header}
use Rattle.chains.specs.Prelude.{◌∈◌, Each}
use Rattle.chains.proofs.Prelude.{each_at, each_from, in_gather, walk_map}
use Rattle.rules.specs.Prelude.{shelves_met, items_met, all_items_met, freed_shelves_met, freed_items_met, ItemRight, ItemsRight, Rule1, Rule2, Rule3, Passes, sum_over, area_met}
use Rattle.laws.proofs.Stored.Once.{no_row_twice}
use Rattle.audit_counts.specs.declared.Totals.{Totals}
use Rattle.audit_counts.specs.Counts.{AllCounts, FreeListAt, all_free_met, FreedShelves, FreedItems, ListsAgree}
use Rattle.audit_counts.specs.Fast.{loose, odd_of}
use Rattle.audit_counts.proofs.Sums.{sum-gather, sum_none}
use Rattle.audit_counts.proofs.FreeListsByPlace.{wide_lists}
use Rattle.audit_counts.proofs.Agree.{agree_5, agree_6, agree_7}

-- ---- the loose header

pub loose_aligned : (h : Header) (w : ℕ) → w % along_step (loose h).limits ≡ 0
unfolding loose along_step
loose_aligned h w = rw (pick_same {X = ℕ} (eqb h.limits.vertical 1) 1 1 refl) (mod-one w)

pub loose_1 : {h : Header} {S I : List ℕ} → Rule1 h S I → Rule1 (loose h) S I
unfolding loose
loose_1 {h} one =
    let l = one.limits in
    record {
      limits = record {
        sizes = l.sizes;
        options = record {
          align_width_least = omega arith;
          align_width_most = omega arith;
          align_height_least = omega arith;
          align_height_most = omega arith;
          vertical = l.options.vertical;
        };
        s_least = l.s_least;
        s_most = l.s_most;
        s_aligned = loose_aligned h _;
      };
      shelves_fit = one.shelves_fit;
      items_fit = one.items_fit;
    }

-- the counts ask for no alignment
tight_counts : {h : Header} {S I : List ℕ} {t : Totals} → AllCounts (loose h) S I t → AllCounts h S I t
unfolding loose all_items_met area_met
tight_counts n = record { shelves = n.shelves; items = n.items; free = n.free; stray = n.stray; area = n.area }

-- ---- the widths

-- every item's width is a multiple of the along alignment
abbrev pub AllAligned : Header → List ℕ → List ℕ → Type 0
AllAligned h S I = (r : ℕ) → r ∈ all_items_met h S I → (get items I r).width % along_step h.limits ≡ 0

module _ (h : Header) (S I : List ℕ) where
  -- as one sum over all the shelves tells it
  pub none_odd : (k : ℕ) → along_step h.limits ≡ 2 ^ k → sum_over (λ on. sum_over (odd_of k I) (items_met h S I on)) (shelves_met h S) ≡ 0 → AllAligned h S I
  unfolding all_items_met
  none_odd k is e = rw is (sum_none (odd_of k I) (all_items_met h S I) (sum-gather (odd_of k I) (items_met h S I) (shelves_met h S) ∙ e))

  module _ (aligned : AllAligned h S I) where
    tight_items : (on : ℕ) → on ∈ shelves_met h S → ItemsRight (loose h) S I on → ItemsRight h S I on
    unfolding loose ItemsRight all_items_met
    tight_items on m w =
        walk_map w (λ d r. ItemRight h on d (get items I r))
        (λ d r k o. record {
          back = o.back;
          named = o.named;
          at_x = o.at_x;
          some_width = o.some_width;
          aligned = aligned r (in_gather (items_met h S I) (shelves_met h S) on r m k);
          flag_right = o.flag_right;
          apart = o.apart;
        })

    pub tight_3 : Rule3 (loose h) S I → Rule3 h S I
    unfolding loose Rule3
    tight_3 three = each_from (shelves_met h S) (λ on m. tight_items on m (each_at _ (shelves_met h S) three on m))

-- ---- the theorem

-- all that the fast walk finds, with the totals t
pub record Found (h : Header) (S I : List ℕ) (t : Totals) : Type 0 where
  pub shelves_right : Rule2 h S I
  pub items_right : Rule3 (loose h) S I
  pub counts : AllCounts (loose h) S I t
  pub aligned : AllAligned h S I
  pub no_stray : t.stray ≡ 0
  pub occupied : t.area ≡ h.occupied
  pub lists : Each (λ on. FreeListAt h I on (get shelves S on).first_unallocated.0) (shelves_met h S)
  pub all_free : length (all_free_met h S I) ≡ t.free
  pub freed_shelves_lem : FreedShelves h S
  pub all_shelves : t.shelves + length (freed_shelves_met h S) ≡ h.used_shelves
  pub freed_items_lem : FreedItems h I
  pub all_items : t.items + length (freed_items_met h I) ≡ h.used_items

module _ {h : Header} {S I : List ℕ} (one : Rule1 h S I) (t : Totals) (f : Found h S I t) where
  three : Rule3 h S I
  three = tight_3 h S I f.aligned f.items_right

  totals : AllCounts h S I t
  totals = tight_counts f.counts

  agree : ListsAgree h S I t
  agree = record {
    no_stray = f.no_stray;
    occupied = f.occupied;
    freed_shelves_lem = f.freed_shelves_lem;
    all_shelves = f.all_shelves;
    freed_items_lem = f.freed_items_lem;
    all_items = f.all_items;
    free_lists = wide_lists one f.shelves_right three f.freed_items_lem (rw (← totals.items) f.all_items) f.lists;
    all_free = f.all_free;
  }

  pub found_passes : Passes h S I
  found_passes = record {
    rule1 = one;
    rule2 = f.shelves_right;
    rule3 = three;
    rule4 = no_row_twice one f.shelves_right three;
    rule5 = agree_5 one f.shelves_right three t totals agree;
    rule6 = agree_6 one f.shelves_right three t totals agree;
    rule7 = agree_7 one f.shelves_right three t totals agree;
  }
