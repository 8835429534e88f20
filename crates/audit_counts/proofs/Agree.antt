-- Where rules 2 and 3 hold, the lists agree with the totals exactly when rules 5 to 7 hold. Assumes nothing.
use Rattle.std.specs.Prelude.{◌≡◌, ◌≢◌, ◌+◌, ◌≤◌}
use Rattle.numbers.specs.Library.{sym, ap, ◌∙◌, List, ℕ, ℕ_discrete, arith, eq-eqb, ne_eqb, length}
use Rattle.numbers.specs.Prelude.{no_row}
use Rattle.rows.specs.Prelude.{get, items, Links, links_of}
use Rattle.rows.specs.declared.{header.Header.Header, item.ItemRow.ItemRow}
use Rattle.chains.specs.Prelude.{◌∈◌}
use Rattle.chains.proofs.Prelude.{each_at, each_from}
use Rattle.rules.specs.Prelude.{no_links, shelves_met, all_items_met, freed_shelves_met, freed_items_met, Rule1, Rule2, Rule3, Rule5, Rule6, Rule7}
use Rattle.laws.proofs.Stored.Once.{all_flagged}
use Rattle.audit_counts.specs.declared.Totals.{Totals}
use Rattle.audit_counts.specs.Counts.{apart, stray_in, stray_of, AllCounts, ListsAgree}
use Rattle.audit_counts.proofs.Sums.{sum_none, none_sum}
use Rattle.audit_counts.proofs.FreedRows.{freed_shelves_right, right_freed_shelves, freed_items_right, right_freed_items, wide_serves}
use Rattle.audit_counts.proofs.FreeLists.{lists_right, right_lists, right_total}

-- ---- a live item's free links

not_apart : (a b : ℕ) → apart a b ≡ 0 → a ≡ b
unfolding apart
not_apart a b e = omega arith

same_apart : (a b : ℕ) → a ≡ b → apart a b ≡ 0
unfolding apart
same_apart a b e = omega arith

links_none : (p n : ℕ) → p ≡ no_row → n ≡ no_row → record { prev = p; next = n } ≡ no_links
links_none p n e f = rw (e, f)

unlinked : (i : ItemRow) → stray_in i ≡ 0 → i.allocated ≡ 1 → links_of i ≡ no_links
unfolding stray_in links_of
unlinked i e a =
    let live : i.allocated ≢ 0 = λ z. omega arith in
    let none : apart i.prev_unallocated.0 no_row + apart i.next_unallocated.0 no_row ≡ 0 = rw (ne_eqb _ _ live) at e in
    links_none i.prev_unallocated.0 i.next_unallocated.0 (not_apart _ _ (omega arith)) (not_apart _ _ (omega arith))

no_stray : (i : ItemRow) → i.allocated ≤ 1 → (i.allocated ≡ 1 → links_of i ≡ no_links) → stray_in i ≡ 0
unfolding stray_in links_of
no_stray i b f = go (ℕ_discrete i.allocated 0) where
  go : Dec (i.allocated ≡ 0) → stray_in i ≡ 0
  go (yes e) = rw (eq-eqb _ _ e)
  go (no n) =
      let e = f (omega (arith, n)) in
      let p : i.prev_unallocated.0 ≡ no_row = ap (λ (l : Links). l.prev) e in
      let q : i.next_unallocated.0 ≡ no_row = ap (λ (l : Links). l.next) e in
      rw (ne_eqb _ _ n) (omega (arith, same_apart _ _ p, same_apart _ _ q))

-- ---- the theorem

module _ {h : Header} {S I : List ℕ} (one : Rule1 h S I) (two : Rule2 h S I) (three : Rule3 h S I) (t : Totals) (n : AllCounts h S I t) where
  module _ (a : ListsAgree h S I t) where
    freed_shelves-count : length (shelves_met h S) + length (freed_shelves_met h S) ≡ h.used_shelves
    freed_shelves-count = rw (← n.shelves) a.all_shelves

    freed_items-count : length (all_items_met h S I) + length (freed_items_met h I) ≡ h.used_items
    freed_items-count = rw (← n.items) a.all_items

    pub agree_5 : Rule5 h S I
    agree_5 = lists_right one three (wide_serves one two three a.freed_items_lem freed_items-count) a.free_lists (a.all_free ∙ n.free)

    pub agree_6 : Rule6 h S I
    agree_6 = record {
      shelves_freed = (freed_shelves_right one two three a.freed_shelves_lem freed_shelves-count).0;
      items_freed = (freed_items_right one two three a.freed_items_lem freed_items-count).0;
    }

    pub agree_7 : Rule7 h S I
    agree_7 = record {
      occupied = sym a.occupied ∙ n.area;
      live_unlinked = each_from (all_items_met h S I) (λ r m. unlinked (get items I r) (sum_none (stray_of I) (all_items_met h S I) (sym n.stray ∙ a.no_stray) r m));
      freed_shelves_zero = (freed_shelves_right one two three a.freed_shelves_lem freed_shelves-count).1;
      freed_items_zero = (freed_items_right one two three a.freed_items_lem freed_items-count).1;
    }

  pub rules_agree : Rule5 h S I → Rule6 h S I → Rule7 h S I → ListsAgree h S I t
  rules_agree five six seven =
      let s = right_freed_shelves one two three six.shelves_freed seven.freed_shelves_zero in
      let i = right_freed_items one two three six.items_freed seven.freed_items_zero in
      let unstray : (r : ℕ) → r ∈ all_items_met h S I → stray_of I r ≡ 0 =
      λ r m. no_stray (get items I r) (all_flagged one three r m)
      (each_at (λ r. (get items I r).allocated ≡ 1 → links_of (get items I r) ≡ no_links) (all_items_met h S I) seven.live_unlinked r m) in
      record {
        no_stray = n.stray ∙ none_sum (stray_of I) (all_items_met h S I) unstray;
        occupied = n.area ∙ sym seven.occupied;
        freed_shelves_lem = s.0;
        all_shelves = rw n.shelves s.1;
        freed_items_lem = i.0;
        all_items = rw n.items i.1;
        free_lists = right_lists one three five;
        all_free = right_total one three five ∙ sym n.free;
      }
