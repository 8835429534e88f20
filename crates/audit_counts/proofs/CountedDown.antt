-- Loops that are told how many rows a chain has: they go on for so many rows and then look whether the chain ends there. A free list, and the freed item
-- rows. Assumes nothing.
use Rattle.std.specs.Prelude.{◌≡◌, ◌+◌, ◌-◌, ◌≤◌, ◌<◌}
use Rattle.numbers.specs.Library.{List, ℕ, arith, length}
use native.Mathlib.Nat.{sub-zero}
use Rattle.numbers.specs.Prelude.{no_row}
use Rattle.pool.specs.Pool.{FreedItem}
use Rattle.rows.specs.Prelude.{get, items}
use Rattle.rows.specs.declared.{header.Header.Header, item.ItemRow.ItemRow}
use Rattle.chains.specs.Prelude.{rows_from}
use Rattle.rules.specs.Prelude.{free_next, freed_items_met}
use Rattle.audit_counts.specs.Counts.{FreeItemAt, FreeListAt, FreedItems}
use Rattle.audit_counts.proofs.ListTurns.{Counting, counting_begins, there, past_row}

-- ---- any of them

-- The loop in row `cur`, where `left` of `most` rows are still due. A chain among `n` rows could go on for `n - most` steps more.
pub record Due {σ R : Type 0} (row : ℕ → R) (ok : σ → R → Type 0) (link : R → ℕ) (next : σ → ℕ → σ) (n : ℕ) (A : Type 0) (total most cur left : ℕ) (s : σ) : Type 0 where
  pub counting : Counting row ok link next n A total cur (left + (n - most)) s
  pub most_rows_lem : most ≤ n

module _ {σ R : Type 0} {row : ℕ → R} {ok : σ → R → Type 0} {link : R → ℕ} {next : σ → ℕ → σ} {n : ℕ} {A : Type 0} {total most cur : ℕ} {s : σ} where
  due_begins : Counting row ok link next n A total cur n s → most ≤ n → Due row ok link next n A total most cur most s
  due_begins c m = let e : most + (n - most) ≡ n = omega arith in record { counting = rw e c; most_rows_lem = m }

  module _ {left : ℕ} (w : Due row ok link next n A total most cur left s) where
    module _ (u : cur < n) (i : R) (e : i ≡ row cur) where
      pub due_past : {less : ℕ} → less + 1 ≡ left → ok s i → Due row ok link next n A total most (link i) less (next s cur)
      due_past l o = record { counting = past_row w.counting (there w.counting u) i e (omega arith) u o; most_rows_lem = w.most_rows_lem }

-- ---- a free list

abbrev pub DueFree : Header → List ℕ → ℕ → ℕ → ℕ → ℕ → ℕ → ℕ → Type 0
DueFree h I on first most cur left prev =
    Due (get items I) (FreeItemAt on) (λ (i : ItemRow). i.next_unallocated.0) (λ (prev : ℕ) r. r) h.used_items
    (FreeListAt h I on first) (length (rows_from (free_next I) h.used_items first)) most cur left prev

pub free_due : (h : Header) (I : List ℕ) (on first most : ℕ) → h.used_items ≤ no_row → most ≤ h.used_items → DueFree h I on first most first (most - 0) no_row
unfolding FreeListAt
free_due h I on first most b m = rw (sub-zero most) (due_begins (counting_begins b) m)

-- ---- the freed item rows

abbrev pub DueFreed : Header → List ℕ → ℕ → ℕ → ℕ → Type 0
DueFreed h I most cur left =
    Due (get items I) (λ (u : Unit {0}). FreedItem) (λ (i : ItemRow). i.next.0) (λ (u : Unit {0}) r. u) h.used_items
    (FreedItems h I) (length (freed_items_met h I)) most cur left tt

pub freed_due : (h : Header) (I : List ℕ) (most : ℕ) → h.used_items ≤ no_row → most ≤ h.used_items → DueFreed h I most h.free_items.0 (most - 0)
unfolding FreedItems freed_items_met
freed_due h I most b m = rw (sub-zero most) (due_begins (counting_begins b) m)
