-- A list written over part by part, from its front on: what is written so far, and the rest as it was. Assumes nothing.
use Rattle.std.specs.Prelude.{◌+◌, ◌-◌, ◌≤◌, ◌≡◌, ◌∷◌, ◌++◌}
use Rattle.numbers.specs.Library.{ℕ, zero, suc, refl, sym, ap, ◌∙◌, List, [], append_assoc, append-nil, length, length-append, length-drop, take, drop, arith}
use lib.ListN.{drop_of_length-le}
use lib.Seq.{take_at, take-take, drop_at, drop-drop}

pub record Written (old front : List ℕ) (at : ℕ) (now : List ℕ) : Type 0 where
  pub long : length front ≡ at
  pub is : now ≡ front ++ drop at old

pub written_none : (old : List ℕ) → Written old [] 0 old
written_none old = record { long = refl; is = refl }

pub written_first : (old v : List ℕ) (k : ℕ) → length v ≡ k → Written old v k (v ++ drop k old)
written_first old v k e = record { long = e; is = refl }

-- and the list is as long as it was, up to `at`
pub length-written : {old front now : List ℕ} {at : ℕ} → Written old front at now → length now ≡ at + (length old - at)
length-written {old} {front} {now} {at} w = ap length w.is ∙ length-append front (drop at old) ∙ omega (arith, w.long, length-drop at old)

-- the part of k from `at` on, lent and written
pub written_next : {old front now : List ℕ} {at : ℕ} → Written old front at now → (v : List ℕ) (k : ℕ) → length v ≡ k
    → Written old (front ++ v) (at + k) (take at now ++ (v ++ drop k (drop at now)))
written_next {old} {front} {now} {at} w v k e =
    let before : take at now ≡ front = ap (take at) w.is ∙ take_at front (drop at old) at w.long in
    let after : drop at now ≡ drop at old = ap (drop at) w.is ∙ drop_at front (drop at old) at w.long in
    record {
      long = length-append front v ∙ omega (arith, w.long);
      is = rw (before, after, drop-drop k at old) (sym (append_assoc front v (drop (at + k) old)));
    }

-- the same, where the end of the part is given
pub written_to : {old front now : List ℕ} {at : ℕ} → Written old front at now → (v : List ℕ) (k to : ℕ) → length v ≡ k → at + k ≡ to
    → Written old (front ++ v) to (take at now ++ (v ++ drop k (drop at now)))
written_to w v k to e s = rw (← s) (written_next w v k e)

pub written_all : {old front now : List ℕ} {at : ℕ} → Written old front at now → length old ≤ at → now ≡ front
written_all {old} {front} {now} {at} w b = w.is ∙ ap (λ (l : List ℕ). front ++ l) (drop_of_length-le old {i = at} b) ∙ append-nil front

-- a part of the front of a list is a part of the list
pub part_take : (m n k : ℕ) (l : List ℕ) → n + m ≤ k → take m (drop n (take k l)) ≡ take m (drop n l)
part_take m zero k l b = take-take m k l (omega arith)
part_take m (suc n) zero l b = absurd (omega arith)
part_take m (suc n) (suc k) [] b = refl
part_take m (suc n) (suc k) (x ∷ l) b = part_take m n k l (omega arith)
