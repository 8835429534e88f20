-- Parts of a list of numbers: the k numbers from some place on, taken out or replaced, and a list written out by its elements.
-- Assumes nothing.
use Rattle.std.specs.Prelude.{◌≡◌, ◌∷◌, ◌++◌, ◌+◌, ◌-◌, ◌≤◌, ◌<◌}
use Rattle.numbers.specs.Library.{sym, ap, ◌∙◌, subst, List, [], append-nil, ℕ, zero, suc, arith, length, get_or, take, drop}
use Rattle.numbers.specs.Library.{length-append, length-drop, length-take-le, drop-cons}
use Rattle.std.proofs.Common.{drop_of_length-le, get_or-append-add}
use Rattle.std.proofs.Math.ListN.{get_or-append}
use Rattle.std.proofs.Math.Seq.{get_or-take, get_or-drop}
use Rattle.std.proofs.lemmas.List.Edits.{sets, sets-eq}

-- the k numbers from b on, and the list with them replaced
unfoldable pub cut : ℕ → List ℕ → ℕ → List ℕ
cut k l b = take k (drop b l)

unfoldable pub splice : ℕ → List ℕ → ℕ → List ℕ → List ℕ
splice k l b r = take b l ++ r ++ drop (b + k) l

pub length_cut : (k : ℕ) (l : List ℕ) (b : ℕ) → b + k ≤ length l → length (cut k l b) ≡ k
unfolding cut
length_cut k l b h = length-take-le k (drop b l) (simp length-drop (omega arith))

pub get_d_cut : (k : ℕ) (l : List ℕ) (b n : ℕ) → n < k → get_or (cut k l b) n 0 ≡ get_or l (b + n) 0
unfolding cut
get_d_cut k l b n h = get_or-take k (drop b l) n 0 h ∙ get_or-drop b l n 0

module _ (k : ℕ) (l : List ℕ) (b : ℕ) (r : List ℕ) (long : length r ≡ k) (fits : b + k ≤ length l) where
  head_length : length (take b l) ≡ b
  head_length = length-take-le b l (omega arith)

  front_length : length (take b l ++ r) ≡ b + k
  front_length = length-append (take b l) r ∙ (cc (head_length, long))

  pub length-splice : length (splice k l b r) ≡ length l
  unfolding splice
  length-splice =
      length-append (take b l ++ r) (drop (b + k) l) ∙ (omega (arith, front_length, length-drop (b + k) l))

  pub before : (n : ℕ) → n < b → get_or (splice k l b r) n 0 ≡ get_or l n 0
  unfolding splice
  before n h =
      get_or-append (take b l ++ r) (drop (b + k) l) 0 n (omega (arith, front_length))
      ∙ get_or-append (take b l) r 0 n (omega (arith, head_length))
      ∙ get_or-take b l n 0 h

  pub inside : (n : ℕ) → n < k → get_or (splice k l b r) (b + n) 0 ≡ get_or r n 0
  unfolding splice
  inside n h =
      get_or-append (take b l ++ r) (drop (b + k) l) 0 (b + n) (omega (arith, front_length))
      ∙ subst (λ (m : ℕ). get_or (take b l ++ r) (m + n) 0 ≡ get_or r n 0) head_length (get_or-append-add (take b l) r n 0)

  pub after : (n : ℕ) → b + k ≤ n → get_or (splice k l b r) n 0 ≡ get_or l n 0
  unfolding splice
  after n h =
      let e : b + k + (n - (b + k)) ≡ n = omega arith in
      subst (λ (m : ℕ). get_or (take b l ++ r ++ drop (b + k) l) m 0 ≡ get_or l m 0) e
      (subst (λ (m : ℕ). get_or (take b l ++ r ++ drop (b + k) l) (m + (n - (b + k))) 0 ≡ get_or l (b + k + (n - (b + k))) 0) front_length
      (get_or-append-add (take b l ++ r) (drop (b + k) l) (n - (b + k)) 0 ∙ get_or-drop (b + k) l (n - (b + k)) 0))

-- k elements from i on, each taken out by its index
abbrev pub each : ℕ → ℕ → List ℕ → List ℕ
each zero i r = []
each (suc k) i r = get_or r i 0 ∷ each k (suc i) r

each_from : (k i : ℕ) (r : List ℕ) → length r ≡ i + k → each k i r ≡ drop i r
each_from zero i r e = sym (drop_of_length-le r {i = i} (omega arith))
each_from (suc k) i r e = rw (drop-cons r i 0 (omega arith)) (ap (λ (t : List ℕ). get_or r i 0 ∷ t) (each_from k (suc i) r (omega arith)))

-- a list of k is its elements: what `forth` asks of a shape whose `value` goes by indices
pub each_all : (k : ℕ) (r : List ℕ) → length r ≡ k → each k 0 r ≡ r
each_all k r e = each_from k 0 r (omega arith)

-- a list that is stored over whole is what was stored: `sets` at a list that is written out computes to the stores themselves
pub sets_all : (l vs : List ℕ) → length l ≡ length vs → sets l 0 vs ≡ vs
sets_all l vs e =
    sets-eq vs l 0 (omega arith)
    ∙ ap (λ (t : List ℕ). vs ++ t) (drop_of_length-le l {i = 0 + length vs} (omega arith))
    ∙ append-nil vs
