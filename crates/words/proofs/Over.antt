-- A list written over element by element: the first i elements are the new ones, the rest the old. And words that are summed, or or-ed, one by one.
-- Assumes nothing.
use Rattle.std.specs.Prelude.{◌+◌, ◌*◌, ◌/◌, ◌%◌, ◌<◌, ◌≤◌, ◌≡◌, ◌++◌, ◌∷◌}
use Rattle.numbers.specs.Library.{ℕ, zero, suc, refl, sym, ap, ◌∙◌, List, [], append_assoc, length, get_or, set, take, drop}
use Rattle.numbers.specs.Library.{arith, add-one, drop-cons, take-suc, take_all, length-take-le, length-set, eqb, eqb-true, eq-eqb}
use lib.Bits.{bit_or, and_le_l, and_le_r, or_add_and}
use lib.Seq.{set_at}
use Rattle.numbers.specs.Prelude.{Decides}
use Rattle.image_form.specs.Bytes.{bytes_of, total}
use Rattle.image_form.proofs.Words.{length_bytes, total_append}

pub record Over (old new : List ℕ) (i : ℕ) (now : List ℕ) : Type 0 where
  pub as_long : length new ≡ length old
  pub kept : length now ≡ length old
  pub is : now ≡ take i new ++ drop i old

module _ {old new : List ℕ} where
  pub over_none : length new ≡ length old → Over old new 0 old
  over_none e = record { as_long = e; kept = refl; is = refl }

  pub over_next : {i : ℕ} {now : List ℕ} → i < length old → Over old new i now → (v : ℕ) → v ≡ get_or new i 0 → Over old new (i + 1) (set now i v)
  over_next {i} {now} b o v e =
      let b' : i < length new = omega (arith, o.as_long) in
      let before : length (take i new) ≡ i = length-take-le i new (omega arith) in
      record {
        as_long = o.as_long;
        kept = length-set now i v ∙ o.kept;
        is = rw (o.is, e, add-one, drop-cons old i 0, take-suc new i 0, append_assoc) (set_at (take i new) (get_or old i 0) (drop (suc i) old) (get_or new i 0) i before);
      }

-- ---- the two bytes of a word

pub low_byte : (ws : List ℕ) (i : ℕ) → i < length ws → get_or (bytes_of ws) (2 * i) 0 ≡ get_or ws i 0 % 256
unfolding bytes_of
low_byte [] i b = absurd (omega arith)
low_byte (w ∷ ws) zero b = refl
low_byte (w ∷ ws) (suc i) b = let e : 2 * suc i ≡ suc (suc (2 * i)) = omega arith in rw e (low_byte ws i (omega arith))

pub high_byte : (ws : List ℕ) (i : ℕ) → i < length ws → get_or (bytes_of ws) (2 * i + 1) 0 ≡ get_or ws i 0 / 256
unfolding bytes_of
high_byte [] i b = absurd (omega arith)
high_byte (w ∷ ws) zero b = refl
high_byte (w ∷ ws) (suc i) b = let e : 2 * suc i + 1 ≡ suc (suc (2 * i + 1)) = omega arith in rw e (high_byte ws i (omega arith))

-- both bytes of a word written
pub over_word : {old : List ℕ} (ws : List ℕ) {now : List ℕ} (i : ℕ) → i < length ws → Over old (bytes_of ws) (2 * i) now
    → (low : ℕ) → low ≡ get_or ws i 0 % 256 → (high : ℕ) → high ≡ get_or ws i 0 / 256
    → Over old (bytes_of ws) (2 * (i + 1)) (set (set now (2 * i) low) (2 * i + 1) high)
over_word {old} ws {now} i b o low l high h =
    let room : 2 * i + 1 < length old = omega (arith, o.as_long, length_bytes ws) in
    let e : 2 * (i + 1) ≡ 2 * i + 1 + 1 = omega arith in
    rw e (over_next room (over_next (omega arith) o low (l ∙ sym (low_byte ws i b))) high (h ∙ sym (high_byte ws i b)))

-- ---- the first i summed, and or-ed

total_next : (ws : List ℕ) (i : ℕ) → i < length ws → (w : ℕ) → w ≡ get_or ws i 0 → total (take (i + 1) ws) ≡ total (take i ws) + w
unfolding total
total_next ws i b w e = rw (add-one, take-suc ws i 0, total_append, ← e) (omega arith)

pub record Summed (ws : List ℕ) (i sum : ℕ) : Type 0 where
  pub is : sum ≡ total (take i ws)
  pub small : sum ≤ i * 65535

pub summed_none : (ws : List ℕ) → Summed ws 0 0
unfolding total
summed_none ws = record { is = refl; small = omega arith }

pub summed_next : {ws : List ℕ} {i sum : ℕ} → Summed ws i sum → i < length ws → (w : ℕ) → w ≡ get_or ws i 0 → w < 65536 → Summed ws (i + 1) (sum + w)
summed_next {ws} {i} {sum} s b w e small = record {
  is = omega (arith, total_next ws i b w e);
  small = omega arith;
}

pub summed_all : {ws : List ℕ} {i sum : ℕ} → Summed ws i sum → length ws ≤ i → sum ≡ total ws
summed_all {ws} {i} {sum} s b = s.is ∙ ap total (take_all i ws b)

-- what is or-ed is 0 where the sum is, and only there
pub record Ored (ws : List ℕ) (i any : ℕ) : Type 0 where
  pub zeros : any ≡ 0 → total (take i ws) ≡ 0
  pub most : any ≤ total (take i ws)

pub ored_none : (ws : List ℕ) → Ored ws 0 0
unfolding total
ored_none ws = record { zeros = λ _. refl; most = omega arith }

pub ored_next : {ws : List ℕ} {i any : ℕ} → Ored ws i any → i < length ws → (w : ℕ) → w ≡ get_or ws i 0 → Ored ws (i + 1) (bit_or any w)
ored_next {ws} {i} {any} o b w e =
    let sum = or_add_and any w in
    record {
      zeros = λ z. omega (arith, o.zeros (omega (arith, and_le_r any w)), and_le_l any w, total_next ws i b w e);
      most = omega (arith, total_next ws i b w e);
    }

pub ored_all : {ws : List ℕ} {i any : ℕ} → Ored ws i any → length ws ≤ i → Decides (eqb any 0) (total ws ≡ 0)
ored_all {ws} {i} {any} o b =
    let all : total (take i ws) ≡ total ws = ap total (take_all i ws b) in
    record { sound = λ t. sym all ∙ o.zeros (eqb-true any 0 t); complete = λ z. eq-eqb any 0 (omega arith) }
