-- Words and bytes tell each other; a part of the one is a part of the other. Assumes nothing.
use Rattle.std.specs.Prelude.{◌+◌, ◌*◌, ◌/◌, ◌%◌, ◌<◌, ◌≡◌, ◌++◌, ◌∷◌}
use Rattle.numbers.specs.Library.{ℕ, zero, suc, refl, ap, List, [], length, get_or, take, drop, arith}
use lib.ListN.{replicate}
use Rattle.image_form.specs.Bytes.{bytes_of, words_of, total}

pub length_bytes : (ws : List ℕ) → length (bytes_of ws) ≡ 2 * length ws
unfolding bytes_of
length_bytes [] = refl
length_bytes (w ∷ ws) = omega (arith, length_bytes ws)

pub bytes_append : (ws vs : List ℕ) → bytes_of (ws ++ vs) ≡ bytes_of ws ++ bytes_of vs
unfolding bytes_of
bytes_append [] vs = refl
bytes_append (w ∷ ws) vs = rw (bytes_append ws vs)

pub words_bytes : (ws : List ℕ) → words_of (bytes_of ws) ≡ ws
unfolding bytes_of words_of
words_bytes [] = refl
words_bytes (w ∷ ws) = let e : w % 256 + 256 * (w / 256) ≡ w = omega arith in rw (e, words_bytes ws)

-- bytes are numbers below 256
pub bytes_words : (bs : List ℕ) (n : ℕ) → length bs ≡ 2 * n → ((i : ℕ) → get_or bs i 0 < 256) → bytes_of (words_of bs) ≡ bs
unfolding bytes_of words_of
bytes_words [] n e small = refl
bytes_words (low ∷ []) n e small = absurd (omega arith)
bytes_words (low ∷ high ∷ bs) zero e small = absurd (omega arith)
bytes_words (low ∷ high ∷ bs) (suc n) e small =
    let l : low < 256 = small 0 in
    let a : (low + 256 * high) % 256 ≡ low = omega arith in
    let b : (low + 256 * high) / 256 ≡ high = omega arith in
    rw (a, b, bytes_words bs n (omega arith) (λ i. small (suc (suc i))))

pub length-words : (bs : List ℕ) → length (words_of bs) ≡ length bs / 2
unfolding words_of
length-words [] = refl
length-words (low ∷ []) = refl
length-words (low ∷ high ∷ bs) = omega (arith, length-words bs)

pub words_take : (n : ℕ) (bs : List ℕ) → words_of (take (2 * n) bs) ≡ take n (words_of bs)
unfolding words_of
words_take zero bs = refl
words_take (suc n) [] = let e : 2 * suc n ≡ suc (suc (2 * n)) = omega arith in rw e
words_take (suc n) (low ∷ []) = let e : 2 * suc n ≡ suc (suc (2 * n)) = omega arith in rw e
words_take (suc n) (low ∷ high ∷ bs) = let e : 2 * suc n ≡ suc (suc (2 * n)) = omega arith in rw (e, words_take n bs)

pub words_drop : (n : ℕ) (bs : List ℕ) → words_of (drop (2 * n) bs) ≡ drop n (words_of bs)
unfolding words_of
words_drop zero bs = refl
words_drop (suc n) [] = let e : 2 * suc n ≡ suc (suc (2 * n)) = omega arith in rw e
words_drop (suc n) (low ∷ []) = let e : 2 * suc n ≡ suc (suc (2 * n)) = omega arith in rw e
words_drop (suc n) (low ∷ high ∷ bs) = let e : 2 * suc n ≡ suc (suc (2 * n)) = omega arith in rw (e, words_drop n bs)

pub word_at : (bs : List ℕ) (i : ℕ) → 2 * i + 1 < length bs → get_or (words_of bs) i 0 ≡ get_or bs (2 * i) 0 + 256 * get_or bs (2 * i + 1) 0
unfolding words_of
word_at [] i h = absurd (omega arith)
word_at (low ∷ []) i h = absurd (omega arith)
word_at (low ∷ high ∷ bs) zero h = refl
word_at (low ∷ high ∷ bs) (suc i) h =
    let e : 2 * suc i ≡ suc (suc (2 * i)) = omega arith in
    let f : suc (suc (2 * i)) + 1 ≡ suc (suc (2 * i + 1)) = omega arith in
    rw (e, f) (word_at bs i (omega arith))

-- ---- sums

pub total_append : (ws vs : List ℕ) → total (ws ++ vs) ≡ total ws + total vs
unfolding total
total_append [] vs = omega arith
total_append (w ∷ ws) vs = omega (arith, total_append ws vs)

pub total_zeros : (n : ℕ) → total (replicate n 0) ≡ 0
unfolding total
total_zeros zero = refl
total_zeros (suc n) = omega (arith, total_zeros n)

-- a sum of nothing but zeros
pub zeros_total : (ws : List ℕ) → total ws ≡ 0 → ws ≡ replicate (length ws) 0
unfolding total
zeros_total [] e = refl
zeros_total (w ∷ ws) e =
    let z : w ≡ 0 = omega arith in
    rw z (ap (λ (l : List ℕ). 0 ∷ l) (zeros_total ws (omega arith)))
