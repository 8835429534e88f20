-- Pieces put one after the other: each is found again where it stands, and a list that has them there is made of them. Assumes nothing.
use Rattle.std.specs.Prelude.{◌+◌, ◌*◌, ◌≤◌, ◌<◌, ◌≡◌, ◌++◌}
use Rattle.numbers.specs.Library.{ℕ, zero, suc, refl, ◌∙◌, List, length, length-append, length-drop, take, drop, arith, dec_lt, take_all, suc-mul}
use Rattle.numbers.specs.Library.{mul-le-mul_right}
use lib.Seq.{drop_at, take-append-le, drop-append-le, take-add, take-length}
use Rattle.image_form.specs.Blocks.{up_to}

pub same_up_to : (f g : ℕ → List ℕ) (n : ℕ) → ((b : ℕ) → b < n → f b ≡ g b) → up_to f n ≡ up_to g n
same_up_to f g zero same = refl
same_up_to f g (suc n) same = rw (same_up_to f g n (λ b c. same b (omega arith)), same n (omega arith))

module _ (f : ℕ → List ℕ) (size : ℕ) where
  pub length-up_to : (n : ℕ) → ((b : ℕ) → b < n → length (f b) ≡ size) → length (up_to f n) ≡ n * size
  length-up_to zero full = omega arith
  length-up_to (suc n) full =
      length-append (up_to f n) (f n) ∙ omega (arith, length-up_to n (λ b c. full b (omega arith)), full n (omega arith), suc-mul n size)

  -- piece b, where all pieces before the last have one size
  pub piece_at : (n b : ℕ) → b < n → ((j : ℕ) → suc j < n → length (f j) ≡ size) → take (length (f b)) (drop (b * size) (up_to f n)) ≡ f b
  piece_at zero b c full = absurd (omega arith)
  piece_at (suc n) b c full = go (dec_lt b n) (λ d. piece_at n b d (λ j e. full j (omega arith))) where
    long : length (up_to f n) ≡ n * size
    long = length-up_to n (λ j d. full j (omega arith))

    go : Dec (b < n) → (b < n → take (length (f b)) (drop (b * size) (up_to f n)) ≡ f b) → take (length (f b)) (drop (b * size) (up_to f n ++ f n)) ≡ f b
    go (yes d) before =
        let s : length (f b) ≡ size = full b (omega arith) in
        let fits : b * size + size ≤ n * size = omega (arith, suc-mul b size, mul-le-mul_right size d) in
        let inside : length (f b) ≤ length (drop (b * size) (up_to f n)) = omega (arith, s, long, fits, length-drop (b * size) (up_to f n)) in
        rw (drop-append-le (b * size) (up_to f n) (f n) (omega (arith, long, fits)), take-append-le (length (f b)) (drop (b * size) (up_to f n)) (f n) inside) (before d)
    go (no d) before =
        let e : b ≡ n = omega arith in
        rw (e, drop_at (up_to f n) (f n) (n * size) long) (take-length (f n))

  -- a list with the pieces at their places
  pub up_to-is : (l : List ℕ) (n : ℕ) → length l ≡ n * size → ((b : ℕ) → b < n → take size (drop (b * size) l) ≡ f b) → up_to f n ≡ l
  up_to-is l n long pieces = front n (omega arith) ∙ take_all (n * size) l (omega (arith, long)) where
    front : (b : ℕ) → b ≤ n → up_to f b ≡ take (b * size) l
    front zero c = let e : 0 * size ≡ 0 = omega arith in rw e
    front (suc b) c = rw (suc-mul b size, take-add (b * size) size l, front b (omega arith), pieces b c)
