-- Where block b of a kind stands, in the image and in the table, and what one more block adds. Assumes nothing.
use Rattle.std.specs.Prelude.{◌+◌, ◌-◌, ◌*◌, ◌/◌, ◌≤◌, ◌<◌, ◌≡◌, ◌++◌}
use Rattle.numbers.specs.Library.{ℕ, zero, suc, refl, sym, ap, ◌∙◌, Bool, true, List, length, take, drop, arith, suc-mul, add-mul}
use Rattle.numbers.specs.Library.{add-one, mul-le-mul_right, div-mul-le_self, length-append, length-take, length-drop, length-take-le, dec_lt}
use lib.Seq.{drop-drop}
use native.Mathlib.Nat.{mul_assoc, add-sub_cancel_left, min-le_left, min-le_right, min-eq_left, min-eq_right, le_of_mul-le-mul_right, lt_of_mul-lt-mul_right, lt-div-mul-add}
use Rattle.numbers.specs.Prelude.{Decides}
use Rattle.image_form.specs.Bytes.{bytes_of, words_of}
use Rattle.image_form.specs.Blocks.{block, up_to}
use Rattle.image_form.specs.Form1.{form1}
use Rattle.image_form.proofs.Words.{length_bytes, bytes_append, length-words, words_take, words_drop}
use Rattle.image_form.proofs.Written.{Written, length-written, written_next, written_to, part_take}
use Rattle.image_form.proofs.Pieces.{length-up_to}
use Rattle.image_form.proofs.Blocks.{length-block}
use Rattle.row_blocks.specs.Layout.{Laid, Rows, There, rows_in_of, numbers_held, table_block, over_from, standing, RightAt, AllRight, held_in_of}
use Rattle.row_blocks.specs.declared.Layout.{Layout}

module _ (k : Layout) (used b : ℕ) (passed : b * k.most ≤ used) (room : k.most * k.width ≤ 252) where
  pub rows_are : (r : ℕ) → r ≡ rows_in_of k used b → Rows k used b r
  unfolding rows_in_of
  rows_are r e =
      let most : r ≤ k.most = omega (arith, min-le_left k.most (used - b * k.most)) in
      let left : r ≤ used - b * k.most = omega (arith, min-le_right k.most (used - b * k.most)) in
      let sum : b * k.most + r ≤ used = omega arith in
      record {
        are = e;
        passed = passed;
        few = omega arith;
        held = omega (arith, mul-le-mul_right k.width most);
        ends = omega (arith, mul-le-mul_right k.width sum, add-mul (b * k.most) r k.width);
      }

  -- of the last block, and of one before it
  pub rows_left : used - b * k.most < k.most → Rows k used b (used - b * k.most)
  unfolding rows_in_of
  rows_left c = rows_are _ (sym (min-eq_right (omega arith)))

  pub rows_most : k.most ≤ used - b * k.most → Rows k used b k.most
  unfolding rows_in_of
  rows_most c = rows_are _ (sym (min-eq_left (omega arith)))

-- where the blocks stand in the image is nothing to the table
pub laid_from_zero : {k : Layout} {first used n : ℕ} → Laid k first used n → Laid k 0 used n
laid_from_zero l = record {
  kind_fits = l.kind_fits;
  rows_fit = l.rows_fit;
  all_held = l.all_held;
  each_some = l.each_some;
  few_rows = l.few_rows;
  few_blocks = omega (arith, l.few_blocks);
}

-- each of the n blocks has a row
pub passed : {k : Layout} {first used n : ℕ} → Laid k first used n → (b : ℕ) → b < n → b * k.most ≤ used
passed {k} {first} {used} {n} l b c = let e : suc b * k.most ≤ n * k.most = mul-le-mul_right k.most c in omega (arith, l.each_some, suc-mul b k.most)

pub place : {k : Layout} {first used n : ℕ} → Laid k first used n → (b : ℕ) → b < n → Rows k used b (rows_in_of k used b)
place {k} {first} {used} {n} l b c = rows_are k used b (passed l b c) l.rows_fit (rows_in_of k used b) refl

pub there : {k : Layout} {first used n : ℕ} → Laid k first used n → (image : List ℕ) → n * 512 ≤ length image → (b r : ℕ) → b < n → Rows k used b r → There k first b r image
there l image long b r c p = record {
  kind_fits = l.kind_fits;
  number_fits = omega (arith, l.few_blocks);
  rows_fit = omega (arith, l.few_rows);
  held = p.held;
  few_before = omega (arith, l.few_rows);
  inside = omega arith;
}

-- ---- the blocks that are full, and the last

pub rows_full : {k : Layout} {first used n : ℕ} → Laid k first used n → (full b : ℕ) → full * k.most ≤ used → b < full → Rows k used b k.most
rows_full {k} {first} {used} l full b whole c =
    let fits : b * k.most + k.most ≤ full * k.most = omega (arith, mul-le-mul_right k.most c, suc-mul b k.most) in
    rows_most k used b (omega arith) l.rows_fit (omega arith)

-- so many blocks are full, and there is one more if there are rows left
pub record Filled (k : Layout) (used n full : ℕ) : Type 0 where
  pub some_room : 1 ≤ k.most
  pub whole : full * k.most ≤ used
  pub rest : used < full * k.most + k.most
  pub within : full ≤ n
  pub one_more : n ≤ full + 1

module _ {k : Layout} {first used n : ℕ} (l : Laid k first used n) where
  pub filled : Filled k used n (used / k.most)
  filled =
      let full : ℕ = used / k.most in
      let some : 1 ≤ k.most = omega arith in
      let whole : full * k.most ≤ used = div-mul-le_self used k.most in
      let rest : used < full * k.most + k.most = lt-div-mul-add some in
      let less : n < suc (suc full) = lt_of_mul-lt-mul_right k.most (omega (arith, suc-mul (suc full) k.most, suc-mul full k.most)) in
      record { some_room = some; whole = whole; rest = rest; within = le_of_mul-le-mul_right (omega arith) some; one_more = omega arith }

  pub full_laid : {full : ℕ} → Filled k used n full → Laid k first (full * k.most) full
  full_laid f = record {
    kind_fits = l.kind_fits;
    rows_fit = l.rows_fit;
    all_held = omega arith;
    each_some = omega arith;
    few_rows = omega arith;
    few_blocks = omega arith;
  }

  pub rows_last : {full : ℕ} → Filled k used n full → Rows k used full (used - full * k.most)
  rows_last {full} f = rows_left k used full f.whole l.rows_fit (omega arith)

-- ---- what is lent of an image and of a table

pub part_long : (l : List ℕ) (from count : ℕ) → from + count ≤ length l → length (take (from + count - from) (drop from l)) ≡ count
part_long l from count c = rw add-sub_cancel_left (length-take-le count (drop from l) (omega (arith, length-drop from l)))

-- ---- written

pub length_blocks : (k : Layout) (first used : ℕ) (table : List ℕ) {n : ℕ} → Laid k first used n → (b : ℕ) → b ≤ n → length (up_to (table_block k used first table) b) ≡ 256 * b
unfolding table_block numbers_held
length_blocks k first used table l zero c = refl
length_blocks k first used table l (suc b) c =
    let p : Rows k used b (rows_in_of k used b) = place l b c in
    let few : length (take (rows_in_of k used b * k.width) (drop (b * k.most * k.width) table)) ≤ 252 =
    omega (arith, p.held, length-take (rows_in_of k used b * k.width) (drop (b * k.most * k.width) table), min-le_left (rows_in_of k used b * k.width) (length (drop (b * k.most * k.width) table))) in
    length-append (up_to (table_block k used first table) b) _
    ∙ omega (arith, length_blocks k first used table l b (omega arith), length-block (first + b) k.kind (rows_in_of k used b) (take (rows_in_of k used b * k.width) (drop (b * k.most * k.width) table)) few)

module _ (k : Layout) (first used : ℕ) (table : List ℕ) {n : ℕ} (l : Laid k first used n) where
  -- the blocks so far
  abbrev pub BlocksWritten : List ℕ → ℕ → List ℕ → Type 0
  BlocksWritten out₀ b out = Written out₀ (bytes_of (up_to (table_block k used first table) b)) (b * 512) out

  pub one_written : {out₀ out : List ℕ} (b : ℕ) → b < n → BlocksWritten out₀ b out → (r : ℕ) → r ≡ rows_in_of k used b → (v : List ℕ)
      → v ≡ bytes_of (block form1 (first + b) k.kind r (take (b * k.most * k.width + r * k.width - b * k.most * k.width) (drop (b * k.most * k.width) table)))
      → BlocksWritten out₀ (b + 1) (take (b * 512) out ++ (v ++ drop (b * 512 + 512 - b * 512) (drop (b * 512) out)))
  unfolding table_block numbers_held
  one_written {out₀} {out} b c w r e v is =
      let is' : v ≡ bytes_of (block form1 (first + b) k.kind (rows_in_of k used b) (take (rows_in_of k used b * k.width) (drop (b * k.most * k.width) table))) =
      is ∙ rw (add-sub_cancel_left, e) in
      let whole : bytes_of (up_to (table_block k used first table) (b + 1)) ≡ bytes_of (up_to (table_block k used first table) b) ++ v =
      rw (add-one, is') (bytes_append (up_to (table_block k used first table) b) _) in
      let long : length v ≡ 512 =
      omega (
        arith,
        length-append (bytes_of (up_to (table_block k used first table) b)) v,
        ap length whole,
        length_bytes (up_to (table_block k used first table) b),
        length_bytes (up_to (table_block k used first table) (b + 1)),
        length_blocks k first used table l b (omega arith),
        length_blocks k first used table l (b + 1) (omega arith),
      ) in
      rw whole (written_to w v (b * 512 + 512 - b * 512) ((b + 1) * 512) (omega (arith, long)) (omega arith))

-- ---- judged

-- the words of block b
pub words_of-block : (image : List ℕ) (b : ℕ) → words_of (take (b * 512 + 512 - b * 512) (drop (b * 512) image)) ≡ take 256 (drop (b * 256) (words_of image))
words_of-block image b =
    let e : b * 512 + 512 - b * 512 ≡ 2 * 256 = omega arith in
    let f : b * 512 ≡ 2 * (b * 256) = omega arith in
    ap (λ (n : ℕ). words_of (take n (drop (b * 512) image))) e ∙ words_take 256 (drop (b * 512) image)
    ∙ ap (λ (n : ℕ). take 256 (words_of (drop n image))) f ∙ ap (take 256) (words_drop (b * 256) image)

module _ (k : Layout) (used first : ℕ) (words : List ℕ) where
  pub none_right : AllRight k used first 0 words
  unfolding AllRight
  none_right b c = absurd (omega arith)

  module _ (b r : ℕ) (e : r ≡ rows_in_of k used b) where
    pub one_right : AllRight k used first b words → RightAt k first b r words → AllRight k used first (b + 1) words
    unfolding AllRight
    one_right all right j c = go (dec_lt j b) where
      go : Dec (j < b) → RightAt k first j (rows_in_of k used j) words
      go (yes d) = all j d
      go (no d) = let s : j ≡ b = omega arith in rw (s, ← e) right

    pub right_there : (n : ℕ) → b < n → AllRight k used first n words → RightAt k first b r words
    unfolding AllRight
    right_there n c all = rw e (all b c)

    pub last_right : (n : ℕ) → b + 1 ≡ n → AllRight k used first b words → {test : Bool} → Decides test (RightAt k first b r words) → Decides test (AllRight k used first n words)
    last_right n s all d = record { sound = λ t. rw s at (one_right all (d.sound t)); complete = λ every. d.complete (right_there n (omega arith) every) }

  pub all_right : (n b : ℕ) → b ≤ n → n ≤ b → AllRight k used first b words → Decides true (AllRight k used first n words)
  all_right n b c d all = let e : b ≡ n = omega arith in record { sound = λ _. rw e at all; complete = λ _. refl }

  -- fewer blocks, of other rows that fill them alike
  pub fewer_right : (n m other : ℕ) → m ≤ n → ((b : ℕ) → b < m → rows_in_of k used b ≡ rows_in_of k other b) → AllRight k used first n words → AllRight k other first m words
  unfolding AllRight
  fewer_right n m other c same all b d = rw (← same b d) (all b (omega arith))

-- the blocks that are full are those of as many rows as fill them
pub full_decides : {k : Layout} {first used n full : ℕ} → Laid k first used n → Filled k used n full → (words : List ℕ) → {test : Bool}
    → Decides test (AllRight k (full * k.most) first full words) → Decides test (AllRight k used first full words)
full_decides {k} {first} {used} {n} {full} l f words d = record {
  sound = λ t. fewer_right k (full * k.most) first words full full used (omega arith) (λ b c. sym (same b c)) (d.sound t);
  complete = λ all. d.complete (fewer_right k used first words full full (full * k.most) (omega arith) same all);
} where
  same : (b : ℕ) → b < full → rows_in_of k used b ≡ rows_in_of k (full * k.most) b
  same b c = sym (rows_full l full b f.whole c).are ∙ (rows_full (full_laid l f) full b (omega arith) c).are

-- ---- the numbers that stand in the blocks

pub length-standing : (words : List ℕ) (b count : ℕ) → b * 256 + 256 ≤ length words → count ≤ 252 → length (standing b count words) ≡ count
length-standing words b count fits few =
    let a : length (take 256 (drop (b * 256) words)) ≡ 256 = length-take-le 256 (drop (b * 256) words) (omega (arith, length-drop (b * 256) words)) in
    length-take-le count (drop 3 (take 256 (drop (b * 256) words))) (omega (arith, length-drop 3 (take 256 (drop (b * 256) words))))

module _ {k : Layout} {first used n : ℕ} (l : Laid k first used n) (words : List ℕ) (long : length words ≡ n * 256) where
  pub length-held : (b : ℕ) → b < n → length (held_in_of k used words b) ≡ rows_in_of k used b * k.width
  unfolding held_in_of numbers_held
  length-held b c = length-standing words b (rows_in_of k used b * k.width) (omega arith) (place l b c).held

  -- all blocks but the last are full
  pub held_full : (b : ℕ) → suc b < n → length (held_in_of k used words b) ≡ k.most * k.width
  unfolding rows_in_of
  held_full b c =
      let full : rows_in_of k used b ≡ k.most = min-eq_left (omega (arith, passed l (suc b) c, suc-mul b k.most)) in
      length-held b (omega arith) ∙ ap (λ (m : ℕ). m * k.width) full

  pub length-met : (b : ℕ) → b < n → length (up_to (held_in_of k used words) b) ≡ b * k.most * k.width
  length-met b c = length-up_to (held_in_of k used words) (k.most * k.width) b (λ j d. held_full j (omega arith)) ∙ sym (mul_assoc b k.most k.width)

  pub met_few : (b : ℕ) → b ≤ n → length (up_to (held_in_of k used words) b) ≤ used * k.width
  met_few zero c = omega arith
  met_few (suc b) c = omega (arith, length-append (up_to (held_in_of k used words) b) (held_in_of k used words b), length-held b c, length-met b c, (place l b c).ends)

  -- and the last has what is left
  pub met_all : length (up_to (held_in_of k used words) n) ≡ used * k.width
  unfolding rows_in_of
  met_all = go n refl where
    go : (m : ℕ) → m ≡ n → length (up_to (held_in_of k used words) m) ≡ used * k.width
    go zero e = let z : used ≡ 0 = omega (arith, rw (← e) at l.all_held) in rw z (omega arith)
    go (suc m) e =
        let c : m < n = omega arith in
        let rest : rows_in_of k used m ≡ used - m * k.most = min-eq_right (omega (arith, suc-mul m k.most, rw (← e) at l.all_held)) in
        let sum : m * k.most + (used - m * k.most) ≡ used = omega (arith, passed l m c) in
        length-append (up_to (held_in_of k used words) m) (held_in_of k used words m)
        ∙ omega (arith, length-met m c, length-held m c, ap (λ (r : ℕ). r * k.width) rest, add-mul (m * k.most) (used - m * k.most) k.width, ap (λ (r : ℕ). r * k.width) sum)

-- ---- copied

-- the part of a table that is lent, after the bytes of block b that are lent are copied to it
pub block_copied : (image table : List ℕ) (b from count : ℕ) → b * 512 + 512 ≤ length image → count ≤ 252 → (v : List ℕ)
    → v ≡ words_of (take (b * 512 + 6 + 2 * count - (b * 512 + 6)) (drop (b * 512 + 6) image))
    → take from table ++ (v ++ drop (from + count - from) (drop from table)) ≡ over_from from (standing b count (words_of image)) table
unfolding over_from
block_copied image table b from count there few v is =
    let start : b * 512 + 6 ≡ 2 * (b * 256 + 3) = omega arith in
    let is' : v ≡ standing b count (words_of image) =
    is ∙ rw (add-sub_cancel_left, start, words_take count (drop (2 * (b * 256 + 3)) image), words_drop (b * 256 + 3) image)
    (sym (part_take count 3 256 (drop (b * 256) (words_of image)) (omega arith) ∙ ap (take count) (drop-drop 3 (b * 256) (words_of image)))) in
    rw (is', add-sub_cancel_left, length-standing (words_of image) b count (omega (arith, length-words image)) few)

module _ {k : Layout} {used n : ℕ} (l : Laid k 0 used n) (image : List ℕ) (long : length image ≡ n * 512) (table₀ : List ℕ) where
  abbrev words : List ℕ
  words = words_of image

  words_long : length words ≡ n * 256
  words_long = length-words image ∙ omega arith

  -- the numbers so far
  abbrev pub Copied : ℕ → List ℕ → Type 0
  Copied b table = Written table₀ (up_to (held_in_of k used words) b) (length (up_to (held_in_of k used words) b)) table

  pub length_copied : {table : List ℕ} (b : ℕ) → b ≤ n → Copied b table → used * k.width ≤ length table₀ → length table ≡ length table₀
  length_copied b c w fit = omega (arith, length-written w, met_few l words words_long b c)

  pub copyable : {table : List ℕ} (b r : ℕ) → b < n → Rows k used b r → Copied b table → used * k.width ≤ length table₀
      → There k 0 b r image × (b * k.most * k.width + r * k.width ≤ length table)
  copyable b r c p w fit = (there l image (omega arith) b r c p, omega (arith, length_copied b (omega arith) w fit))

  pub one_copied : {table table' : List ℕ} (b r : ℕ) → b < n → r ≡ rows_in_of k used b → Copied b table
      → table' ≡ over_from (b * k.most * k.width) (standing b (r * k.width) words) table → Copied (b + 1) table'
  unfolding held_in_of numbers_held over_from
  one_copied b r c e w is =
      let v : List ℕ = standing b (r * k.width) words in
      let next : up_to (held_in_of k used words) (b + 1) ≡ up_to (held_in_of k used words) b ++ v = rw (add-one, e) in
      rw (is, next, ← (length-met l words words_long b c), length-append) (written_next w v (length v) refl)

  pub last_copied : {table table' : List ℕ} {full : ℕ} → Filled k used n full → (full ≡ n → ⊥) → (b : ℕ) → b ≡ full → Copied b table
      → table' ≡ over_from (full * k.most * k.width) (standing full ((used - full * k.most) * k.width) words) table → Copied n table'
  last_copied {full = full} f more b e w is =
      let s : full + 1 ≡ n = omega arith in
      rw s at (one_copied full (used - full * k.most) (omega arith) (rows_last l f).are (rw e at w) is)
