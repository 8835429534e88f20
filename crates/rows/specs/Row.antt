-- A flat table of numbers as rows of one width: what a row is, what storing one does, and the laws of both.
-- The width is a variable throughout. Assumes nothing.
use Rattle.std.specs.Prelude.{◌≡◌, ◌≢◌, ◌⊎◌, ◌++◌, ◌+◌, ◌-◌, ◌*◌, ◌/◌, ◌%◌, ◌≤◌, ◌<◌}
use Rattle.numbers.specs.Library.{refl, sym, ap, ◌∙◌, subst, inl, inr, ⊎_elim, List, [], append_assoc, ℕ, suc}
use Rattle.numbers.specs.Library.{min, suc-mul, mul-le-mul_right, div-add-mod', mod-lt, le-div_iff_mul-le, div-mul-le_self, dec_lt, ℕ_discrete, arith}
use Rattle.numbers.specs.Library.{leb, ltb, length, get_or, take, drop, length-take, length-drop, lt-ltb, le-ltb, leb-true, le-leb}
use Rattle.std.proofs.Math.Nat.{add-sub_cancel_left, min-le_left, min-le_right, le-min}
use Rattle.std.proofs.Math.Seq.{get_or-drop, ext_get_or}
use Rattle.std.proofs.Common.{drop-drop}
use Rattle.numbers.specs.Prelude.{no_row, most_rows, pick, Decides}
use Rattle.rows.specs.Part.{cut, splice, length_cut, get_d_cut, length-splice, before, inside, after}

-- How a value of A stands in a table: as a row of `width` numbers.
pub record Shape (A : Type 0) : Type 0 where
  pub width : ℕ
  pub some : 0 < width
  pub numbers : A → List ℕ
  pub value : List ℕ → A
  pub long : (a : A) → length (numbers a) ≡ width
  pub back : (a : A) → value (numbers a) ≡ a
  pub forth : (r : List ℕ) → length r ≡ width → numbers (value r) ≡ r

module _ {A : Type 0} (s : Shape A) where
  -- how many rows a table has: the whole ones, at most 65535, so that none has the index that names no row
  pub rows : List ℕ → ℕ
  rows l = min (length l / s.width) most_rows

  -- what is left after the last row
  pub rest : List ℕ → List ℕ
  rest l = drop (rows l * s.width) l

  -- row i; where there is no row i, the value of no numbers
  pub get : List ℕ → ℕ → A
  get l i = pick (ltb i (rows l)) (s.value (take s.width (drop (i * s.width) l))) (s.value [])

  -- the table with row i replaced; the table itself where there is no row i
  pub put : List ℕ → ℕ → A → List ℕ
  put l i v = pick (ltb i (rows l)) (splice s.width l (i * s.width) (s.numbers v)) l

  pub rows_are : (l : List ℕ) → rows l ≡ min (length l / s.width) most_rows
  unfolding rows
  rows_are l = refl

  pub rows_long : (l t : List ℕ) → length l ≡ length t → rows l ≡ rows t
  unfolding rows
  rows_long l t e = rw e

  pub rows_few : (l : List ℕ) → rows l ≤ most_rows
  unfolding rows
  rows_few l = min-le_right _ _

  pub rows_fit : (l : List ℕ) (i : ℕ) → i < rows l → i * s.width + s.width ≤ length l
  unfolding rows
  rows_fit l i h =
      rw suc-mul at ((le-div_iff_mul-le {k = s.width} {x = suc i} {y = length l} s.some).0
      (omega (arith, min-le_left (length l / s.width) most_rows)))

  pub fit_rows : (l : List ℕ) (i : ℕ) → i < no_row → i * s.width + s.width ≤ length l → i < rows l
  unfolding rows
  fit_rows l i f h = le-min ((le-div_iff_mul-le {k = s.width} {x = suc i} {y = length l} s.some).1 (rw suc-mul h)) f

  -- whether a table has n rows
  pub has_rows_lem : (l : List ℕ) (n : ℕ) → n ≤ most_rows → Decides (leb (n * s.width) (length l)) (n ≤ rows l)
  unfolding rows
  has_rows_lem l n few = record {
    sound = λ t. le-min ((le-div_iff_mul-le s.some).1 (leb-true (n * s.width) (length l) t)) few;
    complete = λ h. le-leb (n * s.width) (length l) ((le-div_iff_mul-le s.some).0 (omega (arith, min-le_left (length l / s.width) most_rows)));
  }

  pub unfit_rows : (l : List ℕ) (i : ℕ) → length l < i * s.width + s.width → rows l ≤ i
  unfit_rows l i h = go (dec_lt i (rows l)) where
    go : Dec (i < rows l) → rows l ≤ i
    go (yes b) = absurd (omega (arith, rows_fit l i b))
    go (no b) = omega arith

  -- rows do not overlap
  apart : (i j : ℕ) → i < j → i * s.width + s.width ≤ j * s.width
  apart i j h = rw suc-mul at (mul-le-mul_right s.width h)

  pub put_in : (l : List ℕ) (i : ℕ) (v : A) → i < rows l → put l i v ≡ take (i * s.width) l ++ s.numbers v ++ drop (i * s.width + s.width) l
  unfolding put splice
  put_in l i v h = rw (lt-ltb i (rows l) h)

  pub put_out : (l : List ℕ) (i : ℕ) (v : A) → rows l ≤ i → put l i v ≡ l
  unfolding put
  put_out l i v h = rw (le-ltb i (rows l) h)

  put-splice : (l : List ℕ) (i : ℕ) (v : A) → i < rows l → put l i v ≡ splice s.width l (i * s.width) (s.numbers v)
  unfolding splice
  put-splice l i v h = put_in l i v h

  pub length-put : (l : List ℕ) (i : ℕ) (v : A) → length (put l i v) ≡ length l
  length-put l i v = go (dec_lt i (rows l)) where
    go : Dec (i < rows l) → length (put l i v) ≡ length l
    go (yes h) = rw put-splice (length-splice _ _ _ _ (s.long v) (rows_fit l i h))
    go (no n) = ap length (put_out l i v (omega arith))

  pub rows-put : (l : List ℕ) (i : ℕ) (v : A) → rows (put l i v) ≡ rows l
  unfolding rows
  rows-put l i v = rw length-put

  pub get_in : (l : List ℕ) (i : ℕ) → i < rows l → get l i ≡ s.value (take s.width (drop (i * s.width) l))
  unfolding get
  get_in l i h = rw (lt-ltb i (rows l) h)

  pub get_out : (l : List ℕ) (i : ℕ) → rows l ≤ i → get l i ≡ s.value []
  unfolding get
  get_out l i h = rw (le-ltb i (rows l) h)

  -- the same, as the leaf's code comes to it: at the index of no row, at a row past the end, and at a part `l[b..e]` that is lent
  pub get_none : (l : List ℕ) (i : ℕ) → i ≡ no_row → s.value [] ≡ get l i
  get_none l i e = sym (get_out l i (omega (arith, rows_few l)))

  pub get-short : (l : List ℕ) (i : ℕ) → length l < i * s.width + s.width → s.value [] ≡ get l i
  get-short l i h = sym (get_out l i (unfit_rows l i h))

  pub get_there : (l : List ℕ) (i : ℕ) → i < rows l → s.value (take (i * s.width + s.width - i * s.width) (drop (i * s.width) l)) ≡ get l i
  get_there l i h = rw (add-sub_cancel_left, get_in l i h)

  pub get_part : (l : List ℕ) (i : ℕ) → i < no_row → i * s.width + s.width ≤ length l
      → s.value (take (i * s.width + s.width - i * s.width) (drop (i * s.width) l)) ≡ get l i
  get_part l i f h = get_there l i (fit_rows l i f h)

  pub put_none : (l : List ℕ) (i : ℕ) (v : A) → i ≡ no_row → l ≡ put l i v
  put_none l i v e = sym (put_out l i v (omega (arith, rows_few l)))

  pub put-short : (l : List ℕ) (i : ℕ) (v : A) → length l < i * s.width + s.width → l ≡ put l i v
  put-short l i v h = sym (put_out l i v (unfit_rows l i h))

  pub put_part : (l : List ℕ) (i : ℕ) (v : A) → i < no_row → i * s.width + s.width ≤ length l
      → take (i * s.width) l ++ (s.numbers v ++ drop (i * s.width + s.width - i * s.width) (drop (i * s.width) l)) ≡ put l i v
  put_part l i v f h = rw (add-sub_cancel_left, drop-drop, ← append_assoc) (sym (put_in l i v (fit_rows l i f h)))

  pub put_there : (l : List ℕ) (i : ℕ) (v : A) → i < rows l
      → take (i * s.width) l ++ (s.numbers v ++ drop (i * s.width + s.width - i * s.width) (drop (i * s.width) l)) ≡ put l i v
  put_there l i v h = put_part l i v (omega (arith, rows_few l)) (rows_fit l i h)

  pub get-put_same : (l : List ℕ) (i : ℕ) (v : A) → i < rows l → get (put l i v) i ≡ v
  unfolding cut
  get-put_same l i v h =
      let t : List ℕ = put l i v in
      let f : i * s.width + s.width ≤ length t = omega (arith, rows_fit l i h, length-put l i v) in
      get_in t i (rw rows-put h)
      ∙ ap s.value (ext_get_or 0 (cut s.width t (i * s.width)) (s.numbers v)
      (length_cut s.width t (i * s.width) f ∙ sym (s.long v))
      (λ n b. let b' : n < s.width = omega (arith, length_cut s.width t (i * s.width) f) in
      get_d_cut s.width t (i * s.width) n b'
      ∙ rw (put-splice l i v h) (inside _ l _ (s.numbers v) (s.long v) (rows_fit l i h) n b')))
      ∙ s.back v

  -- a number outside row i stays
  outside : (l : List ℕ) (i : ℕ) (v : A) (n : ℕ) → (n < i * s.width) ⊎ (i * s.width + s.width ≤ n) → get_or (put l i v) n 0 ≡ get_or l n 0
  outside l i v n o = go (dec_lt i (rows l)) where
    go : Dec (i < rows l) → get_or (put l i v) n 0 ≡ get_or l n 0
    go (no h) = ap (λ (t : List ℕ). get_or t n 0) (put_out l i v (omega arith))
    go (yes h) = rw (put-splice l i v h) (⊎_elim
        (before _ l _ (s.numbers v) (s.long v) (rows_fit l i h) n)
        (after _ l _ (s.numbers v) (s.long v) (rows_fit l i h) n) o)

  either_side : (i j n : ℕ) → j ≢ i → n < s.width → (j * s.width + n < i * s.width) ⊎ (i * s.width + s.width ≤ j * s.width + n)
  either_side i j n d b = go (dec_lt j i) where
    go : Dec (j < i) → (j * s.width + n < i * s.width) ⊎ (i * s.width + s.width ≤ j * s.width + n)
    go (yes h) = inl (omega (arith, apart j i h))
    go (no h) = inr (omega (arith, apart i j (omega (arith, d))))

  pub get-put_other : (l : List ℕ) (i j : ℕ) (v : A) → j ≢ i → get (put l i v) j ≡ get l j
  unfolding get cut
  get-put_other l i j v d =
      let t : List ℕ = put l i v in
      let k : ℕ = s.width in
      rw rows-put (ap (λ (r : List ℕ). pick (ltb j (rows l)) (s.value r) (s.value []))
      (ext_get_or 0 (take k (drop (j * k) t)) (take k (drop (j * k) l))
      (simp (length-take, length-drop, length-put))
      (λ n b. let b' : n < k = omega (arith, simp length-take at b) in
      get_d_cut k t (j * k) n b' ∙ outside l i v (j * k + n) (either_side i j n d b') ∙ sym (get_d_cut k l (j * k) n b'))))

  pub rest_put : (l : List ℕ) (i : ℕ) (v : A) → rest (put l i v) ≡ rest l
  unfolding rest
  rest_put l i v = rw rows-put (go (dec_lt i (rows l))) where
    go : Dec (i < rows l) → drop (rows l * s.width) (put l i v) ≡ drop (rows l * s.width) l
    go (no h) = rw (put_out l i v (omega arith))
    go (yes h) = ext_get_or 0 _ _ (simp (length-drop, length-put))
        (λ n b. get_or-drop (rows l * s.width) (put l i v) n 0
        ∙ outside l i v (rows l * s.width + n) (inr (omega (arith, apart i (rows l) h)))
        ∙ sym (get_or-drop (rows l * s.width) l n 0))

  -- two tables of one length with the same rows and the same rest are the same
  pub same_rows : (l t : List ℕ) → length l ≡ length t → ((i : ℕ) → i < rows l → get l i ≡ get t i) → rest l ≡ rest t → l ≡ t
  unfolding rows rest cut
  same_rows l t e same end = ext_get_or 0 l t e at where
    in_row : (n : ℕ) → n / s.width < rows l → get_or l n 0 ≡ get_or t n 0
    in_row n h =
        let f : n / s.width * s.width + s.width ≤ length l = rows_fit l (n / s.width) h in
        let m : n % s.width < s.width = mod-lt n s.some in
        let c : cut s.width l (n / s.width * s.width) ≡ cut s.width t (n / s.width * s.width) =
        sym (s.forth _ (length_cut s.width l (n / s.width * s.width) f)) ∙ ap s.numbers (sym (get_in l _ h) ∙ same (n / s.width) h ∙ get_in t _ (rw (← e) h))
        ∙ s.forth _ (length_cut s.width t (n / s.width * s.width) (omega (arith, f, e))) in
        subst (λ (j : ℕ). get_or l j 0 ≡ get_or t j 0) (div-add-mod' n s.width)
        (sym (get_d_cut s.width l (n / s.width * s.width) (n % s.width) m) ∙ ap (λ (r : List ℕ). get_or r (n % s.width) 0) c ∙ get_d_cut s.width t (n / s.width * s.width) (n % s.width) m)

    in_rest : (n : ℕ) → rows l ≤ n / s.width → get_or l n 0 ≡ get_or t n 0
    in_rest n h =
        let b : ℕ = rows l * s.width in
        let g : b ≤ n = omega (arith, mul-le-mul_right s.width h, div-mul-le_self n s.width) in
        let q : b + (n - b) ≡ n = omega arith in
        let end' : drop b l ≡ drop b t = end ∙ rw e in
        subst (λ (j : ℕ). get_or l j 0 ≡ get_or t j 0) q
        (sym (get_or-drop b l (n - b) 0) ∙ ap (λ (r : List ℕ). get_or r (n - b) 0) end' ∙ get_or-drop b t (n - b) 0)

    at : (n : ℕ) → n < length l → get_or l n 0 ≡ get_or t n 0
    at n b = go (dec_lt (n / s.width) (rows l)) where
      go : Dec (n / s.width < rows l) → get_or l n 0 ≡ get_or t n 0
      go (yes h) = in_row n h
      go (no h) = in_rest n (omega arith)

  pub put-get : (l : List ℕ) (i : ℕ) → put l i (get l i) ≡ l
  put-get l i = same_rows _ _ (length-put _ _ _) row (rest_put _ _ _) where
    row : (j : ℕ) → j < rows (put l i (get l i)) → get (put l i (get l i)) j ≡ get l j
    row j b = go (ℕ_discrete j i) where
      go : Dec (j ≡ i) → get (put l i (get l i)) j ≡ get l j
      go (yes e) = rw e (get-put_same l i (get l i) (omega (arith, rows-put l i (get l i))))
      go (no n) = get-put_other l i j (get l i) n

  pub put-put : (l : List ℕ) (i : ℕ) (v w : A) → put (put l i v) i w ≡ put l i w
  put-put l i v w = same_rows _ _ (simp length-put) row (simp rest_put) where
    row : (j : ℕ) → j < rows (put (put l i v) i w) → get (put (put l i v) i w) j ≡ get (put l i w) j
    row j b = go (ℕ_discrete j i) where
      go : Dec (j ≡ i) → get (put (put l i v) i w) j ≡ get (put l i w) j
      go (yes e) =
          let h : i < rows l = omega (arith, simp rows-put at b) in
          rw e (get-put_same (put l i v) i w (rw rows-put h) ∙ sym (get-put_same l i w h))
      go (no n) = get-put_other (put l i v) i j w n ∙ get-put_other l i j v n ∙ sym (get-put_other l i j w n)

  pub put_comm : (l : List ℕ) (i j : ℕ) (v w : A) → i ≢ j → put (put l i v) j w ≡ put (put l j w) i v
  put_comm l i j v w d = same_rows _ _ (simp length-put) row (simp rest_put) where
    row : (n : ℕ) → n < rows (put (put l i v) j w) → get (put (put l i v) j w) n ≡ get (put (put l j w) i v) n
    row n b = go (ℕ_discrete n i) (ℕ_discrete n j) where
      r : n < rows l
      r = omega (arith, simp rows-put at b)

      go : Dec (n ≡ i) → Dec (n ≡ j) → get (put (put l i v) j w) n ≡ get (put (put l j w) i v) n
      go (yes e) (yes f) = absurd (d (sym e ∙ f))
      go (yes e) (no f) = get-put_other _ j n w f ∙ rw e (get-put_same l i v (rw (← e) r) ∙ sym (get-put_same _ i v (rw (rows-put, ← e) r)))
      go (no e) (yes f) = rw f (get-put_same _ j w (rw (rows-put, ← f) r) ∙ sym (get-put_other _ i j v (λ q. d (sym q)) ∙ get-put_same l j w (rw (← f) r)))
      go (no e) (no f) = get-put_other _ j n w f ∙ get-put_other _ i n v e ∙ sym (get-put_other _ i n v e ∙ get-put_other _ j n w f)
