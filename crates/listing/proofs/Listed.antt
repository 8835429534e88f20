-- The list: what is written to the lent list is the list of the atlas that is met in the tables. Assumes nothing.
use Rattle.std.specs.Prelude.{◌+◌, ◌≤◌, ◌<◌, ◌≡◌, ◌≢◌, ◌∷◌, ◌++◌, Ok, Err}
use Rattle.numbers.specs.Library.{ℕ, zero, suc, refl, ap, ◌∙◌, Bool, true, false, not, List, [], append-nil, add-one, arith, eqb}
use Rattle.numbers.specs.Library.{length, length-append, dec_lt, eq-eqb, ne_eqb, lt-ltb, le-ltb}
use Rattle.numbers.specs.Prelude.{pick, Decides}
use Rattle.numbers.specs.declared.refusal.Refusal.TheVariants as refusal
use Rattle.rows.specs.Prelude.{rows, rows_long, get, put, length-put, items, shelves}
use Rattle.rows.specs.declared.{header.Header.Header, item.ItemRow.ItemRow, live.Live.Live}
use Rattle.rules.specs.Prelude.{atlas_in, Passes, gives, mapped, list_in, ListIn, is_create, tells, step_in, step_without, Asks}
use Rattle.rules.specs.Step as told
use Rattle.live_rows.specs.Live.{live_of_rows, live_at, live_one, live_count_from, live_count, row_listed, rows_listed}
use Rattle.bridge.proofs.Calls.{list_is}
use Rattle.promises.specs.Prelude.{says, listings, records, written, items_told, counted, filled, Lists}
use Rattle.promises.proofs.Numbered.{answered, list_numbered}
use Rattle.promises.proofs.Cases.{stays, owed, fails_first, refuses, does}

-- ---- records written

pub length-written : (k : ℕ) (ls : List Live) (out : List ℕ) → length (written k ls out) ≡ length out
unfolding written
length-written k [] out = refl
length-written k (l ∷ ls) out = length-written (suc k) ls (put records out k l) ∙ length-put records out k l

written_more : (k : ℕ) (ls ms : List Live) (out : List ℕ) → written k (ls ++ ms) out ≡ written (k + length ls) ms (written k ls out)
unfolding written
written_more k [] ms out = let e : k + 0 ≡ k = omega arith in rw e
written_more k (l ∷ ls) ms out =
    let e : suc k + length ls ≡ k + suc (length ls) = omega arith in
    written_more (suc k) ls ms (put records out k l) ∙ ap (λ (n : ℕ). written n ms (written (suc k) ls (put records out k l))) e

rows_written : (k : ℕ) (ls : List Live) (out : List ℕ) → rows records (written k ls out) ≡ rows records out
rows_written k ls out = rows_long records (written k ls out) out (length-written k ls out)

-- ---- counted before anything is written

from_last : (I : List ℕ) (n row : ℕ) → live_count_from I row (suc n) ≡ live_count_from I row n + live_one I (row + n)
unfolding live_count_from
from_last I zero row = let e : row + 0 ≡ row = omega arith in rw e (omega arith)
from_last I (suc n) row =
    let e : row + 1 + n ≡ row + suc n = omega arith in
    rw (← e) (omega (arith, from_last I n (row + 1)))

module _ (h : Header) (S I : List ℕ) where
  one_row : (row : ℕ) → live_one I row ≡ length (row_listed h S I row)
  unfolding live_one row_listed
  one_row row = go (eqb (get items I row).allocated 1) where
    go : (b : Bool) → pick b 1 0 ≡ length (pick b (live_at h S I row ∷ []) [])
    go true = refl
    go false = refl

  pub all_rows : (n : ℕ) → live_count I n ≡ length (rows_listed h S I n)
  unfolding rows_listed live_count_from live_count
  all_rows zero = refl
  all_rows (suc n) =
      let e : 0 + n ≡ n = omega arith in
      rw (length-append, ← all_rows n, ← one_row n) (rw e at (from_last I n 0))

  -- more rows list no fewer items
  pub no_fewer : (n row : ℕ) → row ≤ n → length (rows_listed h S I row) ≤ length (rows_listed h S I n)
  unfolding rows_listed
  no_fewer zero row b = let e : row ≡ 0 = omega arith in rw e (omega arith)
  no_fewer (suc n) row b = go (no_fewer n row) (dec_lt row (suc n)) where
    go : (row ≤ n → length (rows_listed h S I row) ≤ length (rows_listed h S I n)) → Dec (row < suc n) → length (rows_listed h S I row) ≤ length (rows_listed h S I n ++ row_listed h S I n)
    go before (yes c) = omega (arith, before (omega arith), length-append (rows_listed h S I n) (row_listed h S I n))
    go before (no c) = let e : row ≡ suc n = omega arith in rw e (omega arith)

-- ---- row by row

-- one more record, after as many as are written
pub written_next : (out : List ℕ) (v : Live) {count : ℕ} {out' : List ℕ} (ls : List Live) → count ≡ length ls → out' ≡ written 0 ls out
    → put records out' count v ≡ written 0 (ls ++ (v ∷ [])) out
unfolding written
written_next out v ls counted stored =
    let from : length ls ≡ 0 + length ls = omega arith in
    rw (written_more 0 ls (v ∷ []) out, ← stored, ← from, ← counted)

-- `store` is what a lent list holds of some items
module _ (h : Header) (S I : List ℕ) {T : Type 0} (store : List Live → T) where
  -- the rows so far: how many items they hold, and what is stored of them
  pub record Listed (row count : ℕ) (out' : T) : Type 0 where
    pub few : count ≤ row
    pub counted : count ≡ length (rows_listed h S I row)
    pub stored : out' ≡ store (rows_listed h S I row)

  pub none_listed : (out : T) → out ≡ store [] → Listed 0 0 out
  unfolding rows_listed
  none_listed out e = record { few = omega arith; counted = refl; stored = e }

  module _ {out' : T} {row count : ℕ} (l : Listed row count out') (i : ItemRow) (read : i ≡ get items I row) where
    pub idle_listed : i.allocated ≢ 1 → Listed (row + 1) count out'
    unfolding rows_listed row_listed
    idle_listed n =
        let same : rows_listed h S I (row + 1) ≡ rows_listed h S I row = rw (add-one, ← read, ne_eqb i.allocated 1 n) (append-nil (rows_listed h S I row)) in
        record { few = omega (arith, l.few); counted = rw same l.counted; stored = rw same l.stored }

    module _ (live : i.allocated ≡ 1) where
      one_more : rows_listed h S I (row + 1) ≡ rows_listed h S I row ++ (live_at h S I row ∷ [])
      unfolding rows_listed row_listed
      one_more = rw (add-one, ← read, eq-eqb i.allocated 1 live)

      more_counted : count + 1 ≡ length (rows_listed h S I (row + 1))
      more_counted = omega (arith, l.counted, ap length one_more, length-append (rows_listed h S I row) (live_at h S I row ∷ []))

      -- it is stored after those before it
      pub live_listed : (v : Live) → v ≡ live_of_rows h (get shelves S i.shelf.0) i row → (out'' : T)
          → ((ls : List Live) → count ≡ length ls → out' ≡ store ls → out'' ≡ store (ls ++ (v ∷ []))) → Listed (row + 1) (count + 1) out''
      unfolding live_at
      live_listed v is out'' next =
          let this : v ≡ live_at h S I row = is ∙ rw read in
          record {
            few = omega (arith, l.few);
            counted = more_counted;
            stored = rw (one_more, ← this) (next (rows_listed h S I row) l.counted l.stored);
          }

      -- a live row is one of those for which there is room
      pub has_place : (used : ℕ) → row < used → (room : ℕ) → live_count I used ≤ room → count < room
      has_place used b room fits = omega (arith, fits, more_counted, all_rows h S I used, no_fewer h S I used (row + 1) (omega arith))

-- so the record of a live row has a place in the lent list
pub place_there : {h : Header} {S I : List ℕ} (out : List ℕ) {out' : List ℕ} {row count : ℕ} → Listed h S I (λ (ls : List Live). written 0 ls out) row count out'
    → count < rows records out → count < rows records out'
place_there {h} {S} {I} out {row = row} l b = rw (l.stored, rows_written 0 (rows_listed h S I row) out) b

-- ---- 3, 10, and the list

pub lists_3 : (h : Header) (S I : List ℕ) {test : Bool} → Decides test (Passes h S I) → not test ≡ true → (out : List ℕ) → Lists h S I out (Err refusal.Audit) out
unfolding Lists Asks step_without is_create counted mapped filled listings says
lists_3 h S I d e out =
    fails_first (ListIn (rows records out)) _ h S I d e refl refl (record { answers = answered (list_numbered (rows records out)) (Err refusal.Audit) refl; listed = refl })

module _ (h : Header) (S I : List ℕ) (p : Passes h S I) (out : List ℕ) (count : ℕ) (is : count ≡ live_count I h.used_items) (room : ℕ) (has : room ≡ rows records out) where
  count_is : count ≡ length (rows_listed h S I h.used_items)
  count_is = is ∙ all_rows h S I h.used_items

  pub lists_short : room < count → Lists h S I out (Err refusal.TooShort) out
  unfolding Lists Asks step_in mapped list_in is_create counted filled listings says
  lists_short b =
      refuses (ListIn (rows records out)) _ h S I (owed p) refl 10 (λ _. rw (list_is h S I p, ← count_is, ← has, lt-ltb room count b)) refl
      (record { answers = answered (list_numbered (rows records out)) (Err refusal.TooShort) refl; listed = refl })

  pub lists_all : count ≤ room → (out' : List ℕ) → out' ≡ written 0 (rows_listed h S I h.used_items) out → Lists h S I out (Ok count) out'
  unfolding Lists Asks step_in mapped list_in counted filled items_told listings says tells
  lists_all b out' e =
      let fits : length (rows_listed h S I h.used_items) ≤ room = rw count_is at b in
      does (ListIn (rows records out)) _ h S I (owed p) h S I refl (λ _. (
        tells (atlas_in h S I) (told.items (rows_listed h S I h.used_items)),
        rw (list_is h S I p, ← has, le-ltb room (length (rows_listed h S I h.used_items)) fits),
        record { answers = answered (list_numbered (rows records out)) (Ok count) (ap (λ (n : ℕ). gives (told.count n)) count_is); listed = e },
        stays h S I p,
      ))
