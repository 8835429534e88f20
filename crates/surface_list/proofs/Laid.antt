-- The records of the live rows, laid over the lent list one after the other; and what the checks have decided. Assumes nothing.
use Rattle.std.specs.Prelude.{◌≤◌, ◌<◌, ◌≡◌, ◌∷◌, ◌++◌, Ok, Err}
use Rattle.numbers.specs.Library.{ℕ, suc, refl, ap, ◌∙◌, Bool, true, not, List, [], length, set, lt-ltb, le-ltb}
use Rattle.numbers.specs.Prelude.{Decides}
use Rattle.numbers.specs.declared.refusal.Refusal.TheVariants as refusal
use Rattle.rows.specs.declared.{header.Header.Header, live.Live.Live}
use Rattle.rules.specs.Prelude.{atlas_in, Passes, gives, mapped, list_in, ListIn, is_create, tells, step_in, step_without, Asks}
use Rattle.rules.specs.Step as told
use Rattle.live_rows.specs.Live.{live_count, rows_listed}
use Rattle.bridge.proofs.Calls.{list_is}
use Rattle.promises.specs.Prelude.{says, listings, items_told, counted}
use Rattle.promises.proofs.Numbered.{answered, list_numbered}
use Rattle.promises.proofs.Cases.{stays, owed, fails_first, refuses, does}
use Rattle.listing.proofs.Listed.{all_rows}
use Rattle.surface_list.specs.Lives.{laid, items_of, ListsLives}

-- ---- records laid

pub length-laid : (ls out : List Live) → length (laid ls out) ≡ length out
unfolding laid
length-laid [] out = refl
length-laid (l ∷ ls) [] = refl
length-laid (l ∷ ls) (o ∷ out) = ap suc (length-laid ls out)

-- one more goes to the record after them
laid_more : (ls : List Live) (v : Live) (out : List Live) → laid (ls ++ (v ∷ [])) out ≡ set (laid ls out) (length ls) v
unfolding laid
laid_more [] v [] = refl
laid_more [] v (o ∷ out) = refl
laid_more (l ∷ ls) v [] = refl
laid_more (l ∷ ls) v (o ∷ out) = ap (λ (r : List Live). l ∷ r) (laid_more ls v out)

pub laid_next : (out : List Live) (v : Live) {count : ℕ} {out' : List Live} (ls : List Live) → count ≡ length ls → out' ≡ laid ls out
    → set out' count v ≡ laid (ls ++ (v ∷ [])) out
laid_next out v ls counted stored = rw (laid_more ls v out, ← stored, ← counted)

-- ---- 3, 10, and the list

pub lives_3 : (h : Header) (S I : List ℕ) {test : Bool} → Decides test (Passes h S I) → not test ≡ true → (out : List Live) → ListsLives h S I out (Err refusal.Audit) out
unfolding ListsLives Asks step_without is_create counted mapped items_of laid listings says
lives_3 h S I d e out =
    fails_first (ListIn (length out)) _ h S I d e refl refl (record { answers = answered (list_numbered (length out)) (Err refusal.Audit) refl; listed = refl })

module _ (h : Header) (S I : List ℕ) (p : Passes h S I) (out : List Live) (count : ℕ) (is : count ≡ live_count I h.used_items) where
  count_is : count ≡ length (rows_listed h S I h.used_items)
  count_is = is ∙ all_rows h S I h.used_items

  pub lives_short : length out < count → ListsLives h S I out (Err refusal.TooShort) out
  unfolding ListsLives Asks step_in mapped list_in is_create counted items_of laid listings says
  lives_short b =
      refuses (ListIn (length out)) _ h S I (owed p) refl 10 (λ _. rw (list_is h S I p, ← count_is, lt-ltb (length out) count b)) refl
      (record { answers = answered (list_numbered (length out)) (Err refusal.TooShort) refl; listed = refl })

  pub lives_all : count ≤ length out → (out' : List Live) → out' ≡ laid (rows_listed h S I h.used_items) out → ListsLives h S I out (Ok count) out'
  unfolding ListsLives Asks step_in mapped list_in counted items_of items_told listings says tells
  lives_all b out' e =
      let fits : length (rows_listed h S I h.used_items) ≤ length out = rw count_is at b in
      does (ListIn (length out)) _ h S I (owed p) h S I refl (λ _. (
        tells (atlas_in h S I) (told.items (rows_listed h S I h.used_items)),
        rw (list_is h S I p, le-ltb (length out) (length (rows_listed h S I h.used_items)) fits),
        record { answers = answered (list_numbered (length out)) (Ok count) (ap (λ (n : ℕ). gives (told.count n)) count_is); listed = e },
        stays h S I p,
      ))
