-- The cases of create and clear, over variables: from what the code has seen follows the part of their promises that is met. Assumes nothing.
use Rattle.std.specs.Prelude.{◌<◌, ◌≤◌, ◌≡◌, ◌||◌, Ok, Err}
use Rattle.numbers.specs.Library.{ℕ, refl, ap, Bool, true, false, not, List, ℤ, ltb, lt-ltb, le-ltb, ltb-false}
use mathlib.Core.Bool.{or-true}
use Rattle.numbers.specs.Prelude.{pick, Decides, refusal_number, create_numbers, columns, WithinLimits, created_within}
use Rattle.numbers.specs.declared.limits.Limits.{Limits}
use Rattle.numbers.specs.declared.refusal.Refusal.{Refusal}
use Rattle.numbers.specs.declared.refusal.Refusal.TheVariants as refusal
use Rattle.rows.specs.Prelude.{rows, items, shelves, zero_header}
use Rattle.rows.specs.declared.header.Header.{Header}
use Rattle.rules.specs.Prelude.{fresh, room_in, atlas_in, PassesForClear, refused, gives, mapped, make, make_within, clear, Call, Create, Clear, is_create, tells}
use Rattle.rules.specs.Prelude.{made_of, step_in, step_without, step, Answers, Leaves, header_kept, Asks, passes, Comes, Promise}
use Rattle.rules.specs.Step as told
use Rattle.init.specs.Init.{fresh_header, fresh_shelf_table, fresh_item_table}
use Rattle.bridge.proofs.Calls.{create_becomes, clear_becomes}
use Rattle.promises.specs.Prelude.{says, creations, replies, Creates, Clears}
use Rattle.promises.specs.declared.answers.Answered.{Answered}
use Rattle.promises.proofs.Numbered.{answered, create_numbered, clear_numbered}
use Rattle.promises.proofs.Cases.{unchanged, fails_first, does}
use Rattle.create.specs.Making.{RefusedWith, MadeFresh, MakesWithin}

-- ---- a fresh atlas over the tables

-- n columns are found
module _ (S I : List ℕ) (l : Limits) (n : ℕ) (n-is : n ≡ columns l) where
  module _ (r : Answered ℕ) (is : r ≡ record { answer = Err refusal.TooFewRows; header = zero_header }) where
    refused_7 : (b c : Bool) → (b || c ≡ true) → pick (b || c) (RefusedWith S I r S I refusal.TooFewRows) (MadeFresh S I r S I l)
    refused_7 b c e = rw (e, is) (record { answer = refl; same = unchanged })

    pub few_shelves : rows shelves S < n → MakesWithin S I r S I l
    unfolding MakesWithin
    few_shelves b = refused_7 (ltb (rows shelves S) (columns l)) (ltb (rows items I) (columns l)) (rw (← n-is, lt-ltb (rows shelves S) n b))

    pub few_items : rows items I < n → MakesWithin S I r S I l
    unfolding MakesWithin
    few_items b = refused_7 (ltb (rows shelves S) (columns l)) (ltb (rows items I) (columns l)) (rw (← n-is, lt-ltb (rows items I) n b) (or-true (ltb (rows shelves S) n)))

  pub made_fresh : (S' I' : List ℕ) (header : Header) → n ≤ rows shelves S → n ≤ rows items I → header ≡ fresh_header l n → S' ≡ fresh_shelf_table l n S → I' ≡ fresh_item_table l n I
      → MakesWithin S I (record { answer = Ok n; header = header }) S' I' l
  unfolding MakesWithin
  made_fresh S' I' header s i eh es ei =
      rw (← n-is, le-ltb (rows shelves S) n s, le-ltb (rows items I) n i)
      (record { answer = rw n-is; header = rw n-is at eh; shelves = rw n-is at es; items = rw n-is at ei })

-- ---- create

module _ (S I : List ℕ) (w h alignWidth alignHeight vertical columns-asked : ℤ) (r : Answered ℕ) (S' I' : List ℕ) where
  abbrev call : Call
  call = Create w h alignWidth alignHeight vertical columns-asked

  abbrev Had : (n : ℕ) → Type 0
  Had n = Comes call (Answers creations call r.answer) zero_header S I r.header S' I' (refused n)

  refused_so : (e : Refusal) → RefusedWith S I r S' I' e → Had (refusal_number e)
  unfolding mapped Leaves header_kept is_create creations says
  refused_so e had = record {
    says = answered (create_numbered w h alignWidth alignHeight vertical columns-asked) r.answer (ap creations.says had.answer);
    leaves = had.same;
  }

  within : (l : Limits) → WithinLimits l → MakesWithin S I r S' I' l → Comes call (Answers creations call r.answer) zero_header S I r.header S' I' (mapped made_of (make_within (room_in S I) l))
  unfolding MakesWithin make_within room_in mapped Leaves made_of tells creations says fresh
  within l limits had = go (ltb (rows shelves S) (columns l)) (ltb (rows items I) (columns l)) refl refl had where
    fresh_so : columns l ≤ rows shelves S → columns l ≤ rows items I → MadeFresh S I r S' I' l
        → Comes call (Answers creations call r.answer) zero_header S I r.header S' I' (gives (made_of (fresh l)))
    fresh_so s i had = record {
      says = answered (create_numbered w h alignWidth alignHeight vertical columns-asked) r.answer (ap creations.says had.answer);
      leaves = rw (had.header, had.shelves, had.items) (create_becomes l S I limits s i);
    }

    go : (b c : Bool) → ltb (rows shelves S) (columns l) ≡ b → ltb (rows items I) (columns l) ≡ c → pick (b || c) (RefusedWith S I r S' I' refusal.TooFewRows) (MadeFresh S I r S' I' l)
        → Comes call (Answers creations call r.answer) zero_header S I r.header S' I' (mapped made_of (pick (b || c) (refused 7) (gives (fresh l))))
    go true c e f had = refused_so refusal.TooFewRows had
    go false true e f had = refused_so refusal.TooFewRows had
    go false false e f had = fresh_so (ltb-false _ _ e) (ltb-false _ _ f) had

  pub creates_within : (l : Limits) → create_numbers w h alignWidth alignHeight vertical columns-asked ≡ Ok l → MakesWithin S I r S' I' l
      → Creates S I w h alignWidth alignHeight vertical columns-asked r S' I'
  unfolding Creates Promise Asks step step_in make
  creates_within l e had =
      passes tt (rw (e, make) (within l (created_within w h alignWidth alignHeight vertical columns-asked l e) had))

  pub creates_beyond : (refusal : Refusal) → create_numbers w h alignWidth alignHeight vertical columns-asked ≡ Err refusal
      → r ≡ record { answer = Err refusal; header = zero_header } → S' ≡ S → I' ≡ I → Creates S I w h alignWidth alignHeight vertical columns-asked r S' I'
  unfolding Creates Promise Asks step step_in make mapped
  creates_beyond refusal e is s i =
      passes tt (rw (e, make) (refused_so refusal (record { answer = ap (λ (x : Answered ℕ). x.answer) is; same = record { header = ap (λ (x : Answered ℕ). x.header) is; shelves = s; items = i } })))

-- ---- clear

module _ (h : Header) (S I : List ℕ) {test : Bool} (d : Decides test (PassesForClear h S I)) where
  pub clear_3 : not test ≡ true → Clears h S I (record { answer = Err refusal.Audit; header = h }) S I
  unfolding Clears Asks step_without is_create replies says
  clear_3 e = fails_first Clear _ h S I d e refl refl (answered clear_numbered (Err refusal.Audit) refl)

  pub cleared : not test ≡ false → (S' I' : List ℕ) (l : Limits) (n : ℕ) (header : Header)
      → l ≡ h.limits → n ≡ columns l → header ≡ fresh_header l n → S' ≡ fresh_shelf_table l n S → I' ≡ fresh_item_table l n I
      → Clears h S I (record { answer = (Ok tt); header = header }) S' I'
  unfolding Clears Asks step_in clear tells replies says atlas_in
  cleared e S' I' l n header el en eh es ei =
      does Clear _ h S I d header S' I' e (λ p. (
        tells (fresh h.limits) told.done,
        refl,
        answered clear_numbered (Ok tt) refl,
        rw (eh, es, ei, en, el) (clear_becomes h S I p),
      ))
