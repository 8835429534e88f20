-- A fresh atlas over the tables: answer 7 where either has fewer than C rows, else rows 0 to C - 1 of both are written. Assumes nothing.
use Rattle.std.specs.Prelude.{◌≡◌, ◌||◌, Ok, Err}
use Rattle.numbers.specs.Library.{ℕ, List, ltb}
use Rattle.numbers.specs.Prelude.{pick, columns}
use Rattle.numbers.specs.declared.limits.Limits.{Limits}
use Rattle.numbers.specs.declared.refusal.Refusal.{Refusal}
use Rattle.numbers.specs.declared.refusal.Refusal.TheVariants as refusal
use Rattle.rows.specs.Prelude.{rows, items, shelves, zero_header}
use Rattle.rules.specs.Prelude.{Unchanged}
use Rattle.init.specs.Init.{fresh_header, fresh_shelf_table, fresh_item_table}
use Rattle.promises.specs.declared.answers.Answered.{Answered}

module _ (S I : List ℕ) (r : Answered ℕ) (S' I' : List ℕ) where
  -- a refusal, with the all-zero header
  pub record RefusedWith (e : Refusal) : Type 0 where
    pub answer : r.answer ≡ Err e
    pub same : Unchanged zero_header S I r.header S' I'

  pub record MadeFresh (l : Limits) : Type 0 where
    pub answer : r.answer ≡ Ok (columns l)
    pub header : r.header ≡ fresh_header l (columns l)
    pub shelves : S' ≡ fresh_shelf_table l (columns l) S
    pub items : I' ≡ fresh_item_table l (columns l) I

  unfoldable pub MakesWithin : Limits → Type 0
  MakesWithin l = pick (ltb (rows shelves S) (columns l) || ltb (rows items I) (columns l)) (RefusedWith refusal.TooFewRows) (MadeFresh l)
