-- What the commands that change nothing say: a refusal, or what is told of the atlas that is met in the tables. Assumes nothing.
use Rattle.std.specs.Prelude.{◌≤◌, ◌≡◌, ◌++◌}
use Rattle.numbers.specs.Library.{ℕ, refl, Bool, true, false, not, List, length, arith, le-ltb}
use Rattle.numbers.specs.Prelude.{Decides, space_left}
use Rattle.numbers.specs.declared.refusal.Refusal.TheVariants as refusal
use Rattle.rows.specs.Prelude.{rows_few, items}
use Rattle.rows.specs.declared.header.Header.{Header}
use Rattle.rules.specs.Prelude.{mapped, atlas_in, Passes, list_in, ListIn, Totals, is_create, tells, step_in, step_without, Asks}
use Rattle.rules.specs.Step as told
use Rattle.laws.proofs.Stored.Few.{list_few}
use Rattle.live_rows.specs.Live.{rows_listed}
use Rattle.bridge.proofs.Calls.{occupied_is, free_is, list_is}
use Rattle.promises.proofs.Cases.{stays, fails_first, does}
use Rattle.lines.specs.declared.command.Tell.TheVariants as tell
use Rattle.texts.specs.Answer.{text_of}
use Rattle.texts.specs.Lines.{lines_then}
use Rattle.texts.specs.declared.answer.Answer.TheVariants as answer
use Rattle.script_rules.specs.Answers.{every_row, tell_of, outcome_text}
use Rattle.script_rules.specs.Listing.{item_lines, list_text}
use Rattle.script_rules.specs.Step.{Texts, Calling, Said, Steps}
use Rattle.script_rules.specs.declared.Stepped.{Stepped}
use Rattle.script_tells.specs.Listing.{Listed}
use Rattle.script_tells.specs.declared.list.Lines.{Lines}

-- ---- where the audit decides

module _ (h : Header) (S I : List ℕ) {test : Bool} (d : Decides test (Passes h S I)) where
  pub space_3 : not test ≡ true → Calling h S I (tell_of tell.Space) h S I (text_of (answer.No refusal.Audit))
  unfolding Calling tell_of Asks step_without is_create outcome_text
  space_3 e = fails_first Totals (Texts (text_of (answer.No refusal.Audit))) h S I d e refl refl refl

  pub space_told : not test ≡ false → (free : ℕ) → free ≡ space_left h.limits h.occupied
      → Calling h S I (tell_of tell.Space) h S I (text_of (answer.Space h.occupied free))
  unfolding Calling tell_of Asks step_in tells outcome_text
  space_told e free is =
      does Totals (Texts (text_of (answer.Space h.occupied free))) h S I d h S I e
      (λ p. (tells (atlas_in h S I) (told.space h.occupied free), rw (free_is h S I p, occupied_is h S I p, ← is), refl, stays h S I p))

  pub list_3 : not test ≡ true → Calling h S I (tell_of tell.List) h S I (text_of (answer.No refusal.Audit))
  unfolding Calling tell_of Asks step_without is_create outcome_text
  list_3 e = fails_first (ListIn every_row) (Texts (text_of (answer.No refusal.Audit))) h S I d e refl refl refl

-- the lines of all items, and then their count
module _ (h : Header) (S I : List ℕ) {test : Bool} (d : Decides test (Passes h S I)) (passed : not test ≡ false) where
  -- a table has no more rows than the script's list has room for
  fits : Passes h S I → length (rows_listed h S I h.used_items) ≤ every_row
  fits p = rw (← list_is h S I p) (omega (arith, list_few h S I p, rows_few items I))

  pub list_told : {out mid : List ℕ} {at : ℕ} {r : Stepped} {out' : List ℕ} (lines : Lines) → Listed (rows_listed h S I h.used_items) out at lines mid
      → Said h mid lines.at (text_of (answer.End lines.count)) r out' → Steps (Calling h S I (tell_of tell.List)) out at r S I out'
  unfolding Calling tell_of Asks step_in mapped list_in tells outcome_text list_text
  list_told lines l s = record {
    text = item_lines (rows_listed h S I h.used_items) ++ text_of (answer.End lines.count);
    puts = lines_then l.puts s.puts;
    right = rw (s.header, l.counted) (does (ListIn every_row) (Texts (list_text (rows_listed h S I h.used_items))) h S I d h S I passed (λ p. (
      tells (atlas_in h S I) (told.items (rows_listed h S I h.used_items)),
      rw (list_is h S I p, le-ltb every_row (length (rows_listed h S I h.used_items)) (fits p)),
      refl,
      stays h S I p,
    )));
  }
