-- The longest answer: a list of all the rows of the item table, and the line that ends it. Assumes nothing.
use Rattle.std.specs.Prelude.{◌+◌, ◌≤◌, ◌≡◌, ◌∷◌}
use Rattle.numbers.specs.Library.{ℕ, arith, Bool, true, false, refl, ap, List, [], ltb, length}
use Rattle.numbers.specs.Prelude.{pick}
use Rattle.rows.specs.Prelude.{rows, items}
use Rattle.rows.specs.declared.{header.Header.Header, live.Live.Live}
use Rattle.rules.specs.Prelude.{Atlas, Room, Outcome, refused, gives, mapped, Given, room_in, atlas_in, make, allocate, release, look_up, list, list_in, Call}
use Rattle.rules.specs.Prelude.{Value, tells, made_of, told_of, step_in, step_without, step, Asks, fails, passes, Promise}
use Rattle.rules.specs.Step as call
use Rattle.laws.proofs.Stored.Few.{list_few}
use Rattle.promises.specs.Prelude.{items_told}
use Rattle.texts.specs.Answer.{text_of}
use Rattle.texts.specs.Lines.{newlines, newlines_append, one_line, one_refusal, PutsLines}
use Rattle.texts.specs.declared.answer.Answer.TheVariants as answer
use Rattle.feed.specs.Answers.{Asked}
use Rattle.script_rules.specs.Answers.{call_of, value_text, outcome_text}
use Rattle.script_rules.specs.Listing.{item_lines, list_text}
use Rattle.script_rules.specs.Step.{Doing}

-- ---- an outcome has a line, and one more for each item that it tells

abbrev item_count_of : Outcome Value → ℕ
item_count_of (refused n) = 0
item_count_of (gives v) = length (items_told v)

lines_lines : (ls : List Live) → newlines (item_lines ls) ≡ length ls
unfolding item_lines newlines
lines_lines [] = refl
lines_lines (l ∷ ls) = omega (arith, newlines_append (text_of (answer.Listed l)) (item_lines ls), one_line (answer.Listed l), lines_lines ls)

value_lines : (v : Value) → newlines (value_text v) ≤ length (items_told v) + 1
unfolding value_text items_told list_text newlines
value_lines (call.columns_made n) = omega (arith, one_line (answer.Made n))
value_lines (call.item l) = omega (arith, one_line (answer.Item l))
value_lines call.done = omega (arith, one_line answer.Done)
value_lines (call.items ls) =
    omega (arith, newlines_append (item_lines ls) (text_of (answer.End (length ls))), one_line (answer.End (length ls)), lines_lines ls)
value_lines (call.count n) = omega arith
value_lines (call.area n) = omega arith
value_lines (call.space occupied free) = omega (arith, one_line (answer.Space occupied free))
value_lines (call.sides w h) = omega arith
value_lines (call.vacant b) = omega arith

outcome_lines : (o : Outcome Value) → newlines (outcome_text o) ≤ item_count_of o + 1
unfolding outcome_text
outcome_lines (refused n) = omega (arith, one_refusal n)
outcome_lines (gives v) = value_lines v

-- ---- only a list tells items, and it has no more than the table has rows

no_items : {A : Type 0} (f : A → Given Value) → ((a : A) → items_told (f a).told ≡ []) → (o : Outcome A) → item_count_of (told_of (mapped f o)) ≡ 0
unfolding mapped
no_items f none (refused n) = refl
no_items f none (gives a) = ap length (none a)

module _ (h : Header) (S I : List ℕ) where
  few_in : (asked : Call) → Asks asked h S I → item_count_of (told_of (step_in (room_in S I) (atlas_in h S I) asked)) ≤ rows items I
  unfolding Asks step_in mapped made_of tells items_told list_in
  few_in (call.Create w height alignWidth alignHeight vertical columns) p = omega (arith, no_items made_of (λ a. refl) (make (room_in S I) w height alignWidth alignHeight vertical columns))
  few_in (call.Allocate w height) p = omega (arith, no_items (λ (g : Given Live). tells g.atlas (call.item g.told)) (λ a. refl) (allocate (room_in S I) (atlas_in h S I) w height))
  few_in (call.Release row generation) p = omega (arith, no_items (λ (a : Atlas). tells a call.done) (λ a. refl) (release (atlas_in h S I) row generation))
  few_in (call.LookUp row generation) p = omega (arith, no_items (λ (l : Live). tells (atlas_in h S I) (call.item l)) (λ a. refl) (look_up (atlas_in h S I) row generation))
  few_in (call.ListIn records) p = go (ltb records (length (list (atlas_in h S I)))) where
    go : (b : Bool) → item_count_of (told_of (mapped (λ (ls : List Live). tells (atlas_in h S I) (call.items ls)) (pick b (refused 10) (gives (list (atlas_in h S I)))))) ≤ rows items I
    go true = omega arith
    go false = list_few h S I p
  few_in call.Clear p = omega arith
  few_in call.Occupied p = omega arith
  few_in call.FreeSpace p = omega arith
  few_in call.Size p = omega arith
  few_in call.IsEmpty p = omega arith
  few_in call.Totals p = omega arith
  few_in call.NoSuchId p = omega arith
  few_in call.Unreadable p = omega arith

few_without : (room : Room) (asked : Call) → item_count_of (told_of (step_without room asked)) ≡ 0
unfolding step_without mapped made_of tells items_told
few_without room (call.Create w height alignWidth alignHeight vertical columns) = no_items made_of (λ a. refl) (make room w height alignWidth alignHeight vertical columns)
few_without room (call.Allocate w height) = refl
few_without room (call.Release row generation) = refl
few_without room (call.LookUp row generation) = refl
few_without room (call.ListIn records) = refl
few_without room call.Clear = refl
few_without room call.Occupied = refl
few_without room call.FreeSpace = refl
few_without room call.Size = refl
few_without room call.IsEmpty = refl
few_without room call.Totals = refl
few_without room call.NoSuchId = refl
few_without room call.Unreadable = refl

-- ---- every answer

pub few_lines : (h : Header) (S I : List ℕ) (h' : Header) (S' I' text : List ℕ) (c : Asked) → Doing h S I c h' S' I' text → newlines text ≤ rows items I + 1
unfolding Doing Promise step
few_lines h S I h' S' I' text c (fails n had) =
    omega (arith, ap newlines had.says, outcome_lines (told_of (step_without (room_in S I) (call_of c))), few_without (room_in S I) (call_of c))
few_lines h S I h' S' I' text c (passes p had) =
    omega (arith, ap newlines had.says, outcome_lines (told_of (step_in (room_in S I) (atlas_in h S I) (call_of c))), few_in h S I (call_of c) p)

-- with 2048 item rows it has 79,911 bytes at most: 2049 lines of 39
pub longest : (h : Header) (S I : List ℕ) (h' : Header) (S' I' : List ℕ) (c : Asked) {out : List ℕ} {at : ℕ} {text out' : List ℕ} {end : ℕ}
    → Doing h S I c h' S' I' text → PutsLines out at text out' end → rows items I ≤ 2048 → length text ≤ 79911
longest h S I h' S' I' c {text = text} d p few = omega (arith, few_lines h S I h' S' I' text c d, p.short)
