-- The numbers of each answer are document 01's for the call that gives it: a wrong table of numbers is refused here, and in every promise.
-- Assumes nothing.
use Rattle.std.specs.Prelude.{◌≡◌, ◌∷◌, Result, Ok, Err}
use Rattle.numbers.specs.Library.{ℕ, List, refl, ap, ◌∙◌, ℤ}
use Rattle.numbers.specs.declared.refusal.Refusal.{Refusal}
use Rattle.rules.specs.Prelude.{Outcome, Call, Create, Allocate, Release, LookUp, ListIn, Clear, Occupied, FreeSpace, Size, IsEmpty, Value, answer_numbers}
use Rattle.rules.specs.Prelude.{columns_made, done, count, area, sides, vacant, live_numbers, Answering, Answers}
use Rattle.rules.specs.Step.{item, told_by, value_numbers}
use Rattle.promises.specs.Answers.{says, numbers_of, one_number, no_number, side_numbers, truth_number}
use Rattle.promises.specs.Prelude.{creations, grants, replies, areas, extents, vacancies, listings}
use Rattle.promises.specs.declared.answers.Sides.{Sides}

abbrev pub Numbered : {A : Type 0} → Answering A → Call → Type 0
Numbered {A} t call = (r : A) → t.numbers r ≡ answer_numbers call (t.says r)

-- an answer that says the outcome
pub answered : {A : Type 0} {t : Answering A} {call : Call} → Numbered t call → (r : A) {o : Outcome Value} → t.says r ≡ o → Answers t call r o
answered {call = call} numbered r e = record { says = e; numbers = numbered r ∙ ap (answer_numbers call) e }

-- answers are numbered right where the numbers of what is told are, and as many zeros stand beside a refusal as the call tells numbers
numbered : {T : Type 0} (value : T → Value) (told : T → List ℕ) (call : Call) → ((t : T) → told t ≡ value_numbers (value t)) → (r : Result T Refusal)
    → numbers_of told (told_by call) r ≡ answer_numbers call (says value r)
unfolding says numbers_of answer_numbers
numbered value told call agree (Ok t) = ap (λ (ns : List ℕ). 0 ∷ ns) (agree t)
numbered value told call agree (Err e) = refl

pub create_numbered : (w h alignWidth alignHeight vertical columns : ℤ) → Numbered creations (Create w h alignWidth alignHeight vertical columns)
unfolding creations told_by value_numbers numbers_of says
create_numbered w h alignWidth alignHeight vertical columns = numbered columns_made one_number (Create w h alignWidth alignHeight vertical columns) (λ t. refl)

pub allocate_numbered : (w h : ℤ) → Numbered grants (Allocate w h)
unfolding grants told_by value_numbers numbers_of says
allocate_numbered w h = numbered item live_numbers (Allocate w h) (λ t. refl)

pub release_numbered : (row generation : ℕ) → Numbered replies (Release row generation)
unfolding replies told_by value_numbers numbers_of says
release_numbered row generation = numbered (λ t. done) no_number (Release row generation) (λ t. refl)

pub clear_numbered : Numbered replies Clear
unfolding replies told_by value_numbers numbers_of says
clear_numbered = numbered (λ t. done) no_number Clear (λ t. refl)

pub look_up_numbered : (row generation : ℕ) → Numbered grants (LookUp row generation)
unfolding grants told_by value_numbers numbers_of says
look_up_numbered row generation = numbered item live_numbers (LookUp row generation) (λ t. refl)

pub list_numbered : (room : ℕ) → Numbered listings (ListIn room)
unfolding listings told_by value_numbers numbers_of says
list_numbered room = numbered count one_number (ListIn room) (λ t. refl)

pub occupied_numbered : Numbered areas Occupied
unfolding areas told_by value_numbers numbers_of says
occupied_numbered = numbered area one_number Occupied (λ t. refl)

pub free_space_numbered : Numbered areas FreeSpace
unfolding areas told_by value_numbers numbers_of says
free_space_numbered = numbered area one_number FreeSpace (λ t. refl)

pub size_numbered : Numbered extents Size
unfolding extents told_by value_numbers numbers_of says
size_numbered = numbered (λ (s : Sides). sides s.width s.height) side_numbers Size (λ t. refl)

pub is_empty_numbered : Numbered vacancies IsEmpty
unfolding vacancies told_by value_numbers numbers_of says
is_empty_numbered = numbered vacant truth_number IsEmpty (λ t. refl)
