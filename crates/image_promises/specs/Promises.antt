-- What save and load promise, for every header, every two tables, every output and every byte string of every length. `S` and `I` are the shelf and the
-- item table before the call, `S'` and `I'` after it, `r` is what it returns. Assumes nothing.
use Rattle.std.specs.Prelude.{◌≤◌, ◌≡◌, ◌∷◌, Result}
use Rattle.numbers.specs.Library.{ℕ, List, [], length, ltb}
use Rattle.numbers.specs.Prelude.{pick}
use Rattle.numbers.specs.declared.refusal.Refusal.{Refusal}
use Rattle.rows.specs.Prelude.{rows, items, shelves, zero_header}
use Rattle.rows.specs.declared.{header.Header.Header, shelf.ShelfRow.ShelfRow, item.ItemRow.ItemRow}
use Rattle.rules.specs.Prelude.{Passes, Outcome, refused, gives, mapped, Judged, done}
use Rattle.promises.specs.Answers.{says, numbers_of, one_number}
use Rattle.promises.specs.Answering.{replies}
use Rattle.promises.specs.declared.answers.Answered.{Answered}
use Rattle.image_form.specs.Bytes.{over}
use Rattle.image_form.specs.Tables.{first_rows_of, stored_from}
use Rattle.image_form.specs.Form1.{image_of}

-- ---- save

-- what an answer says, the image's length, and in which numbers of document 01
unfoldable pub saving_says : Result ℕ Refusal → Outcome ℕ
unfolding says
saving_says = says (λ (n : ℕ). n)

unfoldable pub saving_numbers : Result ℕ Refusal → List ℕ
unfolding numbers_of
saving_numbers = numbers_of one_number 1

-- "Used rows only, by rising row": the image of a header and tables
unfoldable pub saved_image : Header → List ℕ → List ℕ → List ℕ
unfolding image_of first_rows_of
saved_image h S I = image_of h (first_rows_of shelves S h.used_shelves) (first_rows_of items I h.used_items)

-- "10: lent list or output too short"
unfoldable pub written : (room : ℕ) → List ℕ → Outcome (List ℕ)
written room image = pick (ltb room (length image)) (refused 10) (gives image)

-- "Output bytes past a saved image stay as they were; the length is returned."
unfoldable pub save_numbers : Outcome (List ℕ) → List ℕ
save_numbers (refused n) = n ∷ 0 ∷ []
save_numbers (gives image) = 0 ∷ length image ∷ []

unfoldable pub output_after : List ℕ → Outcome (List ℕ) → List ℕ
output_after out (refused n) = out
output_after out (gives image) = over image out

pub record SavedSo (out : List ℕ) (r : Result ℕ Refusal) (out' : List ℕ) (o : Outcome (List ℕ)) : Type 0 where
  pub says : saving_says r ≡ mapped length o
  pub numbers : saving_numbers r ≡ save_numbers o
  pub output : out' ≡ output_after out o

-- "List and save: 3, 10."
unfoldable pub Saves : (h : Header) (S I out : List ℕ) (r : Result ℕ Refusal) (out' : List ℕ) → Type 0
unfolding written saved_image
Saves h S I out r out' = Judged (Passes h S I) (SavedSo out r out') (refused 3) (written (length out) (saved_image h S I))

-- ---- load

-- An image holds a header and rows, as many as the header says are used.
pub record Holds (image : List ℕ) (h : Header) (shelf_rows : List ShelfRow) (item_rows : List ItemRow) : Type 0 where
  pub shelf_count : length shelf_rows ≡ h.used_shelves
  pub item_count : length item_rows ≡ h.used_items
  pub is : image ≡ image_of h shelf_rows item_rows

-- the tables have a row for each used row
pub record HasRows (h : Header) (S I : List ℕ) : Type 0 where
  pub shelf_room : h.used_shelves ≤ rows shelves S
  pub item_room : h.used_items ≤ rows items I

-- "A refused create or load returns an all-zero header."
unfoldable pub header_after : Outcome Header → Header
header_after (refused n) = zero_header
header_after (gives h) = h

unfoldable pub load_numbers : Outcome Header → List ℕ
load_numbers (refused n) = n ∷ []
load_numbers (gives h) = 0 ∷ []

pub record LoadedSo (r : Answered (Unit {0})) (o : Outcome Header) : Type 0 where
  pub says : replies.says r.answer ≡ mapped (λ h. done) o
  pub numbers : replies.numbers r.answer ≡ load_numbers o
  pub header : r.header ≡ header_after o

pub data Loads (image S I : List ℕ) (r : Answered (Unit {0})) (S' I' : List ℕ) : Type 0 where
  -- "any block that isn't exactly so or any other total length gives 9": there are no header and rows that have this image
  wrong : ((h : Header) (shelf_rows : List ShelfRow) (item_rows : List ItemRow) → Holds image h shelf_rows item_rows → ⊥)
      → LoadedSo r (refused 9) → S' ≡ S → I' ≡ I → Loads image S I r S' I'
  -- "too few rows 7"
  few : (h : Header) (shelf_rows : List ShelfRow) (item_rows : List ItemRow) → Holds image h shelf_rows item_rows → (HasRows h S I → ⊥)
      → LoadedSo r (refused 7) → S' ≡ S → I' ≡ I → Loads image S I r S' I'
  -- "then rows are copied and audited. If that fails: 3, an all-zero header, copied rows stay, the rest is unchanged."
  copied : (h : Header) (shelf_rows : List ShelfRow) (item_rows : List ItemRow) → Holds image h shelf_rows item_rows → HasRows h S I
      → S' ≡ stored_from shelves 0 shelf_rows S → I' ≡ stored_from items 0 item_rows I → Judged (Passes h S' I') (LoadedSo r) (refused 3) (gives h)
      → Loads image S I r S' I'
