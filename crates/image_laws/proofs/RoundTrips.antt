-- An image that is loaded saves to the same bytes, and an atlas that is saved loads to the same header and used rows. Assumes nothing.
use Rattle.std.specs.Prelude.{◌≤◌, ◌≡◌, Result, Ok}
use Rattle.numbers.specs.Library.{ℕ, refl, sym, ap, ◌∙◌, Bool, true, false, List, length, take, drop, ltb, le-ltb, arith}
use Rattle.numbers.specs.Prelude.{pick}
use lib.Seq.{take_at}
use Rattle.rows.specs.Prelude.{rows, rows_long, items, shelves}
use Rattle.rows.specs.declared.{header.Header.Header, shelf.ShelfRow.ShelfRow, item.ItemRow.ItemRow}
use Rattle.rules.specs.Prelude.{Passes, Outcome, refused, gives, mapped}
use Rattle.rules.specs.Promise as judged
use Rattle.laws.specs.Same.{SameUsed}
use Rattle.numbers.specs.declared.refusal.Refusal.{Refusal}
use Rattle.promises.specs.declared.answers.Answered.{Answered}
use Rattle.promises.specs.Answers.{says}
use Rattle.promises.specs.Answering.{differ, replies}
use Rattle.image_form.specs.Bytes.{over}
use Rattle.image_form.specs.Form1.{image_of}
use Rattle.image_form.specs.Tables.{first_rows_of, stored_from}
use Rattle.image_form.proofs.Tables.{length-first, same_first, first_stored, length-stored}
use Rattle.image_promises.specs.Promises.{saving_says, saved_image, written, output_after, SavedSo, Saves, Holds, HasRows, header_after, LoadedSo, Loads, wrong, few, copied}
use Rattle.image_laws.proofs.AnySize.{passes_there}
use Rattle.image_laws.proofs.Outcomes.{Bytes, one_header, one_shelves, one_items}

-- ---- loaded, then saved

-- the rows that are stored are the first rows of the table
stored_back : {h : Header} {S I : List ℕ} {shelf_rows : List ShelfRow} {item_rows : List ItemRow} (image : List ℕ) → Holds image h shelf_rows item_rows → HasRows h S I
    → saved_image h (stored_from shelves 0 shelf_rows S) (stored_from items 0 item_rows I) ≡ image
unfolding saved_image
stored_back {h} {S} {I} {shelf_rows} {item_rows} image has fit =
    let s : first_rows_of shelves (stored_from shelves 0 shelf_rows S) h.used_shelves ≡ shelf_rows =
    rw (← has.shelf_count) (first_stored shelves shelf_rows S (rw has.shelf_count fit.shelf_room)) in
    let i : first_rows_of items (stored_from items 0 item_rows I) h.used_items ≡ item_rows =
    rw (← has.item_count) (first_stored items item_rows I (rw has.item_count fit.item_room)) in
    ap (λ (l : List ShelfRow). image_of h l (first_rows_of items (stored_from items 0 item_rows I) h.used_items)) s ∙ ap (image_of h shelf_rows) i ∙ sym has.is

module _ (image S I : List ℕ) (r : Answered (Unit {0})) (S' I' : List ℕ) (done : r.answer ≡ Ok tt) where
  refused_not : {n : ℕ} → LoadedSo r (refused n) → ⊥
  unfolding replies says mapped
  refused_not so = differ (sym so.says ∙ ap replies.says done)

  -- what a load that succeeds leaves: the atlas passes, and the image is that of its header and used rows
  pub loaded : Loads image S I r S' I' → Passes r.header S' I' × (saved_image r.header S' I' ≡ image)
  unfolding header_after
  loaded (wrong n so s i) = absurd (refused_not so)
  loaded (few h ss is has m so s i) = absurd (refused_not so)
  loaded (copied h ss is has fit s i (judged.fails n so)) = absurd (refused_not so)
  loaded (copied h ss is has fit s i (judged.passes p so)) = (rw so.header p, rw (so.header, s, i) (stored_back image has fit))

  -- "A loaded image saves to the same bytes."
  pub loaded_saves : Loads image S I r S' I' → (out : List ℕ) → length image ≤ length out → (q : Result ℕ Refusal) (out' : List ℕ) → Saves r.header S' I' out q out'
      → (saving_says q ≡ gives (length image)) × (out' ≡ over image out)
  unfolding Saves written mapped output_after
  loaded_saves l out fit q out' (judged.fails n so) = absurd (n (loaded l).0)
  loaded_saves l out fit q out' (judged.passes p so) =
      let e : saved_image r.header S' I' ≡ image = (loaded l).1 in
      let room : ltb (length out) (length (saved_image r.header S' I')) ≡ false = le-ltb (length out) (length (saved_image r.header S' I')) (omega (arith, ap length e)) in
      let so' : SavedSo out q out' (gives (saved_image r.header S' I')) = rw room at so in
      (so'.says ∙ ap (λ (l : List ℕ). gives (length l)) e, so'.output ∙ ap (λ (l : List ℕ). over l out) e)

-- ---- saved, then loaded

module _ (h : Header) (S I out : List ℕ) (r : Result ℕ Refusal) (out' : List ℕ) (n : ℕ) (says : saving_says r ≡ gives n) where
  -- what a save that succeeds leaves: the audit has passed, and the first n bytes are the image
  saved_so : (test : Bool) → SavedSo out r out' (pick test (refused 10) (gives (saved_image h S I))) → take n out' ≡ saved_image h S I
  unfolding mapped output_after
  saved_so true so = absurd (differ (sym so.says ∙ says))
  saved_so false so =
      let long : length (saved_image h S I) ≡ n = cc (so.says, says) in
      ap (take n) so.output ∙ take_at (saved_image h S I) (drop (length (saved_image h S I)) out) n long

  pub saved : Saves h S I out r out' → Passes h S I × (take n out' ≡ saved_image h S I)
  unfolding Saves written mapped
  saved (judged.fails m so) = absurd (differ (sym so.says ∙ says))
  saved (judged.passes p so) = (p, saved_so (ltb (length out) (length (saved_image h S I))) so)

  saved_holds : Saves h S I out r out' → Holds (take n out') h (first_rows_of shelves S h.used_shelves) (first_rows_of items I h.used_items)
  unfolding saved_image
  saved_holds s = record { shelf_count = length-first shelves S h.used_shelves; item_count = length-first items I h.used_items; is = (saved s).1 }

  module _ (s : Saves h S I out r out') (bytes : Bytes (take n out')) (S₂ I₂ : List ℕ) (fit : HasRows h S₂ I₂) (q : Answered (Unit {0})) (S₂' I₂' : List ℕ) where
    -- stored rows are the used rows again
    used_again : {g : Header} {ss : List ShelfRow} {is : List ItemRow} → Holds (take n out') g ss is → S₂' ≡ stored_from shelves 0 ss S₂ → I₂' ≡ stored_from items 0 is I₂
        → SameUsed h h S S₂' I I₂' × HasRows h S₂' I₂'
    used_again {g} {ss} {is} has s' i' =
        let e : g ≡ h = one_header (take n out') bytes has (saved_holds s) in
        let a : ss ≡ first_rows_of shelves S h.used_shelves = one_shelves (take n out') bytes has (saved_holds s) in
        let b : is ≡ first_rows_of items I h.used_items = one_items (take n out') bytes has (saved_holds s) in
        let la : length ss ≡ h.used_shelves = ap length a ∙ length-first shelves S h.used_shelves in
        let lb : length is ≡ h.used_items = ap length b ∙ length-first items I h.used_items in
        let fa : length ss ≤ rows shelves S₂ = rw la fit.shelf_room in
        let fb : length is ≤ rows items I₂ = rw lb fit.item_room in
        let u : first_rows_of shelves S₂' h.used_shelves ≡ first_rows_of shelves S h.used_shelves = rw (s', ← la) (first_stored shelves ss S₂ fa ∙ rw la a) in
        let v : first_rows_of items I₂' h.used_items ≡ first_rows_of items I h.used_items = rw (i', ← lb) (first_stored items is I₂ fb ∙ rw lb b) in
        let room : rows shelves S₂' ≡ rows shelves S₂ = rows_long shelves S₂' S₂ (ap length s' ∙ length-stored shelves ss S₂ fa) in
        let item_room : rows items I₂' ≡ rows items I₂ = rows_long items I₂' I₂ (ap length i' ∙ length-stored items is I₂ fb) in (
          record { header = refl; shelf_rows = λ i c. same_first shelves S S₂' h.used_shelves (sym u) i c; item_rows = λ i c. same_first items I I₂' h.used_items (sym v) i c },
          record { shelf_room = rw room fit.shelf_room; item_room = rw item_room fit.item_room },
        )

    -- A saved atlas loads to the same header and used rows, into tables of any size that have a row for each.
    pub saved_loads : Loads (take n out') S₂ I₂ q S₂' I₂' → (q.answer ≡ Ok tt) × (q.header ≡ h) × SameUsed h h S S₂' I I₂'
    unfolding header_after mapped replies says
    saved_loads (wrong m so s' i') = absurd (m _ _ _ (saved_holds s))
    saved_loads (few g ss is has m so s' i') = absurd (m (rw (one_header (take n out') bytes has (saved_holds s)) fit))
    saved_loads (copied g ss is has fits s' i' (judged.fails m so)) =
        let (used, room) = used_again has s' i' in
        absurd (m (rw (one_header (take n out') bytes has (saved_holds s)) (passes_there h S S₂' I I₂' used room (saved s).0)))
    saved_loads (copied g ss is has fits s' i' (judged.passes p so)) =
        (replies.apart q.answer (Ok tt) so.says, so.header ∙ one_header (take n out') bytes has (saved_holds s), (used_again has s' i').0)
