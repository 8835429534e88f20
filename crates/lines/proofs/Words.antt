-- The laws of words and commands that the proofs of reading a line cite. Assumes nothing.
use Rattle.std.specs.Prelude.{◌+◌, ◌-◌, ◌≤◌, ◌<◌, ◌≡◌, ◌∷◌, ◌++◌, ◌==◌, Option, Some, None, nat_lt, not, cond, position}
use Rattle.std.specs.List.{prefix_len, position_or_len}
use Rattle.std.proofs.lemmas.Option.{cond_some}
use Rattle.numbers.specs.Library.{ℕ, suc, arith, add-one, refl, sym, ap, ◌∙◌, Bool, true, false, and-false, List, []}
use Rattle.numbers.specs.Library.{append_assoc, append-nil, length, get_or, take, drop, length-append, drop-cons, eqb, ℤ, w32, to_z}
use Rattle.numbers.specs.Library.{of_z, to_z-of_z, ne_eqb, le-leb, lt-leb, ltb-false}
use lib.ListN.{drop_of_length-le}
use lib.Seq.{drop-drop, get_or-take}
use lib.Signed.{mag}
use Rattle.numbers.specs.Prelude.{pick, one_to}
use Rattle.numerals.specs.Numeral.{number_of}
use Rattle.lines.specs.Line.{words, on_first, first_word, on_numbers, with_number, numbers_of, at, create_args, of_six, of_two, of_none}
use Rattle.lines.specs.Line.{of_letter, of_numbers, of_words, said_by, command_of}

-- ---- by the count of numbers

module _ (c : ℕ) (zs : List ℤ) where
  pub by_six : length zs ≡ 6 → of_letter c zs ≡ of_six c (create_args zs)
  unfolding of_letter
  by_six e = simp e

  pub by_two : length zs ≡ 2 → of_letter c zs ≡ of_two c (at zs 0) (at zs 1)
  unfolding of_letter
  by_two e = simp e

  pub by_none : length zs ≡ 0 → of_letter c zs ≡ of_none c
  unfolding of_letter
  by_none e = simp e

  pub by_other : (length zs ≡ 6 → ⊥) → (length zs ≡ 2 → ⊥) → (length zs ≡ 0 → ⊥) → of_letter c zs ≡ None
  unfolding of_letter
  by_other a b d = simp (ne_eqb _ _ a, ne_eqb _ _ b, ne_eqb _ _ d)

-- a signed number that went through its bits
pub back : (z : ℤ) → mag z < 2147483648 → to_z w32 (of_z w32 z) ≡ z
back z h = to_z-of_z {w = w32} {z = z} (record { sfits = h })

-- ---- a word's end

spaces_to : (l : List ℕ) → position_or_len (λ byte. byte == 32) l ≡ length (first_word l)
unfolding first_word
spaces_to [] = refl
spaces_to (c ∷ cs) = go (eqb c 32) (spaces_to cs) where
  go : (b : Bool) → prefix_len (λ byte. not (byte == 32)) cs ≡ length (first_word cs)
      → cond (not b) (1 + prefix_len (λ byte. not (byte == 32)) cs) 0 ≡ length (pick b [] (c ∷ first_word cs))
  go true h = refl
  go false h = omega (arith, h)

first_within : (l : List ℕ) → length (first_word l) ≤ length l
unfolding first_word
first_within [] = omega arith
first_within (c ∷ cs) = go (eqb c 32) (first_within cs) where
  go : (b : Bool) → length (first_word cs) ≤ length cs → length (pick b [] (c ∷ first_word cs)) ≤ suc (length cs)
  go true h = omega arith
  go false h = omega (arith, h)

pub space_found : (l : List ℕ) (n : ℕ) → Some n ≡ position (λ byte. byte == 32) l → length (first_word l) ≡ n
space_found l n e = sym (spaces_to l) ∙ (cond_some _ _ _ (sym e)).1

pub no_space : (l : List ℕ) → None ≡ position (λ byte. byte == 32) l → length (first_word l) ≡ length l
no_space l e = go (nat_lt (position_or_len (λ byte. byte == 32) l) (length l)) refl e where
  go : (b : Bool) → nat_lt (position_or_len (λ byte. byte == 32) l) (length l) ≡ b
      → None ≡ cond b (Some (position_or_len (λ byte. byte == 32) l)) None → length (first_word l) ≡ length l
  go true t f = cc
  go false t f = omega (arith, ltb-false _ _ t, spaces_to l, first_within l)

-- ---- words

-- the words after the first: what follows a word is nothing, or a space and more words
unfoldable pub tail_words : List ℕ → List (List ℕ)
tail_words [] = []
tail_words (c ∷ cs) = words cs

words_by : (c : ℕ) (cs : List ℕ) (b : Bool) → words cs ≡ first_word cs ∷ tail_words (drop (length (first_word cs)) cs)
    → pick b ([] ∷ words cs) (on_first c (words cs)) ≡ pick b [] (c ∷ first_word cs) ∷ tail_words (drop (length (pick b [] (c ∷ first_word cs))) (c ∷ cs))
unfolding tail_words
words_by c cs true h = refl
words_by c cs false h = ap (on_first c) h

words_first : (l : List ℕ) → words l ≡ first_word l ∷ tail_words (drop (length (first_word l)) l)
unfolding words first_word tail_words
words_first [] = refl
words_first (c ∷ cs) = words_by c cs (eqb c 32) (words_first cs)

take_by : (c : ℕ) (cs : List ℕ) (b : Bool) → take (length (first_word cs)) cs ≡ first_word cs
    → take (length (pick b [] (c ∷ first_word cs))) (c ∷ cs) ≡ pick b [] (c ∷ first_word cs)
take_by c cs true h = refl
take_by c cs false h = ap (λ (l : List ℕ). c ∷ l) h

take-first : (l : List ℕ) → take (length (first_word l)) l ≡ first_word l
unfolding first_word
take-first [] = refl
take-first (c ∷ cs) = take_by c cs (eqb c 32) (take-first cs)

pub word_of : (l : List ℕ) (i e : ℕ) → e ≡ i + length (first_word (drop i l)) → take (e - i) (drop i l) ≡ first_word (drop i l)
word_of l i e q = let s : e - i ≡ length (first_word (drop i l)) = omega arith in ap (λ (k : ℕ). take k (drop i l)) s ∙ take-first (drop i l)

-- ---- the command

-- numbers read already, in front of those to come
abbrev pub prefixed : List ℤ → Option (List ℤ) → Option (List ℤ)
prefixed zs None = None
prefixed zs (Some ys) = Some (zs ++ ys)

prefixed_nil : (ns : Option (List ℤ)) → prefixed [] ns ≡ ns
prefixed_nil None = refl
prefixed_nil (Some ys) = refl

prefixed_more : (zs : List ℤ) (z : ℤ) (ns : Option (List ℤ)) → prefixed zs (on_numbers z ns) ≡ prefixed (zs ++ (z ∷ [])) ns
prefixed_more zs z None = refl
prefixed_more zs z (Some ys) = ap Some (sym (append_assoc zs (z ∷ []) ys))

words_one : (w : List ℕ) (ws : List (List ℕ)) → length w ≡ 1 → of_words (w ∷ ws) ≡ of_numbers (get_or w 0 0) (numbers_of ws)
words_one [] ws h = absurd (omega arith)
words_one (c ∷ []) ws h = refl
words_one (c ∷ d ∷ ds) ws h = absurd (omega arith)

words_bad : (w : List ℕ) (ws : List (List ℕ)) → (length w ≡ 1 → ⊥) → of_words (w ∷ ws) ≡ None
words_bad [] ws h = refl
words_bad (c ∷ []) ws h = absurd (h refl)
words_bad (c ∷ d ∷ ds) ws h = refl

pub said_bad : (l : List ℕ) → (length (first_word l) ≡ 1 → ⊥) → said_by l ≡ None
unfolding said_by
said_bad l h = ap of_words (words_first l) ∙ words_bad (first_word l) (tail_words (drop (length (first_word l)) l)) h

letter_of : (l : List ℕ) → length (first_word l) ≡ 1 → get_or (first_word l) 0 0 ≡ get_or l 0 0
letter_of l h =
    ap (λ (w : List ℕ). get_or w 0 0) (sym (take-first l)) ∙ get_or-take (length (first_word l)) l 0 0 (omega arith)

said_start : (l : List ℕ) → length (first_word l) ≡ 1 → said_by l ≡ of_numbers (get_or l 0 0) (numbers_of (tail_words (drop 1 l)))
unfolding said_by
said_start l h =
    ap of_words (words_first l)
    ∙ words_one (first_word l) (tail_words (drop (length (first_word l)) l)) h
    ∙ ap (λ (c : ℕ). of_numbers c (numbers_of (tail_words (drop (length (first_word l)) l)))) (letter_of l h)
    ∙ ap (λ (k : ℕ). of_numbers (get_or l 0 0) (numbers_of (tail_words (drop k l)))) h

numbers_step : (l : List ℕ) (i e : ℕ) → i < length l → e ≡ i + 1 + length (first_word (drop (i + 1) l))
    → numbers_of (tail_words (drop i l)) ≡ with_number (number_of (first_word (drop (i + 1) l))) (numbers_of (tail_words (drop e l)))
unfolding numbers_of tail_words
numbers_step l i e h q =
    ap (λ (k : List ℕ). numbers_of (tail_words k)) (drop-cons l i 0 h)
    ∙ ap (λ (k : ℕ). numbers_of (words (drop k l))) (sym (add-one i))
    ∙ ap numbers_of (words_first (drop (i + 1) l))
    ∙ ap (λ (k : List ℕ). with_number (number_of (first_word (drop (i + 1) l))) (numbers_of (tail_words k)))
    (drop-drop (length (first_word (drop (i + 1) l))) (i + 1) l ∙ ap (λ (k : ℕ). drop k l) (sym q))

full_by : (c : ℕ) (zs : List ℤ) (n : Option ℤ) (ns : Option (List ℤ)) → 6 ≤ length zs → of_numbers c (prefixed zs (with_number n ns)) ≡ None
full_by c zs None ns h = refl
full_by c zs (Some z) None h = refl
full_by c zs (Some z) (Some ys) h =
    let n : 7 ≤ length (zs ++ z ∷ ys) = simp length-append (omega arith) in
    by_other c (zs ++ z ∷ ys) (λ e. omega arith) (λ e. omega arith) (λ e. omega arith)

-- the loop's claim: the line says what the numbers read so far and the words from here on say
pub record Claim (line : List ℕ) (letter : ℕ) (zs : List ℤ) (i : ℕ) : Type 0 where
  pub says : said_by line ≡ of_numbers letter (prefixed zs (numbers_of (tail_words (drop i line))))

pub claim_start : (l : List ℕ) → length (first_word l) ≡ 1 → Claim l (get_or l 0 0) [] 1
claim_start l h = record { says = said_start l h ∙ ap (of_numbers (get_or l 0 0)) (sym (prefixed_nil (numbers_of (tail_words (drop 1 l))))) }

module _ (l : List ℕ) (c : ℕ) (zs : List ℤ) (i : ℕ) (k : Claim l c zs i) where
  -- at the line's end
  pub claim_end : length l ≤ i → said_by l ≡ of_letter c zs
  unfolding numbers_of tail_words
  claim_end h = k.says ∙ simp (drop_of_length-le l h, append-nil)

  -- at a seventh number
  pub claim_full : i < length l → 6 ≤ length zs → said_by l ≡ None
  claim_full h six =
      k.says
      ∙ ap (λ (n : Option (List ℤ)). of_numbers c (prefixed zs n)) (numbers_step l i _ h refl)
      ∙ full_by c zs (number_of (first_word (drop (i + 1) l))) (numbers_of (tail_words (drop (i + 1 + length (first_word (drop (i + 1) l))) l))) six

  -- after a number, and at a word that is none
  pub claim_more : (e : ℕ) (z : ℤ) → i < length l → e ≡ i + 1 + length (first_word (drop (i + 1) l))
      → number_of (first_word (drop (i + 1) l)) ≡ Some z → Claim l c (zs ++ (z ∷ [])) e
  claim_more e z h q n =
      record {
        says = k.says
            ∙ ap (λ (m : Option (List ℤ)). of_numbers c (prefixed zs m)) (numbers_step l i e h q ∙ ap (λ (w : Option ℤ). with_number w (numbers_of (tail_words (drop e l)))) n)
            ∙ ap (of_numbers c) (prefixed_more zs z (numbers_of (tail_words (drop e l))));
      }

  pub claim_bad : (e : ℕ) → i < length l → e ≡ i + 1 + length (first_word (drop (i + 1) l))
      → number_of (first_word (drop (i + 1) l)) ≡ None → said_by l ≡ None
  claim_bad e h q n =
      k.says ∙ ap (λ (m : Option (List ℤ)). of_numbers c (prefixed zs m)) (numbers_step l i e h q ∙ ap (λ (w : Option ℤ). with_number w (numbers_of (tail_words (drop e l)))) n)

-- ---- the length

pub long_line : (l : List ℕ) → 80 < length l → command_of l ≡ None
unfolding command_of one_to
long_line l h = simp (lt-leb (length l) 80 h, and-false)

-- an empty line says nothing anyway
pub short_line : (l : List ℕ) → length l ≤ 80 → command_of l ≡ said_by l
unfolding command_of one_to said_by words
short_line [] h = refl
short_line (c ∷ cs) h = simp (le-leb 1 (length (c ∷ cs)) (omega arith), le-leb (length (c ∷ cs)) 80 h)
