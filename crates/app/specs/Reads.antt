-- What a turn of the program does: some bytes are fed. That they are the bytes of standard input no contract can say, as none speaks of what is
-- read; `turn` feeds what a read gave, in the order of the reads, and a newline after the last. Assumes nothing.
use Rattle.std.specs.Prelude.{◌+◌, ◌-◌, ◌≤◌, ◌<◌, ◌≡◌, ◌++◌}
use Rattle.numbers.specs.Library.{ℕ, refl, sym, ap, subst, ◌∙◌, List, [], append_assoc, append-nil, length, take, drop}
use Rattle.numbers.specs.Library.{length-take, length-drop, length-append, take_all, arith}
use Rattle.std.proofs.Common.{take-add, take_at}
use Rattle.rows.specs.Prelude.{rows, rows_are, items, zero_header}
use Rattle.rows.specs.declared.header.Header.{Header}
use Rattle.texts.specs.Put.{Puts, put_whole}
use Rattle.input.specs.Kept.{short}
use Rattle.feed.specs.Answers.{State}
use Rattle.feed.specs.Feeds.{Feeds, feeds_none, feeds_then}
use Rattle.feed.specs.Fed.{FeedsLine}
use Rattle.feed.specs.declared.FedLine.{FedLine}

-- A piece is fed whole; `kept` and `kept'` are kept of the line before and after it.
pub record Answered (kept piece : List ℕ) (s s' : State) (kept' : List ℕ) : Type 0 where
  pub text : List ℕ
  pub feeds : Feeds kept piece s s' text kept'

-- Some bytes are fed.
pub record Reads (kept : List ℕ) (s s' : State) (kept' : List ℕ) : Type 0 where
  pub bytes : List ℕ
  pub answered : Answered kept bytes s s' kept'

-- From no atlas on some bytes are fed; what is kept of a line that has not ended is not told.
pub record Obeys (S I : List ℕ) (h' : Header) (S' I' : List ℕ) : Type 0 where
  pub kept : List ℕ
  pub reads : Reads [] (record { header = zero_header; shelves = S; items = I }) (record { header = h'; shelves = S'; items = I' }) kept

-- ---- laws

pub answered_none : (kept : List ℕ) → short kept ≡ kept → (s : State) → Answered kept [] s s kept
answered_none kept h s = record { text = []; feeds = feeds_none kept s (sym h) }

-- what stands after the first n bytes of a piece, as it is lent
abbrev pub after : ℕ → List ℕ → List ℕ
after n piece = take (length piece - n) (drop n piece)

after_is : (n : ℕ) (piece : List ℕ) → after n piece ≡ drop n piece
after_is n piece = take_all (length piece - n) (drop n piece) (omega (arith, length-drop n piece))

-- Of a piece the first bytes are fed; the text of the answers is what was handed on, and then what stands in the output.
pub record Pending (kept fed : List ℕ) (s s' : State) (kept' out : List ℕ) (filled : ℕ) : Type 0 where
  pub text : List ℕ
  pub feeds : Feeds kept fed s s' text kept'
  pub handed : List ℕ
  pub rest : text ≡ handed ++ take filled out

pub pending_none : (kept : List ℕ) → short kept ≡ kept → (s : State) (out : List ℕ) → Pending kept [] s s kept out 0
pending_none kept h s out = record { text = []; feeds = feeds_none kept s (sym h); handed = []; rest = refl }

-- an answer that has room follows the others in the output
put-after : {out : List ℕ} {at : ℕ} {text out' : List ℕ} {end : ℕ} → Puts out at text out' end → at + length text ≤ length out → take end out' ≡ take at out ++ text
put-after {out} {at} {text} {out'} {end} p h =
    let w = put_whole p h in
    let n : length (take at out ++ text) ≡ end = omega (arith, length-append (take at out) text, length-take at out, w.1) in
    ap (take end) w.0 ∙ take_at (take at out ++ text) (drop (at + length text) out) end n

-- 18,432 numbers are 2048 rows
few_rows : (I : List ℕ) → length I ≡ 18432 → rows items I ≤ 2048
unfolding items
few_rows I e = rw (rows_are items I) (omega arith)

-- the first n bytes of a piece, and then some more
pub pending_more : (piece : List ℕ) (n : ℕ) (r : FedLine) {k : List ℕ} {s m : State} {k₁ out : List ℕ} {filled : ℕ} {s' : State} {k₂ out' : List ℕ}
    → Pending k (take n piece) s m k₁ out filled → FeedsLine k₁ (after n piece) out filled m s' r k₂ out'
    → length m.items ≡ 18432 → filled + 79911 ≤ length out → Pending k (take (n + r.taken) piece) s s' k₂ out' r.filled
pending_more piece n r {k} {s} {m} {k₁} {out} {filled} {s'} {k₂} {out'} a f size room =
    let short = f.short (few_rows m.items size) in
    record {
      text = a.text ++ f.text;
      feeds = subst (λ (p : List ℕ). Feeds k p s s' (a.text ++ f.text) k₂)
          (ap (λ (l : List ℕ). take n piece ++ take r.taken l) (after_is n piece) ∙ sym (take-add n r.taken piece)) (feeds_then a.feeds f.feeds);
      handed = a.handed;
      rest = ap (λ (t : List ℕ). t ++ f.text) a.rest ∙ append_assoc a.handed (take filled out) f.text
          ∙ ap (λ (t : List ℕ). a.handed ++ t) (sym (put-after f.puts (omega arith)));
    }

-- what stands in the output is handed on
pub pending_handed : {k fed : List ℕ} {s s' : State} {k' out : List ℕ} {filled : ℕ} → Pending k fed s s' k' out filled → Pending k fed s s' k' out 0
pending_handed {out = out} {filled = filled} a =
    record { text = a.text; feeds = a.feeds; handed = a.handed ++ take filled out; rest = a.rest ∙ sym (append-nil (a.handed ++ take filled out)) }

pub answered_whole : (piece : List ℕ) (n : ℕ) → n ≡ length piece → {k : List ℕ} {s s' : State} {k' out : List ℕ} {filled : ℕ}
    → Pending k (take n piece) s s' k' out filled → Answered k piece s s' k'
answered_whole piece n e {k} {s} {s'} {k'} a =
    subst (λ (p : List ℕ). Answered k p s s' k') (take_all n piece (omega arith)) (record { text = a.text; feeds = a.feeds })

-- how far the next part of a piece goes
pub more_within : (piece : List ℕ) (n t : ℕ) → n ≤ length piece → t ≤ length (after n piece) → n + t ≤ length piece
more_within piece n t h k = omega (arith, ap length (after_is n piece), length-drop n piece)

pub less_left : (piece : List ℕ) (n t : ℕ) → n < length piece → (0 < length (after n piece) → 0 < t) → length piece - (n + t) < length piece - n
less_left piece n t h some = let p : 0 < t = some (omega (arith, ap length (after_is n piece), length-drop n piece)) in omega arith

pub reads_then : {k : List ℕ} {s m : State} {k₁ : List ℕ} {s' : State} {k₂ : List ℕ} → Reads k s m k₁ → Reads k₁ m s' k₂ → Reads k s s' k₂
reads_then a b =
    record {
      bytes = a.bytes ++ b.bytes;
      answered = record { text = a.answered.text ++ b.answered.text; feeds = feeds_then a.answered.feeds b.answered.feeds };
    }

-- from no atlas on, and with nothing kept
pub obeyed : (kept : List ℕ) (h : Header) → kept ≡ [] → h ≡ zero_header → {S I : List ℕ} {h' : Header} {S' I' kept' : List ℕ}
    → Reads kept (record { header = h; shelves = S; items = I }) (record { header = h'; shelves = S'; items = I' }) kept' → Obeys S I h' S' I'
obeyed kept h e f r = record { kept = _; reads = rw (e, f) at r }
