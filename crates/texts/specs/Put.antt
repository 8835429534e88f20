-- Text put into a buffer, and its laws: what comes after, and what there is room for. Assumes nothing.
use Rattle.std.specs.Prelude.{◌+◌, ◌-◌, ◌≤◌, ◌<◌, ◌≡◌, ◌∷◌, ◌++◌}
use Rattle.numbers.specs.Library.{ℕ, suc, min, arith, dec_lt, refl, sym, ap, ◌∙◌, List, [], length, take, drop, set}
use Rattle.numbers.specs.Library.{length-append, length-set}
use Rattle.std.proofs.lemmas.List.Edits.{sets, sets-eq}
use Rattle.std.proofs.Math.Seq.{length-sets, set_out}

-- a buffer and a place in it, before and after a text is put there
pub record Puts (out : List ℕ) (at : ℕ) (text out' : List ℕ) (end : ℕ) : Type 0 where
  -- the text's bytes are stored one after another from the place on; a byte past the buffer's end is not
  pub bytes : out' ≡ sets out at text
  -- the new place is after the last byte stored
  pub place : end ≡ at + min (length text) (length out - at)

-- ---- laws

-- where there is room, the text stands at the place, all else is as before, and the place has moved by the text's length
pub put_whole : {out : List ℕ} {at : ℕ} {text out' : List ℕ} {end : ℕ} → Puts out at text out' end → at + length text ≤ length out
    → (out' ≡ take at out ++ text ++ drop (at + length text) out) × (end ≡ at + length text)
put_whole {out} {at} {text} p h = (p.bytes ∙ sets-eq text out at h, omega (arith, p.place))

pub put-length : {out : List ℕ} {at : ℕ} {text out' : List ℕ} {end : ℕ} → Puts out at text out' end → length out' ≡ length out
put-length {out} {at} {text} p = ap length p.bytes ∙ length-sets out at text

pub put_nothing : (out : List ℕ) (at : ℕ) → Puts out at [] out at
put_nothing out at = record { bytes = refl; place = omega arith }

-- past the end nothing changes
sets_out : (text out : List ℕ) (at : ℕ) → length out ≤ at → sets out at text ≡ out
sets_out [] out at h = refl
sets_out (b ∷ text) out at h =
    ap (λ (o : List ℕ). sets o (suc at) text) (set_out out at b h) ∙ sets_out text out (suc at) (omega arith)

sets_then : (a b out : List ℕ) (at : ℕ) → sets (sets out at a) (at + min (length a) (length out - at)) b ≡ sets out at (a ++ b)
sets_then [] b out at =
    let e : at + min 0 (length out - at) ≡ at = omega arith in
    ap (λ (k : ℕ). sets out k b) e
sets_then (x ∷ a) b out at = go (set out at x) (length-set out at x) (dec_lt at (length out)) (sets_then a b (set out at x) (suc at)) where
  go : (o : List ℕ) → length o ≡ length out → Dec (at < length out)
      → sets (sets o (suc at) a) (suc at + min (length a) (length o - suc at)) b ≡ sets o (suc at) (a ++ b)
      → sets (sets o (suc at) a) (at + min (suc (length a)) (length out - at)) b ≡ sets o (suc at) (a ++ b)
  go o n (yes h) more =
      let e : at + min (suc (length a)) (length out - at) ≡ suc at + min (length a) (length o - suc at) = omega arith in
      ap (λ (k : ℕ). sets (sets o (suc at) a) k b) e ∙ more
  go o n (no h) more =
      let m : length (sets o (suc at) a) ≡ length out = length-sets o (suc at) a ∙ n in
      sets_out b (sets o (suc at) a) _ (omega arith) ∙ sets_out a o (suc at) (omega arith) ∙ sym (sets_out (a ++ b) o (suc at) (omega arith))

-- one text after another is their join
pub put_then : {out : List ℕ} {at : ℕ} {a b mid : List ℕ} {p : ℕ} {out' : List ℕ} {end : ℕ}
    → Puts out at a mid p → Puts mid p b out' end → Puts out at (a ++ b) out' end
put_then {out} {at} {a} {b} {mid} {p} {out'} {end} f g =
    record {
      bytes = g.bytes ∙ ap (λ (o : List ℕ). sets o p b) f.bytes ∙ ap (λ (k : ℕ). sets (sets out at a) k b) f.place ∙ sets_then a b out at;
      place = let n : length mid ≡ length out = put-length f in
          let l : length (a ++ b) ≡ length a + length b = length-append a b in
          omega (arith, f.place, g.place);
    }
