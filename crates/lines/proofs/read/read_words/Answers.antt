use Rattle.std.specs.Prelude.{◌+◌, ◌-◌, ◌≡◌, Some, None}
use Rattle.numbers.specs.Library.{ℕ, arith, refl, sym, ap, ◌∙◌, subst, length-take-le, length, drop, take, set, get_or, length-set, ℤ}
use Rattle.numbers.specs.Library.{List, add-one}
use Rattle.lines.proofs.Words.{Claim, claim_start, claim_more, claim_bad, claim_full, claim_end, said_bad, word_of, back}
use Rattle.numerals.specs.Numeral.{number_of}
use Rattle.lines.specs.Line.{first_word}
use lib.Seq.{take-suc-set}
use Rattle.lines.proofs.read.read_words.Goals as goal

pub returns-then-first-ne1 : goal.returns-then-first-ne1
returns-then-first-ne1 c =
    let l = c.args.line.now in
    let q : c.word_end-first.result ≡ 0 + length (first_word l) = c.word_end-first.ensures.value in
    sym (said_bad l (λ e. c.if-first-ne1.true (omega arith)))

pub loop-at-init : goal.loop-at-init
loop-at-init c =
    let l = c.args.line.now in
    let q : c.word_end-first.result ≡ 0 + length (first_word l) = c.word_end-first.ensures.value in
    let o : c.word_end-first.result ≡ 1 = c.if-first-ne1.false in
    (omega arith, omega arith, refl, claim_start l (omega arith))

pub returns-then-count-eq6 : goal.returns-then-count-eq6
returns-then-count-eq6 c =
    let l = c.args.line.now in
    let p = c.loop-at in
    let n : length (take p.count p.numbers) ≡ p.count = length-take-le p.count p.numbers (omega arith) in
    sym (claim_full l _ (take p.count p.numbers) p.at p.invariant.3 c.loop-at-test.true (omega arith))

pub returns-in_err-z : goal.returns-in_err-z
returns-in_err-z c =
    let l = c.args.line.now in
    let p = c.loop-at in
    let q : c.word_end-end.result ≡ p.at + 1 + length (first_word (drop (p.at + 1) l)) = c.word_end-end.ensures.value in
    let r : c.read_number.result ≡ number_of (take (c.word_end-end.result - (p.at + 1)) (drop (p.at + 1) l)) = c.read_number.ensures in
    let w : number_of (first_word (drop (p.at + 1) l)) ≡ None = ap number_of (sym (word_of l (p.at + 1) _ q)) ∙ sym r ∙ c.in_err-z.was in
    c.from_residual.ensures ∙ sym (claim_bad l _ (take p.count p.numbers) p.at p.invariant.3 _ c.loop-at-test.true q w)

pub loop-at-preserved : goal.loop-at-preserved
loop-at-preserved c =
    let l = c.args.line.now in
    let p = c.loop-at in
    let z = c.in_ok-z.z in
    let q : c.word_end-end.result ≡ p.at + 1 + length (first_word (drop (p.at + 1) l)) = c.word_end-end.ensures.value in
    let r : c.read_number.result ≡ number_of (take (c.word_end-end.result - (p.at + 1)) (drop (p.at + 1) l)) = c.read_number.ensures in
    let w : number_of (first_word (drop (p.at + 1) l)) ≡ Some z = ap number_of (sym (word_of l (p.at + 1) _ q)) ∙ sym r ∙ c.in_ok-z.was in
    let k = claim_more l _ (take p.count p.numbers) p.at p.invariant.3 _ z c.loop-at-test.true q w in
    rw (back z (omega arith)) (
      c.word_end-end.ensures.upper_bound,
      omega arith,
      p.invariant.2 ∙ sym (length-set p.numbers p.count z),
      subst (λ (zs : List ℤ). Claim l (get_or l 0 0) zs c.word_end-end.result) (sym (take-suc-set p.numbers p.count z (omega arith)) ∙ ap (λ (m : ℕ). take m (set p.numbers p.count z)) (sym (add-one p.count))) k,
    )

pub returns : goal.returns
returns c =
    let l = c.args.line.now in
    let p = c.loop-at in
    c.of_letter.ensures ∙ sym (claim_end l _ (take p.count p.numbers) p.at p.invariant.3 c.loop-at-test.false)
