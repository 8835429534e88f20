use Rattle.std.specs.Prelude.{◌+◌, ◌*◌, ◌-◌, ◌≡◌, Some}
use Rattle.numbers.specs.Library.{arith, sym, ap, ◌∙◌, drop, get_or, eqb-true}
use Rattle.numerals.specs.Numeral.{value}
use Rattle.numerals.proofs.Numerals.{none_empty, none_zero, none_other, none_large, some_worth, digits_step, digits_stop, value_step, value_grows, digit}
use Rattle.numerals.proofs.Numerals.{low, high, end_digits, end_value, not_empty}
use Rattle.numerals.proofs.read_digits.Goals as goal

pub returns-then-is_empty : goal.returns-then-is_empty
returns-then-is_empty c = sym (none_empty c.args.w.now (eqb-true _ _ (sym c.if-is_empty.ensures)))

pub returns-then-zero_first : goal.returns-then-zero_first
returns-then-zero_first c = sym (none_zero c.args.w.now (sym c.if-zero_first.ensures))

pub returns-then-c-lt48 : goal.returns-then-c-lt48
returns-then-c-lt48 c =
    let w = c.args.w.now in
    let l = c.loop-c in
    sym (none_other w (l.invariant.digits ∙ digits_stop w l.c-index c.loop-c-test.true (low _ c.if-c-lt48.true)))

pub returns-then-c-gt57 : goal.returns-then-c-gt57
returns-then-c-gt57 c =
    let w = c.args.w.now in
    let l = c.loop-c in
    sym (none_other w (l.invariant.digits ∙ digits_stop w l.c-index c.loop-c-test.true (high _ c.if-c-gt57.true)))

pub returns-then-worth-gt214748364 : goal.returns-then-worth-gt214748364
returns-then-worth-gt214748364 c =
    let w = c.args.w.now in
    let l = c.loop-c in
    sym (none_large w (omega (arith, l.invariant.worth, value_step w l.c-index l.worth c.loop-c-test.true, value_grows (drop (l.c-index + 1) w) (l.worth * 10 + (get_or w l.c-index 0 - 48)))))

pub returns-then-worth-gt2147483648 : goal.returns-then-worth-gt2147483648
returns-then-worth-gt2147483648 c =
    let w = c.args.w.now in
    let l = c.loop-c in
    sym (none_large w (omega (arith, l.invariant.worth, value_step w l.c-index l.worth c.loop-c-test.true, value_grows (drop (l.c-index + 1) w) (l.worth * 10 + (get_or w l.c-index 0 - 48)))))

pub loop-c-preserved : goal.loop-c-preserved
loop-c-preserved c =
    let w = c.args.w.now in
    let l = c.loop-c in
    record {
      small = omega arith;
      digits = l.invariant.digits ∙ digits_step w l.c-index c.loop-c-test.true (digit _ (omega arith) (omega arith));
      worth = l.invariant.worth ∙ value_step w l.c-index l.worth c.loop-c-test.true;
    }

pub returns : goal.returns
returns c =
    let w = c.args.w.now in
    let l = c.loop-c in
    let v : value 0 w ≡ l.worth = l.invariant.worth ∙ end_value w l.c-index l.worth (omega arith) in
    sym (some_worth w (not_empty w (sym c.if-is_empty.ensures)) (sym c.if-zero_first.ensures) (l.invariant.digits ∙ end_digits w l.c-index (omega arith)) (omega arith) ∙ ap Some v)
