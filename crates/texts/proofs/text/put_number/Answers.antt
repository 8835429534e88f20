use Rattle.std.specs.Prelude.{◌+◌, ◌-◌, ◌/◌, ◌%◌, ◌≤◌, ◌<◌, ◌≡◌}
use Rattle.numbers.specs.Library.{arith, refl, sym, ◌∙◌, append-nil, length, drop, take, set, length-set, length-drop}
use Rattle.numbers.specs.Library.{take_all}
use Rattle.texts.specs.Text.{decimal}
use Rattle.texts.proofs.Digits.{found_more, found_all, ten, some, more_length}
use Rattle.texts.proofs.text.put_number.Goals as goal

pub loop-rest-init : goal.loop-rest-init
loop-rest-init c =
    let n = c.args.n in
    record { room = refl; last = omega arith; left = omega (arith, ten n c.ranges.n.fits); all = sym (append-nil (decimal n)) }

pub overflow_sub-i : goal.overflow_sub-i
overflow_sub-i c =
    let l = c.loop-rest in
    let h : 10 ≤ l.rest = omega arith in
    omega (arith, more_length l.rest h, some (l.rest / 10), l.invariant.left)

pub loop-rest-preserved : goal.loop-rest-preserved
loop-rest-preserved c =
    let l = c.loop-rest in
    let d = 48 + l.rest % 10 in
    let h : 9 < l.rest = omega arith in
    let m : 2 ≤ l.i + 1 = omega (arith, more_length l.rest h, some (l.rest / 10), l.invariant.left) in
    let j : l.i - 1 + 1 ≡ l.i = omega arith in
    record {
      room = length-set l.digits l.i d ∙ l.invariant.room;
      last = omega (arith, l.invariant.last);
      left = omega (arith, more_length l.rest h, l.invariant.left);
      all = rw j (found_more _ l.rest l.i l.digits l.invariant h);
    }

pub returns : goal.returns
returns c =
    let l = c.loop-rest in
    let d = set l.digits l.i (48 + l.rest) in
    let n : length d ≡ 10 = length-set l.digits l.i (48 + l.rest) ∙ l.invariant.room in
    let e : take (10 - l.i) (drop l.i d) ≡ decimal c.args.n
    = take_all (10 - l.i) (drop l.i d) (omega (arith, length-drop l.i d))
    ∙ found_all _ l.rest l.i l.digits l.invariant (omega arith) in
    rw e at c.put_text.ensures
