-- `put_number`: the digits found so far, from the last on, and those of the rest are the number's (`Found`); then they are put as a text.
use Rattle.texts.proofs.Digits.{Found}
use Rattle.texts.proofs.text.put_number.Given as goal

abbrev pub invariant-loop-rest : goal.invariant-loop-rest
invariant-loop-rest l = Found l.n l.rest l.i l.digits

abbrev pub decreases-loop-rest : goal.decreases-loop-rest
decreases-loop-rest l = l.rest
