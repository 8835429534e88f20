-- `plytimber_audit` tells the answer and the rule of the audit's verdict.
use Rattle.plytimber.proofs.plytimber_audit.Goals as goal

pub returns : goal.returns
returns c = record { verdict = c.audit.result; exact = rw c.from.ensures at c.audit.ensures; answer = c.from-2.ensures }
