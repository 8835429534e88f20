-- `empty_flag`: one answer for each way out.
use Rattle.audit_shelves.proofs.Flags.{flag_unused, flag_live, flag_followed, flag_alone}
use Rattle.audit_shelves.proofs.empty_flag.Goals as goal

pub returns-then-first-h : goal.returns-then-first-h
returns-then-first-h c = flag_unused _ _ _ c.if-first-h.true

pub returns-then-i-ne0 : goal.returns-then-i-ne0
returns-then-i-ne0 c = flag_live _ _ _ c.if-first-h.false (rw c.get-i.ensures at c.if-i-ne0.true)

pub returns-then-i : goal.returns-then-i
returns-then-i c =
    flag_followed _ _ _ c.if-first-h.false (rw c.get-i.ensures at c.if-i-ne0.false) (rw c.get-i.ensures at c.if-i.true)

pub returns : goal.returns
returns c =
    flag_alone _ _ _ c.if-first-h.false (rw c.get-i.ensures at c.if-i-ne0.false) (rw c.get-i.ensures at c.if-i.false)
