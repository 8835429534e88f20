-- `says_yes`: each test is one part of what is found.
use Rattle.audit_fast.proofs.Passing.{passing}
use Rattle.audit_fast.proofs.says_yes.Goals as goal

pub returns : goal.returns
returns c =
    let widths = c.widths_right.ensures.sound c.if-not-widths_right.false in
    record { sound = λ e. passing c.requires _ c.in-Some.ensures widths c.if-f-h.false (c.freed_right.ensures.sound e) }
