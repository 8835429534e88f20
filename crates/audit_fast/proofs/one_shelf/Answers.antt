-- `one_shelf`: what its three parts say, together.
use Rattle.std.specs.Prelude.{◌≡◌}
use Rattle.numbers.specs.Library.{refl, Bool, true, false}
use mir.Val.{bool_byte}
use Rattle.rules.specs.Prelude.{flag}
use Rattle.audit_fast.proofs.Flags.{flag_is_due}
use Rattle.audit_fast.proofs.one_shelf.Goals as goal

-- a test as a number is its flag
flag_byte : (b : Bool) → bool_byte b ≡ flag b
flag_byte true = refl
flag_byte false = refl

pub returns : goal.returns
returns c =
    let list = c.free_list.ensures.sound c.if-not-free_list.false in
    let told = rw (c.from-due.ensures, flag_byte) at c.flag_right.ensures in
    let due = flag_is_due _ _ _ _ _ _ _ c.requires.1 c.requires.0 c.in_ok-w.ensures in
    record {
      walks = c.in_ok-w.ensures;
      list = record { right = list.0; length-is = list.1 };
      flagged = rw due (told.sound c.if-not-flag_right.false);
    }
