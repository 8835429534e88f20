use Rattle.std.specs.Prelude.{Some}
use Rattle.numbers.specs.Library.{sym, ap, ◌∙◌, pos, w32, to_z-of_z, arith}
use Rattle.numerals.proofs.Numerals.{was_read, signed_in, signed_over, signed_none, pos_within, pos_beyond}
use Rattle.numerals.proofs.read_natural.Goals as goal

pub returns-in_err-worth : goal.returns-in_err-worth
returns-in_err-worth c =
    c.from_residual.ensures ∙ sym (signed_none (λ z. z) c.args.digits.now (sym c.in_err-worth.ensures) (λ v h. pos_beyond v (omega arith)))

pub returns-then-worth-lt2147483648 : goal.returns-then-worth-lt2147483648
returns-then-worth-lt2147483648 c =
    let w = c.args.digits.now in
    let v = c.in_ok-worth.worth in
    ap Some (to_z-of_z {w = w32} {z = pos v} (record { sfits = c.if-worth-lt2147483648.true }))
    ∙ sym (signed_in (λ z. z) w v (was_read w v (sym c.in_ok-worth.ensures)) (pos_within v c.if-worth-lt2147483648.true))

pub returns-else-worth-lt2147483648 : goal.returns-else-worth-lt2147483648
returns-else-worth-lt2147483648 c =
    let w = c.args.digits.now in
    let v = c.in_ok-worth.worth in
    sym (signed_over (λ z. z) w v (was_read w v (sym c.in_ok-worth.ensures)) (pos_beyond v c.if-worth-lt2147483648.false))
