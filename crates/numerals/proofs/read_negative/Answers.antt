use Rattle.std.specs.Prelude.{◌≡◌, Some}
use Rattle.numbers.specs.Library.{sym, ap, ◌∙◌, pos, neg_ℤ, w32, to_z-of_z}
use Rattle.numerals.proofs.Numerals.{Read, was_read, signed_in, signed_none, neg_within, neg_beyond}
use Rattle.numerals.proofs.read_negative.Goals as goal

pub returns-in_err-worth : goal.returns-in_err-worth
returns-in_err-worth c = c.from_residual.ensures ∙ sym (signed_none neg_ℤ c.args.digits.now (sym c.in_err-worth.ensures) neg_beyond)

pub negated-requires : goal.negated-requires
negated-requires c = (was_read c.args.digits.now _ (sym c.in_ok-worth.ensures)).most

pub returns : goal.returns
returns c =
    let w = c.args.digits.now in
    let d : Read w c.in_ok-worth.worth = was_read w _ (sym c.in_ok-worth.ensures) in
    let n : c.negated.result ≡ neg_ℤ (pos c.in_ok-worth.worth) = c.negated.ensures in
    ap Some (to_z-of_z {w = w32} {z = c.negated.result} (record { sfits = c.negated.type_inv }) ∙ n) ∙ sym (signed_in neg_ℤ w _ d (neg_within _ d.most))
