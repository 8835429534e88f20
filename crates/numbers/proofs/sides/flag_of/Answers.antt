use Rattle.std.specs.Prelude.{◌≡◌}
use Rattle.numbers.specs.Library.{sym, true, false, arith, pos, lt_z, w32, to_z, of_z, to_z-of_z}
use Rattle.numbers.specs.Prelude.{natural, flag_negative, flag_positive}
use Rattle.numbers.proofs.Signed.{as_given}
use Rattle.numbers.proofs.sides.flag_of.Goals as goal

pub returns-then-raw-lt0 : goal.returns-then-raw-lt0
returns-then-raw-lt0 c = let t : lt_z (to_z w32 (of_z w32 c.args.raw)) (pos 0) ≡ true = c.if-raw-lt0.true in
    sym (flag_negative c.args.raw (simp (to_z-of_z c.ranges.raw) at t))

pub returns-then-n-lt2 : goal.returns-then-n-lt2
returns-then-n-lt2 c = let t : lt_z (to_z w32 (of_z w32 c.args.raw)) (pos 0) ≡ false = c.if-raw-lt0.false in
    let e : c.natural_of-n.result ≡ natural c.args.raw = as_given natural c.ranges.raw c.natural_of-n.ensures in
    omega (arith, flag_positive c.args.raw (simp (to_z-of_z c.ranges.raw) at t))

pub returns : goal.returns
returns c = let t : lt_z (to_z w32 (of_z w32 c.args.raw)) (pos 0) ≡ false = c.if-raw-lt0.false in
    let e : c.natural_of-n.result ≡ natural c.args.raw = as_given natural c.ranges.raw c.natural_of-n.ensures in
    omega (arith, flag_positive c.args.raw (simp (to_z-of_z c.ranges.raw) at t))
