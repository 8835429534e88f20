use Rattle.std.specs.Prelude.{◌≡◌}
use Rattle.numbers.specs.Library.{sym, true, false, pos, lt_z, w32, to_z, of_z, to_z-of_z}
use mir.Facts.{Fits-nat_abs}
use Rattle.numbers.specs.Prelude.{natural_negative, natural_positive}
use Rattle.numbers.proofs.sides.natural_of.Goals as goal

pub returns-then-raw-lt0 : goal.returns-then-raw-lt0
returns-then-raw-lt0 c = let t : lt_z (to_z w32 (of_z w32 c.args.raw)) (pos 0) ≡ true = c.if-raw-lt0.true in
    sym (natural_negative c.args.raw (simp (to_z-of_z c.ranges.raw) at t))

pub overflow_cast-result : goal.overflow_cast-result
overflow_cast-result c = let t : lt_z (to_z w32 (of_z w32 c.args.raw)) (pos 0) ≡ false = c.if-raw-lt0.false in
    rw (to_z-of_z c.ranges.raw)
    ((natural_positive c.args.raw (simp (to_z-of_z c.ranges.raw) at t)).0, Fits-nat_abs tt c.ranges.raw)

pub returns : goal.returns
returns c = let t : lt_z (to_z w32 (of_z w32 c.args.raw)) (pos 0) ≡ false = c.if-raw-lt0.false in
    rw (to_z-of_z c.ranges.raw) (natural_positive c.args.raw (simp (to_z-of_z c.ranges.raw) at t)).1
