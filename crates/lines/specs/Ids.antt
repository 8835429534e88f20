-- A row or a generation as a line gives it. Assumes nothing.
use Rattle.std.specs.Prelude.{◌≤◌, ◌<◌, ◌≡◌, Option, Some, None}
use Rattle.numbers.specs.Library.{ℕ, refl, sym, true, false, false≢true, arith, leb, ℤ, pos, negsuc, lt_z, ltb-true, le-leb, lt-leb}
use Rattle.numbers.specs.Prelude.{pick, natural}

-- 0 to 65535
unfoldable pub row_of : ℤ → Option ℕ
row_of (pos n) = pick (leb n 65535) (Some n) None
row_of (negsuc n) = None

pub row_negative : (z : ℤ) → lt_z z (pos 0) ≡ true → row_of z ≡ None
unfolding row_of
row_negative (pos n) h = absurd (omega (arith, ltb-true n 0 h))
row_negative (negsuc n) h = refl

pub row_beyond : (z : ℤ) → 65535 < natural z → row_of z ≡ None
unfolding row_of natural
row_beyond (pos n) h = simp (lt-leb n 65535 h)
row_beyond (negsuc n) h = refl

pub row_within : (z : ℤ) → lt_z z (pos 0) ≡ false → natural z ≤ 65535 → row_of z ≡ Some (natural z)
unfolding row_of natural
row_within (pos n) h k = simp (le-leb n 65535 k)
row_within (negsuc n) h k = absurd (false≢true (sym h))
