-- Whether a shelf is skipped, by what the code carries as by what is held: no depth is 65536. Assumes nothing.
use Rattle.std.specs.Prelude.{◌+◌, ◌/◌, ◌≤◌, ◌≡◌, ◌&&◌, ◌||◌}
use Rattle.std.specs.Option.{is_some}
use Rattle.numbers.specs.Library.{ℕ, refl, sym, Bool, true, false, false≢true, not, and-false, min, arith, ltb, lt-leb, le-ltb}
use native.Mathlib.Nat.{le-min}
use Rattle.numbers.specs.Prelude.{good_fit_to}
use Rattle.numbers.specs.declared.request.Asked.{Asked}
use Rattle.rows.specs.declared.shelf.ShelfRow.{ShelfRow}
use Rattle.search.specs.Search.{Held, nothing, good, bad, place_of, shelf_is_empty, passed_by, is_bad_fit, holds_any, skipped, shallower_than, skipped_by}

none_held : (a b : Bool) → ((a || false) || (b && false)) ≡ (a || (b && false))
none_held true b = refl
none_held false b = refl

one_held : (a b : Bool) → ((a || false) || (b && true)) ≡ (a || (b && true))
one_held true b = refl
one_held false b = refl

module _ (q : Asked) (s : ShelfRow) (short : s.height ≤ 65535) where
  pub skips_so : (held : Held) → skipped_by q.depth (good_fit_to q.depth) (shallower_than held) (is_some (place_of held)) s ≡ skipped q held s
  unfolding skipped_by skipped shallower_than place_of passed_by holds_any
  skips_so nothing = rw (lt-leb 65536 s.height (omega arith)) (none_held (ltb s.height q.depth) (is_bad_fit (good_fit_to q.depth) s))
  skips_so (good p depth) = refl
  skips_so (bad p) = rw (lt-leb 65536 s.height (omega arith)) (one_held (ltb s.height q.depth) (is_bad_fit (good_fit_to q.depth) s))

never_both : (a : Bool) → (a || true) ≡ false → ⊥
never_both true e = false≢true (sym e)
never_both false e = false≢true (sym e)

-- a bad fit is looked at only while nothing is held
pub bad_first : (q : Asked) (s : ShelfRow) (held : Held) → skipped q held s ≡ false → is_bad_fit (good_fit_to q.depth) s ≡ true → held ≡ nothing
unfolding skipped holds_any
bad_first q s nothing e b = refl
bad_first q s (good p depth) e b = absurd (never_both (passed_by q (good p depth) s) (rw b at e))
bad_first q s (bad p) e b = absurd (never_both (passed_by q (bad p) s) (rw b at e))

-- a shelf as deep as asked is no bad fit
pub exact_fits : (depth : ℕ) (s : ShelfRow) → s.height ≤ 65535 → s.height ≡ depth → is_bad_fit (good_fit_to depth) s ≡ false
unfolding is_bad_fit good_fit_to
exact_fits depth s short e =
    let deep : s.height ≤ min (depth + depth / 2) 65535 = le-min (omega arith) (omega arith) in
    rw (le-ltb (min (depth + depth / 2) 65535) s.height deep) (and-false (not (shelf_is_empty s)))
