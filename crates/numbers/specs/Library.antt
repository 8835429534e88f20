-- What the crates bring from the toolchain's libraries, in one place. It states nothing of its own. Assumes nothing.
pub use Rattle.std.specs.Prelude.{min, suc, zero, ℕ, eqb, leb, ltb, negsuc, neg_ℤ, pos, ℤ, drop, get_or, length, set, take, Bool, false, not, true, [], map, refl}
pub use Rattle.std.proofs.Common.{rules, eq-eqb, eqb-true, le-leb, le-ltb, leb-true, lt-ltb, ltb-false, ltb-true, ne_eqb, lit<, length-append, length-drop, length-set, length-take, drop-cons, length-take-le, take_all, take-suc, append_assoc, append-nil, inl, inr, ⊎_elim, ◌∙◌, ap, subst, sym, to_z-of_z, SFits, of_z, to_z, add-mul, div-add-mod', div-mul-le_self, le-div_iff_mul-le, mod-lt, mul-le-mul, mul-le-mul_right, suc-mul, add-one, arith}
pub use Rattle.std.proofs.lemmas.Bool.{lt-leb, not-false, not-true, false≢true}
pub use Rattle.std.specs.Int.Signed.{lt_z}
pub use Rattle.std.proofs.Math.Bool.{and-false}
pub use mathlib.Core.List.Memᴰ.{append_cases as List·Memᴰ·append-cases}
pub use mathlib.Core.List.Memᴰ.{cases_cons as List·Memᴰ·cases-cons}
pub use mathlib.Core.List.Memᴰ.{eq_of_singleton as List·Memᴰ·eq-of-singleton}
pub use mathlib.Core.List.Memᴰ.{head as List·Memᴰ·head}
pub use mathlib.Core.List.Memᴰ.{not-nil as List·Memᴰ·not-nil}
pub use mathlib.Core.List.{List, Memᴰ as List-as-Memᴰ}
pub use mathlib.Core.List.Memᴰ.{append_left as Memᴰ·append-left}
pub use mathlib.Core.List.Memᴰ.{append_right as Memᴰ·append-right}
pub use mathlib.Core.List.Memᴰ.{cast as Memᴰ·cast}
pub use mathlib.Core.List.Memᴰ.{tail as List·Memᴰ·tail}
pub use Rattle.std.proofs.Math.Option.{Option, none, some}
pub use Rattle.std.specs.Int.{w32, w64}
pub use Rattle.std.proofs.Math.Decide.{dec_lt, ℕ_discrete}
pub use Rattle.std.proofs.Math.Nat.{mod-zero}
