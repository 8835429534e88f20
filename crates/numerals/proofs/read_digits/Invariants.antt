-- `read_digits`: the digits read so far have this worth, and what the whole word is worth is what the rest of it makes of that.
use Rattle.std.specs.Prelude.{◌≤◌, ◌≡◌}
use Rattle.numbers.specs.Library.{drop}
use Rattle.numerals.specs.Numeral.{all_digits, value}
use Rattle.numerals.proofs.read_digits.Given as goal

abbrev pub invariant-loop-c : goal.invariant-loop-c
invariant-loop-c l = record {
  small : l.worth ≤ 2147483648;
  digits : all_digits l.w ≡ all_digits (drop l.c-index l.w);
  worth : value 0 l.w ≡ value l.worth (drop l.c-index l.w);
}
