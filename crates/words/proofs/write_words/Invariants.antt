-- `write_words`: so far the first bytes are those of the first numbers.
use Rattle.std.specs.Prelude.{◌*◌}
use Rattle.image_form.specs.Bytes.{bytes_of}
use Rattle.words.proofs.Over.{Over}
use Rattle.words.proofs.write_words.Given as goal

abbrev pub invariant-loop-i : goal.invariant-loop-i
invariant-loop-i l = Over l.initial.bytes (bytes_of l.numbers) (2 * l.i) l.bytes
