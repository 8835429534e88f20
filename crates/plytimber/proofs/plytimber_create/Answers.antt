use Rattle.numbers.specs.Library.{to_z-of_z}
use Rattle.hosts.specs.Values.{host_header}
use Rattle.plytimber.proofs.plytimber_create.Goals as goal

pub returns : goal.returns
returns c =
    let fits = c.ranges in
    record {
      said = c.create.result.answer;
      header = host_header c.create.result.header;
      promise = simp (to_z-of_z fits.w, to_z-of_z fits.height, to_z-of_z fits.align_width, to_z-of_z fits.align_height, to_z-of_z fits.vertical, to_z-of_z fits.columns) at c.create.ensures;
      told = c.from.ensures;
    }
