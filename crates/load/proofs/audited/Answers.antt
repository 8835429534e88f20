-- `audited`: 3 and the all-zero header, or the header.
use Rattle.numbers.specs.Library.{refl, ap, not}
use Rattle.numbers.specs.Prelude.{denied, allowed}
use Rattle.numbers.specs.declared.refusal.Refusal.TheVariants as refusal
use Rattle.rules.specs.Prelude.{mapped}
use Rattle.rules.specs.Promise.{fails, passes}
use Rattle.promises.specs.Prelude.{replies}
use Rattle.promises.specs.Answers.{says, numbers_of}
use Rattle.image_promises.specs.Promises.{load_numbers, header_after}
use Rattle.load.proofs.Loaded.{load_refused}
use Rattle.load.proofs.audited.Goals as goal

pub returns-then-not-passes : goal.returns-then-not-passes
returns-then-not-passes c = fails (denied c.passes.ensures (ap not c.if-not-passes.true)) (load_refused refusal.Audit c.no_atlas.ensures)

pub returns : goal.returns
unfolding mapped replies says numbers_of load_numbers header_after
returns c = passes (allowed c.passes.ensures (ap not c.if-not-passes.false)) (record { says = refl; numbers = refl; header = refl })
