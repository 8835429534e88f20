use Rattle.batch_rules.proofs.Serving.{of_kind}
use Rattle.batch_parts.proofs.serve.serve.Goals as goal

pub returns-then-q-eq-RELEASE : goal.returns-then-q-eq-RELEASE
returns-then-q-eq-RELEASE c = of_kind _ _ _ _ _ _ _ 2 c.if-q-eq-RELEASE.true c.serve_release.ensures

pub returns-then-q-eq-ALLOCATE : goal.returns-then-q-eq-ALLOCATE
returns-then-q-eq-ALLOCATE c = of_kind _ _ _ _ _ _ _ 1 c.if-q-eq-ALLOCATE.true c.serve_allocate.ensures
