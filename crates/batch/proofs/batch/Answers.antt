-- `batch`: 3, then 10, then the requests.
use Rattle.batch_rules.proofs.Batching.{answers_3, answers_10, serve_all_asks, answers_all}
use Rattle.numbers.specs.Library.{ap, not}
use Rattle.batch.proofs.batch.Goals as goal

pub returns-then-not-passes : goal.returns-then-not-passes
returns-then-not-passes c = answers_3 _ _ _ _ _ c.passes.ensures (ap not c.if-not-passes.true) _ c.refused.ensures

pub returns-then-capacity-n : goal.returns-then-capacity-n
returns-then-capacity-n c = answers_10 _ _ _ _ _ c.passes.ensures (ap not c.if-not-passes.false) _ _ c.capacity-n.ensures c.capacity.ensures c.if-capacity-n.true _ c.refused-then-capacity-n.ensures

pub serve_all-header-requires : goal.serve_all-header-requires
serve_all-header-requires c = serve_all_asks _ _ _ _ _ c.passes.ensures (ap not c.if-not-passes.false) _ _ c.capacity-n.ensures c.capacity.ensures c.if-capacity-n.false

pub returns : goal.returns
returns c = answers_all _ _ _ _ _ c.passes.ensures (ap not c.if-not-passes.false) _ _ c.capacity-n.ensures c.capacity.ensures c.if-capacity-n.false _ _ _ _ c.serve_all-header.ensures
