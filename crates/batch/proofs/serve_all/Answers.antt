use Rattle.std.specs.Prelude.{◌≡◌}
use Rattle.numbers.specs.Library.{arith, ap, ◌∙◌, length}
use Rattle.batch_rules.proofs.Loop.{before_first, has_place, next_request, answers_long}
use Rattle.batch.proofs.serve_all.Goals as goal

pub loop-k-init : goal.loop-k-init
loop-k-init c = before_first _ _ _ _ _ _ c.requires.0 c.requires.1 c.requires.2

pub there-q-requires : goal.there-q-requires
there-q-requires c = omega (arith, c.loop-k.invariant.asked)

pub serve-served-requires : goal.serve-served-requires
serve-served-requires c = c.loop-k.invariant.served.becomes.passes

pub put_there-requires : goal.put_there-requires
put_there-requires c = has_place _ _ _ _ _ _ _ c.loop-k.invariant c.loop-k-test.true

pub loop-k-preserved : goal.loop-k-preserved
loop-k-preserved c =
    next_request _ _ _ _ _ _ _ c.loop-k.invariant c.loop-k-test.true _ c.there-q.ensures c.serve-served.result _ _ _ c.serve-served.ensures c.put_there.ensures

pub shape_of-shelves : goal.shape_of-shelves
shape_of-shelves c = c.loop-k.invariant.served.becomes.shelves_past.as_long

pub shape_of-items : goal.shape_of-items
shape_of-items c = c.loop-k.invariant.served.becomes.items_past.as_long

pub shape_of-out : goal.shape_of-out
shape_of-out c = ap length c.loop-k.invariant.served.output ∙ answers_long _ _ _ _ _

pub returns : goal.returns
returns c =
    let all : c.loop-k.k ≡ c.args.n = omega (arith, c.loop-k.invariant.upto) in
    rw all at c.loop-k.invariant.served
