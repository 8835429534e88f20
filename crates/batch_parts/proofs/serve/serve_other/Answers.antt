use Rattle.batch_rules.proofs.Serving.{served_look, served_none}
use Rattle.batch_parts.proofs.serve.serve_other.Goals as goal

pub returns-then-q-eq-LOOK_UP : goal.returns-then-q-eq-LOOK_UP
returns-then-q-eq-LOOK_UP c = served_look _ _ _ _ c.requires.1 c.requires.2 c.if-q-eq-LOOK_UP.true c.look_up_unaudited.result _ c.from.ensures c.look_up_unaudited.ensures

pub returns : goal.returns
returns c = served_none _ _ _ _ c.requires.1 c.requires.2 c.if-q-eq-LOOK_UP.false _ c.from-2.ensures
