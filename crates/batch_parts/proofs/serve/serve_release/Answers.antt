use Rattle.batch_rules.proofs.Serving.{served_release}
use Rattle.batch_parts.proofs.serve.serve_release.Goals as goal

pub returns : goal.returns
returns c = served_release _ _ _ _ _ _ _ c.release_unaudited-said.result _ c.from.ensures c.release_unaudited-said.ensures
