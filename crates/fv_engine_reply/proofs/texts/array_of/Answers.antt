use Rattle.serde_json.proofs.Views.{view-Array}
use Rattle.fv_engine_reply.proofs.texts.array_of.Goals as goal

pub returns : goal.returns
returns c = view-Array c.args.values
