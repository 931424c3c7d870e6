use Rattle.std.proofs.Common.{Some}
use Rattle.std.proofs.lemmas.Result.{IfOk-weaker}
use Rattle.serde_json.specs.View.{view as json_view}
use Rattle.fv_datum.proofs.Utf8.{json_none, json_some}
use Rattle.fv_datum.proofs.parsing.read_json.Goals as goal

pub returns-in_default-clause-not_json : goal.returns-in_default-clause-not_json
returns-in_default-clause-not_json c = λ _. json_none c.args.bytes.now c.in_default.ensures.cases.0

pub returns-clause-read : goal.returns-clause-read
returns-clause-read c = IfOk-weaker c.read_text.result _ _ (λ v e. json_some c.args.bytes.now (Some (json_view v)) c.in-Ok.ensures.cases.1 (rw c.in-Ok.ensures.cases.0 at e)) c.read_text.ensures.read
