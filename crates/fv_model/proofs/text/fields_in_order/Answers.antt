use Rattle.std.proofs.Common.{◌≡◌, ◌∙◌, string_bytes, rules}
use Rattle.json.specs.Print.{print}
use Rattle.json.specs.Tree.{json_tokens}
use Rattle.serde_json.specs.Data as json
use Rattle.serde_json.specs.Written.{outline}
use Rattle.serde_json.proofs.Texts.{print-outline}
use Rattle.fv_bundle.specs.Views.{object_view}
use Rattle.fv_model.specs.Writing.{fields_json}
use Rattle.fv_model.proofs.text.fields_in_order.Goals as goal

pub returns : goal.returns
returns c =
    let value = json.object (fields_json (object_view c.args.object.now).fields) in
    let same : string_bytes c.text_of.result ≡ print (json_tokens (outline value)) = search rules in
    same ∙ print-outline value
