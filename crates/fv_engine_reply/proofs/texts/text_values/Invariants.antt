use Rattle.std.proofs.Common.{◌≡◌, map, take, string_bytes}
use Rattle.serde_json.specs.Data as json
use Rattle.serde_json.specs.View.{view as json_view}
use Rattle.fv_engine_reply.proofs.texts.text_values.Given as goal

abbrev pub invariant-loop-text : goal.invariant-loop-text
invariant-loop-text l = map json_view l.values.items ≡ map (λ t. json.string t) (map string_bytes (take l.text-index l.texts))
