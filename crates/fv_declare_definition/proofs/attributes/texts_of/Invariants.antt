use Rattle.std.proofs.Common.{◌≡◌, map, drop, string_bytes}
use Rattle.serde_json.specs.Find.{as_str}
use Rattle.serde_json.specs.View.{items_view}
use Rattle.fv_datum.specs.Members.{listed, each_some}
use Rattle.fv_datum.proofs.Fronts.{with_front}
use Rattle.fv_declare_definition.proofs.attributes.texts_of.Given as goal

abbrev pub invariant-loop-value : goal.invariant-loop-value
invariant-loop-value l = with_front (map string_bytes l.texts.items) (each_some as_str (listed (items_view (drop l.value-index l.values)))) ≡ each_some as_str (listed (items_view l.values))
