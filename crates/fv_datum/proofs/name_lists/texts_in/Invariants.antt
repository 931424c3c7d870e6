use Rattle.std.proofs.Common.{◌≡◌, map, drop}
use Rattle.serde_json.specs.Find.{as_str}
use Rattle.serde_json.specs.View.{items_view}
use Rattle.fv_datum.specs.Members.{listed, each_some}
use Rattle.fv_datum.proofs.Fronts.{with_front}
use Rattle.fv_datum.proofs.name_lists.texts_in.Given as goal

abbrev pub invariant-loop-value : goal.invariant-loop-value
invariant-loop-value l = with_front (map (λ n. n.now) l.names.items) (each_some as_str (listed (items_view (drop l.value-index l.values)))) ≡ each_some as_str (listed (items_view l.values))
