use Rattle.std.proofs.Common.{◌≡◌, map, drop}
use Rattle.std.specs.List.{All}
use Rattle.serde_json.specs.View.{items_view as json_items}
use Rattle.fv_datum.specs.Json.{spelled}
use Rattle.fv_datum.specs.Members.{listed, each_some}
use Rattle.fv_datum.specs.View.{view}
use Rattle.fv_bundle.specs.Writing.{IsWritten}
use Rattle.fv_datum.proofs.Fronts.{with_front}
use Rattle.fv_bundle.proofs.spelled.read_plain.Given as goal

abbrev pub invariant-loop-item : goal.invariant-loop-item
invariant-loop-item l = record {
  read : with_front (map view l.out.items) (each_some (spelled l.kind) (listed (json_items (drop l.item-index l.item-items)))) ≡ each_some (spelled l.kind) (listed (json_items l.item-items));
  written : All (λ d. IsWritten (view d)) l.out.items;
}
