use Rattle.std.proofs.Common.{drop, Some}
use Rattle.std.specs.List.{list_any}
use Rattle.serde_json.specs.View.{items_view as json_items, members_view}
use Rattle.fv_datum.specs.Members.{pairs, listed}
use Rattle.fv_bundle.specs.Names.{object_types_view}
use Rattle.fv_bundle.specs.Types.{type_use_view}
use Rattle.fv_bundle.proofs.Telling.{Telling}
use Rattle.fv_bundle.proofs.flaws.+flaws.Given as goal

abbrev pub invariant-item_flaws-loop-item : goal.invariant-item_flaws-loop-item
invariant-item_flaws-loop-item l =
    Telling l.flaws (object_types_view l.types) (λ flaw. list_any (flaw (Some (type_use_view l.held))) (listed (json_items (drop l.item-index l.item-items))))
    (λ flaw. list_any (flaw (Some (type_use_view l.held))) (listed (json_items l.item-items)))

abbrev pub invariant-member_flaws-loop-value : goal.invariant-member_flaws-loop-value
invariant-member_flaws-loop-value l =
    Telling l.flaws (object_types_view l.types) (λ flaw. list_any (λ m. flaw (Some (type_use_view l.held)) m.1) (pairs (members_view l.value-iterator)))
    (λ flaw. list_any (λ m. flaw (Some (type_use_view l.held)) m.1) (pairs (members_view l.members.entries)))
