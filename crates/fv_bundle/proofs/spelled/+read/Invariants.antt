use Rattle.std.proofs.Common.{◌≡◌, ◌+◌, ◌*◌, map, drop, option_map}
use Rattle.std.specs.List.{All}
use Rattle.serde_json.specs.View.{items_view as json_items, members_view}
use Rattle.fv_datum.specs.Members.{pairs, listed, each_some}
use Rattle.fv_datum.specs.View.{view, pair_view}
use Rattle.fv_bundle.specs.Spelled.{datum_of, entry_read}
use Rattle.fv_bundle.specs.Types.{nested, type_use_view}
use Rattle.fv_bundle.specs.Writing.{IsWritten}
use Rattle.fv_bundle.proofs.Orders.{keyed}
use Rattle.fv_datum.proofs.Fronts.{with_front}
use Rattle.fv_bundle.proofs.spelled.+read.Given as goal

abbrev pub decreases-read : goal.decreases-read
decreases-read l = 4 * nested (type_use_view l.type_use.now)

abbrev pub decreases-read_list : goal.decreases-read_list
decreases-read_list l = 4 * nested (type_use_view l.held.now) + 3

abbrev pub decreases-read_map : goal.decreases-read_map
decreases-read_map l = 4 * nested (type_use_view l.held.now) + 3

abbrev pub decreases-read_optional : goal.decreases-read_optional
decreases-read_optional l = 4 * nested (type_use_view l.held.now) + 3

abbrev pub decreases-read_items : goal.decreases-read_items
decreases-read_items l = 4 * nested (type_use_view l.held.now) + 2

abbrev pub decreases-read_each : goal.decreases-read_each
decreases-read_each l = 4 * nested (type_use_view l.held.now) + 1

abbrev pub decreases-read_entries : goal.decreases-read_entries
decreases-read_entries l = 4 * nested (type_use_view l.held.now) + 1

abbrev pub decreases-read_content : goal.decreases-read_content
decreases-read_content l = 4 * nested (type_use_view l.held.now) + 1

abbrev pub invariant-read_each-loop-item : goal.invariant-read_each-loop-item
invariant-read_each-loop-item l = record {
  read : with_front (map view l.out.items) (each_some (datum_of (type_use_view l.held)) (listed (json_items (drop l.item-index l.item-items)))) ≡ each_some (datum_of (type_use_view l.held)) (listed (json_items l.item-items));
  written : All (λ d. IsWritten (view d)) l.out.items;
}

abbrev pub invariant-read_entries-loop-name : goal.invariant-read_entries-loop-name
invariant-read_entries-loop-name l = record {
  read : with_front (map pair_view l.out.items) (option_map keyed (each_some (entry_read (datum_of (type_use_view l.held))) (pairs (members_view l.name-iterator))))
      ≡ option_map keyed (each_some (entry_read (datum_of (type_use_view l.held))) (pairs (members_view l.members.entries)));
  written : All (λ e. IsWritten (view e.1)) l.out.items;
}
