use Rattle.std.proofs.Common.{◌≡◌, [], map, drop}
use Rattle.serde_json.specs.Data as json
use Rattle.serde_json.specs.View.{view as json_view, members_view}
use Rattle.fv_datum.specs.View.{items_view, entries_view}
use Rattle.fv_datum.specs.Written.{items_written, entries_written}
use Rattle.fv_datum.proofs.writing.+write.Given as goal

abbrev pub invariant-write_items-loop-item : goal.invariant-write_items-loop-item
invariant-write_items-loop-item l = items_written (map json_view l.out.items) (items_view (drop l.item-index l.item-items)) ≡ items_written [] (items_view l.item-items)

abbrev pub invariant-write_entries-loop-entry : goal.invariant-write_entries-loop-entry
invariant-write_entries-loop-entry l = entries_written (members_view l.out.entries) (entries_view (drop l.entry-index l.entry-items)) ≡ entries_written json.no_members (entries_view l.entry-items)
