use Rattle.std.proofs.Common.{◌+◌, ◌*◌, ◌≤◌, ◌≡◌, map, drop}
use Rattle.serde_json.specs.Data.{depth, items_depth, members_depth}
use Rattle.serde_json.specs.View.{view as json_view, items_view, members_view}
use Rattle.fv_form.specs.Asked.{asked}
use Rattle.fv_form.specs.FormViews.{entry_view}
use Rattle.fv_form.specs.Misfits.{in_items, in_members, in_entry, first_of}
use Rattle.fv_form.proofs.finding.+finding.Given as goal

abbrev pub decreases-first_misfit : goal.decreases-first_misfit
decreases-first_misfit l = 4 * depth (json_view l.value.now)

abbrev pub decreases-in_entries : goal.decreases-in_entries
decreases-in_entries l = 4 * members_depth (members_view l.members.now.entries) + 2

abbrev pub decreases-in_entry : goal.decreases-in_entry
decreases-in_entry l = 4 * members_depth (members_view l.members.now.entries) + 1

abbrev pub decreases-in_items : goal.decreases-in_items
decreases-in_items l = 4 * items_depth (items_view l.items.now) + 1

abbrev pub decreases-in_members : goal.decreases-in_members
decreases-in_members l = 4 * members_depth (members_view l.members.now.entries) + 1

abbrev pub decreases-in_object : goal.decreases-in_object
decreases-in_object l = 4 * members_depth (members_view l.members.now.entries) + 3

abbrev pub invariant-in_entries-loop-entry : goal.invariant-in_entries-loop-entry
invariant-in_entries-loop-entry l =
    first_of (map (λ e. in_entry asked l.form e (members_view l.members.entries)) (map entry_view (drop l.entry-index l.entries)))
    ≡ first_of (map (λ e. in_entry asked l.form e (members_view l.members.entries)) (map entry_view l.entries))

abbrev pub invariant-in_items-loop-number : goal.invariant-in_items-loop-number
invariant-in_items-loop-number l = record {
  found : in_items asked l.form l.number (items_view (drop l.number l.items)) ≡ in_items asked l.form 0 (items_view l.items);
  inside : items_depth (items_view (drop l.number l.items)) ≤ items_depth (items_view l.items);
}

abbrev pub invariant-in_members-loop-name : goal.invariant-in_members-loop-name
invariant-in_members-loop-name l = record {
  found : in_members asked l.form (members_view l.name-iterator) ≡ in_members asked l.form (members_view l.members.entries);
  inside : members_depth (members_view l.name-iterator) ≤ members_depth (members_view l.members.entries);
}
