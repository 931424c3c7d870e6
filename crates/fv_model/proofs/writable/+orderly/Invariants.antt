use Rattle.std.proofs.Common.{◌≡◌, drop}
use Rattle.fv_datum.specs.View.{items_view, entries_view}
use Rattle.fv_model.specs.Writables.{items_writable, entries_writable}
use Rattle.fv_model.proofs.writable.+orderly.Given as goal

abbrev pub invariant-items_orderly-loop-item : goal.invariant-items_orderly-loop-item
invariant-items_orderly-loop-item l = items_writable (items_view (drop l.item-index l.item-items)) ≡ items_writable (items_view l.item-items)

abbrev pub invariant-entries_orderly-loop-entry : goal.invariant-entries_orderly-loop-entry
invariant-entries_orderly-loop-entry l = entries_writable (entries_view (drop l.entry-index l.entry-items)) ≡ entries_writable (entries_view l.entry-items)
