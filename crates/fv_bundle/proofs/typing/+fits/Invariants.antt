use Rattle.std.proofs.Common.{◌≡◌, drop, option_map}
use Rattle.fv_datum.specs.View.{items_view, entries_view}
use Rattle.fv_bundle.specs.Types.{type_use_view}
use Rattle.fv_bundle.specs.Typing.{naming, items_fit, entries_fit}
use Rattle.fv_bundle.specs.Views.{objects_view}
use Rattle.fv_bundle.proofs.typing.+fits.Given as goal

abbrev pub invariant-items_fit-loop-item : goal.invariant-items_fit-loop-item
invariant-items_fit-loop-item l =
    items_fit (naming (option_map (λ m. objects_view m.now) l.among)) (type_use_view l.held) (items_view (drop l.item-index l.item-items))
    ≡ items_fit (naming (option_map (λ m. objects_view m.now) l.among)) (type_use_view l.held) (items_view l.item-items)

abbrev pub invariant-entries_fit-loop-entry : goal.invariant-entries_fit-loop-entry
invariant-entries_fit-loop-entry l =
    entries_fit (naming (option_map (λ m. objects_view m.now) l.among)) (type_use_view l.held) (entries_view (drop l.entry-index l.entry-items))
    ≡ entries_fit (naming (option_map (λ m. objects_view m.now) l.among)) (type_use_view l.held) (entries_view l.entry-items)
