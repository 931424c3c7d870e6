use Rattle.std.proofs.Common.{◌≡◌, map, drop, not, is_some, if◌then◌else◌, Some, None}
use Rattle.fv_datum.specs.Lookup.{at_name}
use Rattle.fv_declare_draft.specs.DraftViews.{form_view}
use Rattle.fv_first.specs.First.{first_from}
use Rattle.fv_bundle.specs.Types.{declared_view}
use Rattle.fv_declare_judging.specs.NamePlaces.{unknown_root}
use Rattle.fv_declare_judging.specs.declared.placed.At.TheVariants.{Names}
use Rattle.fv_declare_judging.specs.declared.placed.NamesAt.TheVariants as at
use Rattle.fv_declare_judging.proofs.names.unknown_root.Given as goal

abbrev pub invariant-loop-number : goal.invariant-loop-number
invariant-loop-number l =
    first_from (λ n f. if not (is_some (at_name f.root (declared_view l.declared))) then Some (Names (at.Root n)) else None) l.number (map form_view (drop l.number l.forms))
    ≡ unknown_root (declared_view l.declared) (map form_view l.forms)
