use Rattle.std.proofs.Common.{◌≡◌, map, drop, not, is_some, if◌then◌else◌, Some, None}
use Rattle.fv_constraint.specs.Meanings.{meant_by}
use Rattle.fv_declare_definition.specs.DefinitionViews.{definition_entry}
use Rattle.fv_declare_draft.specs.UseViews.{use_view}
use Rattle.fv_first.specs.First.{first_from}
use Rattle.fv_declare_judging.specs.NamePlaces.{unknown_use}
use Rattle.fv_declare_judging.specs.declared.placed.At.TheVariants.{Names}
use Rattle.fv_declare_judging.specs.declared.placed.NamesAt.TheVariants as at
use Rattle.fv_declare_judging.proofs.names.unknown_use.Given as goal

abbrev pub invariant-loop-number : goal.invariant-loop-number
invariant-loop-number l =
    first_from (λ n u. if not (is_some (meant_by (map definition_entry l.definitions.entries) u.draft.constraint)) then Some (Names (at.Use n)) else None) l.number (map use_view (drop l.number l.uses))
    ≡ unknown_use (map definition_entry l.definitions.entries) (map use_view l.uses)
