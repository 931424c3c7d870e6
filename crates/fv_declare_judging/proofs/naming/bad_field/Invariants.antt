use Rattle.std.proofs.Common.{◌≡◌, map, drop, not, if◌then◌else◌, Some, None}
use Rattle.fv_datum.specs.Name.{names}
use Rattle.fv_declare_draft.specs.DraftViews.{field_view}
use Rattle.fv_first.specs.First.{first_from}
use Rattle.fv_declare_judging.specs.NamePlaces.{bad_field}
use Rattle.fv_declare_judging.proofs.naming.bad_field.Given as goal

abbrev pub invariant-loop-number : goal.invariant-loop-number
invariant-loop-number l =
    first_from (λ n f. if not (names f.name) then Some n else None) l.number (map field_view (drop l.number l.fields)) ≡ bad_field (map field_view l.fields)
