use Rattle.std.proofs.Common.{◌≡◌, map, drop, not, if◌then◌else◌, Some, None}
use Rattle.fv_datum.specs.Name.{names}
use Rattle.fv_declare_draft.specs.DraftViews.{form_view}
use Rattle.fv_first.specs.First.{first_from}
use Rattle.fv_declare_judging.specs.NamePlaces.{bad_form}
use Rattle.fv_declare_judging.specs.declared.placed.NamesAt.TheVariants as at
use Rattle.fv_declare_judging.proofs.naming.bad_form.Given as goal

abbrev pub invariant-loop-number : goal.invariant-loop-number
invariant-loop-number l =
    first_from (λ n f. if not (names f.name) then Some (at.Form n) else None) l.number (map form_view (drop l.number l.forms)) ≡ bad_form (map form_view l.forms)
