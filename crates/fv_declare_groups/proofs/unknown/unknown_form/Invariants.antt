use Rattle.std.proofs.Common.{◌≡◌, map, drop, option_map}
use Rattle.fv_first.specs.First.{first_from}
use Rattle.fv_declare_schema.specs.GroupViews.{declared_view}
use Rattle.fv_declare_schema.specs.Groups.{all_groups}
use Rattle.fv_declare_groups.specs.declared.at.GroupingAt.TheVariants as at
use Rattle.fv_declare_draft.specs.DraftViews.{form_view}
use Rattle.fv_declare_groups.specs.Whereabouts.{unknown_form}
use Rattle.fv_declare_schema.specs.Whereabouts.{first_unknown}
use Rattle.fv_declare_groups.proofs.unknown.unknown_form.Given as goal

abbrev pub invariant-loop-number : goal.invariant-loop-number
invariant-loop-number l =
    first_from (λ n f. option_map (at.Form n) (first_unknown (all_groups (declared_view l.declared)) f.groups)) l.number (map form_view (drop l.number l.forms))
    ≡ unknown_form (all_groups (declared_view l.declared)) (map form_view l.forms)
