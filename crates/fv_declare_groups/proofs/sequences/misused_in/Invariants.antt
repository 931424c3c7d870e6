use Rattle.std.proofs.Common.{◌≡◌, map, drop, option_map}
use Rattle.fv_first.specs.First.{first_from}
use Rattle.fv_declare_groups.specs.declared.at.GroupingAt.TheVariants as at
use Rattle.fv_declare_draft.specs.UseViews.{use_view}
use Rattle.fv_declare_groups.specs.Whereabouts.{misused_in}
use Rattle.fv_declare_schema.specs.Whereabouts.{first_sequence}
use Rattle.fv_declare_groups.proofs.sequences.misused_in.Given as goal

abbrev pub invariant-loop-number : goal.invariant-loop-number
invariant-loop-number l =
    first_from (λ n u. option_map (at.Use n) (first_sequence l.graph u.draft.groups)) l.number (map use_view (drop l.number l.uses))
    ≡ misused_in l.graph (map use_view l.uses)
