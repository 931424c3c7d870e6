use Rattle.std.proofs.Common.{◌≡◌, map, drop, if◌then◌else◌, Some, None}
use Rattle.fv_first.specs.First.{first_from}
use Rattle.fv_declare_groups.specs.declared.at.GroupingAt.TheVariants as at
use Rattle.fv_declare_draft.specs.DraftViews.{type_view}
use Rattle.fv_declare_groups.specs.Grouping.{lacks_type}
use Rattle.fv_declare_groups.specs.Whereabouts.{lacking_in}
use Rattle.fv_declare_groups.proofs.sequences.lacking_in.Given as goal

abbrev pub invariant-loop-number : goal.invariant-loop-number
invariant-loop-number l =
    first_from (λ n t. if lacks_type t then Some (at.Sequence n) else None) l.number (map type_view (drop l.number l.types))
    ≡ lacking_in (map type_view l.types)
