use Rattle.std.proofs.Common.{map, drop, Option}
use Rattle.fv_declare_draft.specs.DraftViews.{type_view}
use Rattle.fv_first.specs.First.{IsFirstFrom, IsFirstIn}
use Rattle.fv_declare_groups.specs.Whereabouts.{IsMetIn}
use Rattle.fv_declare_groups.specs.declared.at.GroupingAt.{GroupingAt}
use Rattle.fv_declare_groups.proofs.sequences.met_in.Given as goal

abbrev pub invariant-loop-number : goal.invariant-loop-number
invariant-loop-number l = (found : Option GroupingAt) → IsFirstFrom (IsMetIn l.graph) l.number (map type_view (drop l.number l.types)) found
    → IsFirstIn (IsMetIn l.graph) (map type_view l.types) found
