use Rattle.std.proofs.Common.{◌≡◌, map, drop, if◌then◌else◌, Some, None}
use Rattle.fv_first.specs.First.{first_from, first_where}
use Rattle.fv_declare_draft.specs.DraftViews.{type_view}
use Rattle.fv_declare_groups.specs.Grouping.{is_long_sequence}
use Rattle.fv_declare_groups.proofs.sequences.long_sequence.Given as goal

abbrev pub invariant-loop-number : goal.invariant-loop-number
invariant-loop-number l =
    first_from (λ n t. if is_long_sequence t then Some n else None) l.number (map type_view (drop l.number l.types))
    ≡ first_where is_long_sequence (map type_view l.types)
