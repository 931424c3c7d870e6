use Rattle.std.proofs.Common.{◌≡◌, map, drop, if◌then◌else◌, Some, None}
use Rattle.std.specs.Prelude.{◌∷◌, []}
use Rattle.fv_first.specs.First.{first_from, first_where}
use Rattle.fv_declare_draft.specs.DraftViews.{conversion_view}
use Rattle.fv_declare_schema.specs.Judged.{sequence_in}
use Rattle.fv_declare_groups.proofs.conversions.converted_sequence.Given as goal

abbrev pub invariant-loop-number : goal.invariant-loop-number
invariant-loop-number l =
    first_from (λ n r. if sequence_in l.graph (r.from ∷ []) then Some n else None) l.number (map conversion_view (drop l.number l.conversions))
    ≡ first_where (λ r. sequence_in l.graph (r.from ∷ [])) (map conversion_view l.conversions)
