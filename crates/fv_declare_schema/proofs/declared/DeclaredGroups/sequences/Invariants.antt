use Rattle.std.proofs.Common.{◌≡◌, ◌++◌, map}
use Rattle.fv_declare_schema.specs.Groups.{is_a_sequence}
use Rattle.fv_declare_schema.specs.GroupViews.{group_view}
use Rattle.fv_declare_schema.proofs.declared.DeclaredGroups.sequences.Given as goal

abbrev pub invariant-loop-draft : goal.invariant-loop-draft
invariant-loop-draft l = l.flags.items ++ map (λ g. is_a_sequence g.1) (map group_view l.draft-iterator) ≡ map (λ g. is_a_sequence g.1) l.self
