use Rattle.std.proofs.Common.{◌≡◌, ◌++◌, map}
use Rattle.fv_declare_schema.specs.Groups.{numbers_of, members_of}
use Rattle.fv_declare_schema.specs.GroupViews.{group_view}
use Rattle.fv_declare_schema.proofs.declared.DeclaredGroups.members.Given as goal

abbrev pub invariant-loop-draft : goal.invariant-loop-draft
invariant-loop-draft l =
    map (λ nodes. nodes.items) l.edges.items ++ map (λ g. numbers_of l.self (members_of g.1)) (map group_view l.draft-iterator)
    ≡ map (λ g. numbers_of l.self (members_of g.1)) l.self
