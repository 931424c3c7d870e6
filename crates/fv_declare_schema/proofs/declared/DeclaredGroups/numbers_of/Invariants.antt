use Rattle.std.proofs.Common.{◌≡◌, take}
use Rattle.fv_declare_schema.specs.Groups.{numbers_of}
use Rattle.fv_declare_schema.specs.GroupViews.{names_view}
use Rattle.fv_declare_schema.proofs.declared.DeclaredGroups.numbers_of.Given as goal

abbrev pub invariant-loop-name : goal.invariant-loop-name
invariant-loop-name l = l.numbers.items ≡ numbers_of l.self (names_view (take l.name-index l.names))
