-- What the crate's types stand for.
use Rattle.std.specs.Prelude.{ℕ, string_bytes}
use Rattle.fv_builtin.specs.Views.{builtin_view}
use Rattle.fv_datum.specs.View.{view}
use Rattle.fv_bundle.specs.Views.{object_view}
use Rattle.fv_constraint_tree.specs.Nodes as spec
use Rattle.fv_constraint_tree.specs.Says as says
use Rattle.fv_constraint_tree.specs.declared.node.Node.{Node}
use Rattle.fv_constraint_tree.specs.declared.node.Test.{Test}
use Rattle.fv_constraint_tree.specs.declared.node.Test.TheVariants as test
use Rattle.fv_constraint_tree.specs.declared.reporting.Subject.{Subject}
use Rattle.fv_constraint_tree.specs.declared.reporting.Subject.TheVariants as subject

-- what a constraint asks itself
abbrev pub test_view : Test → spec.Test
test_view (test.BuiltIn b) = spec.built_in (builtin_view b)
test_view (test.Rule rule) = spec.by_rule rule
test_view (test.ObjectRule rule) = spec.by_object_rule rule
test_view test.Nothing = spec.nothing

-- a constraint
abbrev pub node_view : Node → spec.Node
node_view n = record {
  constraint = string_bytes n.constraint;
  attributes = n.attributes;
  test = test_view n.test;
  single = n.single;
  message = string_bytes n.message;
}

-- a constraint with the number of those below it
abbrev pub entry_view : Node → spec.Node × ℕ
entry_view n = (node_view n, n.below)

-- what is judged
abbrev pub subject_view : Subject → says.Subject
subject_view (subject.Datum d) = says.of_datum (view d.now)
subject_view (subject.Object o) = says.of_object (object_view o.now)
