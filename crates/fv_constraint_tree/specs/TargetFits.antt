-- Whether the rules that a composed constraint asks are there for what stands at its place.
use Rattle.std.specs.Prelude.{◌&&◌, Bool, true, false}
use Rattle.std.specs.List.{list_all}
use Rattle.fv_constraint_tree.specs.Targets.{Target, on_object, on_data}
use Rattle.fv_constraint_tree.specs.Nodes.{Test, built_in, by_rule, by_object_rule, nothing, Node}
use Rattle.fv_constraint_tree.specs.Preorder.{nodes}
use Rattle.fv_constraint_tree.specs.Trees.{Tree}
use Rattle.fv_registry.specs.Rules.{Known, knows_field, knows_object, rule_takes_kind}

-- the rule that a test asks is there for what stands at the place: at data a rule of data that takes the kind, at objects one of objects
abbrev pub test_fits : Known → Target → Test → Bool
test_fits k place (built_in b) = true
test_fits k place nothing = true
test_fits k on_object (by_rule rule) = false
test_fits k (on_data kind) (by_rule rule) = knows_field rule k && rule_takes_kind rule kind k
test_fits k on_object (by_object_rule rule) = knows_object rule k
test_fits k (on_data kind) (by_object_rule rule) = false

-- each rule that a tree asks is
abbrev pub tree_fits : Known → Target → Tree Node → Bool
tree_fits k place t = list_all (λ n. test_fits k place n.test) (nodes t)
