-- Whether the rules that a composed constraint asks are there, and of which sort they are.
use Rattle.std.specs.Prelude.{Bool, true, false}
use Rattle.std.specs.List.{list_any, list_all}
use Rattle.fv_registry.specs.Rules.{Known, knows_field, knows_object}
use Rattle.fv_constraint_tree.specs.Nodes.{Test, built_in, by_rule, by_object_rule, nothing, Node}
use Rattle.fv_constraint_tree.specs.Preorder.{nodes}
use Rattle.fv_constraint_tree.specs.Trees.{Tree}

-- the rule that a test asks is registered for its sort of subject
abbrev pub test_fits : Known → Test → Bool
test_fits k (by_rule rule) = knows_field rule k
test_fits k (by_object_rule rule) = knows_object rule k
test_fits k (built_in b) = true
test_fits k nothing = true

-- each rule that a tree asks is registered for its sort of subject
abbrev pub fits : Known → Tree Node → Bool
fits k t = list_all (λ n. test_fits k n.test) (nodes t)

-- a test asks a rule of objects
abbrev pub asks_object : Test → Bool
asks_object (by_object_rule rule) = true
asks_object _ = false

-- a node of the tree asks a rule of objects
abbrev pub on_object : Tree Node → Bool
on_object t = list_any (λ n. asks_object n.test) (nodes t)
