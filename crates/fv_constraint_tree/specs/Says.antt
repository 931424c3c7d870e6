-- What a constraint says of a datum or of an object.
use Rattle.std.specs.Prelude.{ℤ, Bool, true, not}
use Rattle.fv_builtin.specs.Says as builtin
use Rattle.fv_datum.specs.Attributes.{Attributes}
use Rattle.fv_datum.specs.Data.{Data}
use Rattle.fv_bundle.specs.Bundles.{Thing}
use Rattle.fv_registry.specs.Meanings.{Meanings}
use Rattle.fv_constraint_tree.specs.Nodes.{Test, built_in, by_rule, by_object_rule, Node}

-- what is judged: a datum or an object
pub data Subject : Type 0 where
  of_datum : Data → Subject
  of_object : Thing → Subject

-- A test with attributes holds of a subject at a moment. `nothing`, the test of a constraint that only has parts, holds of every subject, and so
-- does a test of the other sort of subject: declarations where a constraint stands at such subjects are refused.
abbrev pub test_says : Meanings → ℤ → Attributes → Test → Subject → Bool
test_says m now attributes (built_in b) (of_datum d) = builtin.says b d now
test_says m now attributes (by_rule rule) (of_datum d) = m.decides rule d attributes
test_says m now attributes (by_object_rule rule) (of_object o) = m.decides_object rule o attributes
test_says m now attributes _ _ = true

-- a constraint's own test refuses a subject at a moment
abbrev pub refuses : Meanings → ℤ → Subject → Node → Bool
refuses m now subject n = not (test_says m now n.attributes n.test subject)
