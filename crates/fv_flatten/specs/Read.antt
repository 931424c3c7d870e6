-- What the constraints of a tree are read as at a place: constraints with their attributes in effect, their tests and the templates of their
-- messages.
use Rattle.std.specs.Prelude.{◌≡◌, ℕ, List, ◌++◌, Bool, false, Option, Some, None, Result, Ok, codes}
use Rattle.std.specs.Option.{option_or, unwrap_or}
use Rattle.fv_builtin.specs.BuiltIns.{BuiltIn}
use Rattle.fv_builtin.specs.Given.{drafted, IsRead}
use Rattle.fv_datum.specs.Maps.{IsMapOf}
use Rattle.fv_builtin.specs.Table.{takes}
use Rattle.fv_builtin.specs.declared.fault.BuiltinFault.{BuiltinFault}
use Rattle.fv_builtin.specs.declared.name.BuiltinName.{BuiltinName}
use Rattle.fv_datum.specs.Attributes.{Attributes}
use Rattle.fv_datum.specs.declared.kind.Kind.{Kind}
use Rattle.fv_registry.specs.Rules.{Known}
use Rattle.fv_constraint.specs.Composed.{Planned}
use Rattle.fv_declare_definition.specs.Definitions.{Rule, of_data, of_objects}
use Rattle.fv_constraint.specs.Meanings.{Meant, builtin, declared}
use Rattle.fv_constraint.specs.Effect.{effective}
use Rattle.fv_constraint_tree.specs.Targets.{Target, on_data}
use Rattle.fv_flatten.specs.Refusals.{refuses_given, refuses_place}
use Rattle.fv_constraint_tree.specs.Nodes.{Test, built_in, by_rule, by_object_rule, nothing, Node}
use Rattle.fv_constraint_tree.specs.Trees.{Tree, tree, Trees, none, more}

-- the template of a message by default, by the constraint's name: a parameter named after it, after the standard's package where it is built in
abbrev pub default_template : List ℕ → Meant → List ℕ
default_template name (builtin which) = codes "{jakarta.validation.constraints." ++ (name ++ codes ".message}")
default_template name (declared d) = codes "{" ++ (name ++ codes ".message}")

-- the template that the constraint's declaration gives
abbrev pub declared_template : Meant → Option (List ℕ)
declared_template (builtin which) = None
declared_template (declared d) = d.message

-- the template of a constraint's message, by its name: its own, else that of its declaration, else the default
abbrev pub template_of : List ℕ → Meant → Option (List ℕ) → List ℕ
template_of name m own = unwrap_or (option_or own (declared_template m)) (default_template name m)

-- a constraint reports as one: only a declared one can
abbrev pub is_single : Meant → Bool
is_single (builtin which) = false
is_single (declared d) = d.single

-- what a declared constraint asks itself, by its rule
abbrev pub asked : Option Rule → Test
asked None = nothing
asked (Some (of_data rule)) = by_rule rule
asked (Some (of_objects rule)) = by_object_rule rule

-- what a constraint asks itself at a place, with the attributes that are given: its own test
abbrev pub NodeAsks : Meant → Target → Attributes → Test → Type 0
NodeAsks (builtin which) (on_data kind) given test = (b : BuiltIn) × (test ≡ built_in b) × IsRead (drafted which given) (takes which kind) (Ok b)
NodeAsks (declared d) place given test = test ≡ asked d.rule
NodeAsks _ _ given test = ⊥

-- a planned constraint is read as a constraint at a place, with the one map of its values in effect
pub record IsNode (place : Target) (p : Planned) (n : Node) : Type 0 where
  pub constraint : n.constraint ≡ p.constraint
  pub attributes : IsMapOf (effective p.meant p.given) n.attributes
  pub asks : NodeAsks p.meant place p.given n.test
  pub single : n.single ≡ is_single p.meant
  -- its own template, else that of its declaration, else the default
  pub message : n.message ≡ unwrap_or (option_or p.own (declared_template p.meant)) (default_template p.constraint p.meant)

-- an entry of a planned tree's preorder is read as an entry of a tree's: its constraint at the place, with as many below it
abbrev pub IsEntry : Target → Planned × ℕ → Node × ℕ → Type 0
IsEntry place e f = IsNode place e.0 f.0 × (f.1 ≡ e.1)

abbrev mutual
  -- a planned tree is read as a tree of the same shape, each of its constraints at the place
  pub IsReadTree : Target → Tree Planned → Tree Node → Type 0
  IsReadTree place (tree p below) (tree n others) = IsNode place p n × AreReadTrees place below others

  -- the same of trees, one after another
  pub AreReadTrees : Target → Trees Planned → Trees Node → Type 0
  AreReadTrees place none none = Unit {0}
  AreReadTrees place (more t ts) (more u us) = IsReadTree place t u × AreReadTrees place ts us
  AreReadTrees place _ _ = ⊥

-- the answer is what the built-in that a planned constraint stands for makes of its attributes, at data of a kind
pub record IsReadAs (place : Target) (p : Planned) (answer : Result BuiltIn BuiltinFault) : Type 0 where
  pub which : BuiltinName
  pub kind : Kind
  pub named : p.meant ≡ builtin which
  pub placed : place ≡ on_data kind
  pub read : IsRead (drafted which p.given) (takes which kind) answer

-- a planned constraint refuses its attributes
abbrev pub refuses_its_given : Planned → Bool
refuses_its_given p = refuses_given p.meant p.given

-- a planned constraint's own test isn't on the place
abbrev pub refuses_at : Known → Target → Planned → Bool
refuses_at k place p = refuses_place k p.meant place
