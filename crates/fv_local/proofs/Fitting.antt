-- The rules that a use's tree asks are there where they fit its place.
use Rattle.std.proofs.Common.{◌≡◌, ◌&&◌, List, [], ◌∷◌, Bool, true, false, refl, sym, true≢false}
use Rattle.std.specs.List.{list_all, AllByRecursion}
use Rattle.fv_declare_schema.specs.Declarations.{Placed}
use Rattle.fv_declare_schema.specs.Fits.{placed_fits}
use Rattle.fv_constraint_tree.specs.TargetFits as flat
use Rattle.fv_constraint_tree.specs.Targets.{Target, on_object, on_data}
use Rattle.fv_constraint_tree.specs.Fits.{test_fits, fits}
use Rattle.fv_constraint_tree.specs.Nodes.{Test, built_in, by_rule, by_object_rule, nothing, Node}
use Rattle.fv_constraint_tree.specs.Preorder.{nodes}
use Rattle.fv_constraint_tree.specs.Trees.{Tree}
use Rattle.fv_registry.specs.Rules.{Known}

and_left : (a b : Bool) → (a && b) ≡ true → a ≡ true
and_left true b e = refl
and_left false b e = e

and_right : (a b : Bool) → (a && b) ≡ true → b ≡ true
and_right true b e = e
and_right false b e = absurd (true≢false (sym e))

both : (a b : Bool) → a ≡ true → b ≡ true → (a && b) ≡ true
both a b one other = rw (one, other) refl

test_there : (k : Known) (place : Target) (t : Test) → flat.test_fits k place t ≡ true → test_fits k t ≡ true
test_there k on_object (built_in b) e = refl
test_there k (on_data kind) (built_in b) e = refl
test_there k on_object nothing e = refl
test_there k (on_data kind) nothing e = refl
test_there k on_object (by_rule rule) e = absurd (true≢false (sym e))
test_there k (on_data kind) (by_rule rule) e = and_left _ _ e
test_there k on_object (by_object_rule rule) e = e
test_there k (on_data kind) (by_object_rule rule) e = absurd (true≢false (sym e))

all_there : (k : Known) (place : Target) (ns : List Node) → list_all (λ n. flat.test_fits k place n.test) ns ≡ true → list_all (λ n. test_fits k n.test) ns ≡ true
all_there k place [] e = refl
all_there k place (n ∷ ns) e = both _ _ (test_there k place n.test (and_left _ _ e)) (all_there k place ns (and_right (flat.test_fits k place n.test) _ e))

pub rules_there : (k : Known) (place : Target) (t : Tree Node) → flat.tree_fits k place t ≡ true → fits k t ≡ true
rules_there k place t e = all_there k place (nodes t) e

-- the rules of all are there
pub each_fits : (k : Known) (us : List Placed) → list_all (placed_fits k) us ≡ true → AllByRecursion (λ u. placed_fits k u ≡ true) us
each_fits k [] e = tt
each_fits k (u ∷ us) e = (and_left (placed_fits k u) _ e, each_fits k us (and_right (placed_fits k u) _ e))
