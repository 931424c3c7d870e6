-- Placed trees as the trees of uses.
use Rattle.std.proofs.Common.{◌≡◌, ℕ, suc, List, [], ◌∷◌, map, Bool, ◌||◌, Option, Some, None, option_map, is_some, Err, refl, sym, ap, ap₂, subst, inl, inr, ◌∙◌}
use Rattle.std.specs.List.{AllZip, zip}
use Rattle.std.specs.Option.{option_or}
use Rattle.fv_builtin.specs.declared.fault.BuiltinFault.TheVariants as builtin
use Rattle.fv_constraint.specs.Composed.{Planned}
use Rattle.fv_declare_definition.specs.Definitions.{Definitions}
use Rattle.fv_constraint.specs.PlannedViews.{planned_view, planned_entry}
use Rattle.fv_flatten.specs.Flattening.{Use, AreTreesOfUses, tree_conditions, HasBadPattern}
use Rattle.fv_constraint.specs.Refusals.{unknown_rule}
use Rattle.fv_constraint_tree.specs.TargetViews.{target_view}
use Rattle.fv_flatten.specs.Placed.{planned_in, IsPlannedFor, fault_at, first_fault, IsReadFrom, IsUnbuilt}
use Rattle.fv_flatten.specs.Read.{IsReadTree, IsReadAs, refuses_its_given, refuses_at}
use Rattle.fv_constraint_tree.specs.Targets.{Target}
use Rattle.fv_flatten.specs.declared.fault.FlattenFault.TheVariants.{UnknownRule, Attribute, UnexpectedType}
use Rattle.fv_flatten.proofs.Told.{rule_told, definitions_told}
use Rattle.fv_flatten.proofs.Unbuilt.{IsUnbuiltTree}
use Rattle.fv_constraint.specs.Whereabouts.{unknown_rule_at, bad_definition_at}
use Rattle.fv_flatten.specs.Whereabouts.{refused_node, bad_attribute_at, unexpected_at, IsUnbuiltAt, IsUnbuiltIn, IsUnbuiltOf, IsAt}
use Rattle.fv_constraint.specs.declared.at.ConstraintAt.{ConstraintAt}
use Rattle.fv_constraint.specs.declared.at.ConstraintAt.TheVariants as at
use Rattle.fv_flatten.specs.declared.fault.PlacedFlattenFault.{PlacedFlattenFault}
use Rattle.fv_flatten.specs.declared.placed.PlacedTree.{PlacedTree}
use Rattle.fv_datum.specs.Outcomes.{first}
use Rattle.fv_first.proofs.Laws.{or_told, inner_told}
use Rattle.fv_first.specs.First.{first_from, first_where, first_of, IsFirstFrom}
use Rattle.fv_graph.specs.Graph.{IsIn}
use Rattle.fv_graph.specs.declared.flatten.Spot.{Spot}
use Rattle.fv_constraint.specs.declared.planning.Planned as declared
use Rattle.fv_constraint_tree.specs.Nodes.{Node}
use Rattle.fv_constraint_tree.specs.Preorder.{preorder, nodes}
use Rattle.fv_constraint_tree.specs.Trees.{Tree}
use Rattle.fv_registry.specs.Rules.{Known}

-- a placed tree is a use's tree at the use's place
abbrev pub StandsAt : Use × Tree Planned → PlacedTree → Type 0
StandsAt u p = (target_view p.place ≡ u.0.place) × (map planned_entry p.spots.items ≡ preorder u.1)

-- placed trees are the trees of uses
pub record Gathered (ds : Definitions) (us : List Use) (ps : List PlacedTree) : Type 0 where
  pub trees : List (Tree Planned)
  pub are : AreTreesOfUses ds us trees
  pub placed : AllZip StandsAt (zip us trees) ps

pub gathered : (ds : Definitions) (us : List Use) (ps : List PlacedTree) → AllZip (IsPlannedFor ds) us ps → Gathered ds us ps
gathered ds [] [] z = record { trees = []; are = tt; placed = tt }
gathered ds [] (p ∷ ps) z = absurd z
gathered ds (u ∷ us) [] z = absurd z
gathered ds (u ∷ us) (p ∷ ps) z =
    let one = z.0.1 in
    let others = gathered ds us ps z.1 in
    record { trees = one.0 ∷ others.trees; are = (one.1, others.are); placed = ((z.0.0, one.2), others.placed) }

seen : (spots : List (Spot declared.Planned)) → map (λ s. planned_view s.value) spots ≡ map (λ e. e.0) (map planned_entry spots)
seen [] = refl
seen (s ∷ spots) = ap (λ ps. planned_view s.value ∷ ps) (seen spots)

-- the constraints of a placed tree are the nodes of the tree
pub nodes_in : (p : PlacedTree) (t : Tree Planned) → map planned_entry p.spots.items ≡ preorder t → planned_in p ≡ nodes t
nodes_in p t e = seen p.spots.items ∙ ap (map (λ (e : Planned × ℕ). e.0)) e

refused_same : (ds : Definitions) (n : ℕ) (us : List Use) (ts : List (Tree Planned)) (ps : List PlacedTree) → AreTreesOfUses ds us ts → AllZip StandsAt (zip us ts) ps
    → first_from (λ n p. option_map (at.Node n) (first_where refuses_its_given (planned_in p))) n ps ≡ first_from (λ n t. option_map (at.Node n) (first_where refuses_its_given (nodes t))) n ts
refused_same ds n [] [] [] x z = refl
refused_same ds n [] [] (p ∷ ps) x z = absurd z
refused_same ds n [] (t ∷ ts) ps x z = absurd x
refused_same ds n (u ∷ us) [] ps x z = absurd x
refused_same ds n (u ∷ us) (t ∷ ts) [] x z = absurd z
refused_same ds n (u ∷ us) (t ∷ ts) (p ∷ ps) x z =
    ap₂ option_or (ap (λ ns. option_map (at.Node n) (first_where refuses_its_given ns)) (nodes_in p t z.0.1)) (refused_same ds (suc n) us ts ps x.1 z.1)

misplaced_same : (k : Known) (n : ℕ) (us : List (Use × Tree Planned)) (ps : List PlacedTree) → AllZip StandsAt us ps
    → first_from (λ n p. option_map (at.Node n) (first_where (refuses_at k (target_view p.place)) (planned_in p))) n ps
    ≡ first_from (λ n u. option_map (at.Node n) (first_where (refuses_at k u.0.place) (nodes u.1))) n us
misplaced_same k n [] [] z = refl
misplaced_same k n [] (p ∷ ps) z = absurd z
misplaced_same k n (u ∷ us) [] z = absurd z
misplaced_same k n (u ∷ us) (p ∷ ps) z =
    ap₂ option_or (
    ap (λ place. option_map (at.Node n) (first_where (refuses_at k place) (planned_in p))) z.0.0
    ∙ ap (λ ns. option_map (at.Node n) (first_where (refuses_at k u.0.place) ns)) (nodes_in p u.1 z.0.1)
    ) (misplaced_same k (suc n) us ps z.1)

-- the first fault of definitions and of the trees of uses
abbrev pub first_of_trees : Known → Definitions → List Use → List (Tree Planned) → Option PlacedFlattenFault
first_of_trees k ds us ts = first_of (
    option_map (fault_at UnknownRule) (unknown_rule_at k ds)
    ∷ option_map (fault_at Attribute) (bad_attribute_at ds ts)
    ∷ option_map (fault_at UnexpectedType) (unexpected_at k us ts)
    ∷ [])

-- the first fault of placed trees is that of the trees of uses
pub faults_same : (k : Known) (ds : Definitions) (us : List Use) (ts : List (Tree Planned)) (ps : List PlacedTree) → AreTreesOfUses ds us ts → AllZip StandsAt (zip us ts) ps
    → first_fault k ds ps ≡ first_of_trees k ds us ts
faults_same k ds us ts ps x z =
    ap₂ (λ (a b : Option ConstraintAt). first_of (
    option_map (fault_at UnknownRule) (unknown_rule_at k ds) ∷ option_map (fault_at Attribute) (option_or (bad_definition_at ds) a) ∷ option_map (fault_at UnexpectedType) b ∷ []
    )) (refused_same ds 0 us ts ps x z) (misplaced_same k 0 (zip us ts) ps z)

-- the first of three, told by whether each is there
told_first : (a b c : Option ConstraintAt)
    → option_map (λ f. f.fault) (first_of (option_map (fault_at UnknownRule) a ∷ option_map (fault_at Attribute) b ∷ option_map (fault_at UnexpectedType) c ∷ []))
    ≡ first ((is_some a, UnknownRule) ∷ (is_some b, Attribute) ∷ (is_some c, UnexpectedType) ∷ [])
told_first (Some a) b c = refl
told_first None (Some b) c = refl
told_first None None (Some c) = refl
told_first None None None = refl

-- the first fault of the trees of uses is that of the first condition that holds
pub conditions_told : (k : Known) (ds : Definitions) (us : List Use) (ts : List (Tree Planned)) → option_map (λ f. f.fault) (first_of_trees k ds us ts) ≡ first (tree_conditions k ds us ts)
conditions_told k ds us ts =
    let refused = or_told (bad_definition_at ds) (refused_node ts) ∙ ap₂ (λ a b. a || b) (definitions_told ds) (inner_told at.Node (λ t. refuses_its_given) (λ (t : Tree Planned). nodes t) ts) in
    let misplaced = inner_told at.Node (λ (u : Use × Tree Planned). refuses_at k u.0.place) (λ u. nodes u.1) (zip us ts) in
    told_first (unknown_rule_at k ds) (bad_attribute_at ds ts) (unexpected_at k us ts)
    ∙ ap (λ (b : Bool). first ((b, UnknownRule) ∷ (is_some (bad_attribute_at ds ts), Attribute) ∷ (is_some (unexpected_at k us ts), UnexpectedType) ∷ [])) (rule_told k ds)
    ∙ ap₂ (λ (b c : Bool). first ((unknown_rule k ds, UnknownRule) ∷ (b, Attribute) ∷ (c, UnexpectedType) ∷ [])) refused misplaced

-- the first fault of the trees of uses is where it is told
pub placed_first : (k : Known) (ds : Definitions) (us : List Use) (ts : List (Tree Planned)) (f : PlacedFlattenFault) → first_of_trees k ds us ts ≡ Some f → IsAt k ds us ts f.fault f.at
placed_first k ds us ts f is = go (unknown_rule_at k ds) (bad_attribute_at ds ts) (unexpected_at k us ts) refl refl refl is
  where
    go : (a b c : Option ConstraintAt) → a ≡ unknown_rule_at k ds → b ≡ bad_attribute_at ds ts → c ≡ unexpected_at k us ts
        → first_of (option_map (fault_at UnknownRule) a ∷ option_map (fault_at Attribute) b ∷ option_map (fault_at UnexpectedType) c ∷ []) ≡ Some f → IsAt k ds us ts f.fault f.at
    go (Some p) b c x y z is = let same : fault_at UnknownRule p ≡ f = cc in subst (λ (f : PlacedFlattenFault). IsAt k ds us ts f.fault f.at) same (x, refl)
    go None (Some p) c x y z is = let same : fault_at Attribute p ≡ f = cc in subst (λ (f : PlacedFlattenFault). IsAt k ds us ts f.fault f.at) same (y, refl)
    go None None (Some p) x y z is = let same : fault_at UnexpectedType p ≡ f = cc in subst (λ (f : PlacedFlattenFault). IsAt k ds us ts f.fault f.at) same (z, refl)
    go None None None x y z is = cc

-- what placed trees are read as is what the uses' trees are read as
pub read_at : (us : List (Use × Tree Planned)) (ps : List PlacedTree) (os : List (Tree Node)) → AllZip StandsAt us ps → AllZip IsReadFrom ps os → AllZip (λ u o. IsReadTree u.0.place u.1 o) us os
read_at [] [] [] z r = tt
read_at [] [] (o ∷ os) z r = absurd r
read_at [] (p ∷ ps) os z r = absurd z
read_at (u ∷ us) [] os z r = absurd z
read_at (u ∷ us) (p ∷ ps) [] z r = absurd r
read_at (u ∷ us) (p ∷ ps) (o ∷ os) z r =
    (subst (λ (at : Target). IsReadTree at u.1 o) z.0.0 (r.0 u.1 (sym z.0.1)), read_at us ps os z.1 r.1)

-- a pattern that isn't built, in one of the uses' trees
pub record BadAmong (us : List (Use × Tree Planned)) : Type 0 where
  pub used : Use
  pub composed : Tree Planned
  pub planned : Planned
  pub among : IsIn us (used, composed)
  pub within : IsIn (nodes composed) planned
  pub refused : IsReadAs used.place planned (Err builtin.BadPattern)

-- a constraint whose pattern isn't built is among those in which it is found
bad_node : (place : Target) (n k : ℕ) (ps : List Planned) → IsFirstFrom (IsUnbuiltAt place) n ps (Some k) → (p : Planned) × IsIn ps p × IsReadAs place p (Err builtin.BadPattern)
bad_node place n k [] found = cc
bad_node place n k (p ∷ ps) (inl here) = (p, inl refl, here.2.1)
bad_node place n k (p ∷ ps) (inr later) = let more = bad_node place (suc n) k ps later.1 in (more.0, inr more.1, more.2)

bad_in_tree : (place : Target) (ps : List Planned) (n : ℕ) (found : ConstraintAt) → IsUnbuiltIn place ps n (Some found) → (p : Planned) × IsIn ps p × IsReadAs place p (Err builtin.BadPattern)
bad_in_tree place ps n found (None, first, is) = cc
bad_in_tree place ps n found (Some k, first, is) = bad_node place 0 k ps first

bad_among : (n : ℕ) (us : List (Use × Tree Planned)) (place : ConstraintAt) → IsFirstFrom (λ n u. IsUnbuiltIn u.0.place (nodes u.1) n) n us (Some place) → BadAmong us
bad_among n [] place found = cc
bad_among n (u ∷ us) place (inl here) =
    let bad = bad_in_tree u.0.place (nodes u.1) n here.0 here.2 in
    record { used = u.0; composed = u.1; planned = bad.0; among = inl refl; within = bad.1; refused = bad.2 }
bad_among n (u ∷ us) place (inr more) =
    let later = bad_among (suc n) us place more.1 in
    record { used = later.used; composed = later.composed; planned = later.planned; among = inr later.among; within = later.within; refused = later.refused }

pub has_bad_pattern : (us : List Use) (ts : List (Tree Planned)) (place : ConstraintAt) → IsUnbuiltOf us ts (Some place) → HasBadPattern us ts
has_bad_pattern us ts place bad =
    let found = bad_among 0 (zip us ts) place bad in
    record { used = found.used; composed = found.composed; planned = found.planned; among = found.among; within = found.within; refused = found.refused }

-- what is found of a placed tree is found of the use's tree
unbuilt_same : (n : ℕ) (u : Use × Tree Planned) (p : PlacedTree) (found : Option ConstraintAt) → StandsAt u p → IsUnbuiltIn (target_view p.place) (planned_in p) n found
    → IsUnbuiltIn u.0.place (nodes u.1) n found
unbuilt_same n u p found stands bad =
    subst (λ (place : Target). IsUnbuiltIn place (nodes u.1) n found) stands.0
    (subst (λ (ps : List Planned). IsUnbuiltIn (target_view p.place) ps n found) (nodes_in p u.1 stands.1) bad)

unbuilt_from : (n : ℕ) (us : List (Use × Tree Planned)) (ps : List PlacedTree) (found : Option ConstraintAt) → AllZip StandsAt us ps → IsFirstFrom IsUnbuiltTree n ps found
    → IsFirstFrom (λ n u. IsUnbuiltIn u.0.place (nodes u.1) n) n us found
unbuilt_from n [] [] found z bad = bad
unbuilt_from n [] (p ∷ ps) found z bad = absurd z
unbuilt_from n (u ∷ us) [] found z bad = absurd z
unbuilt_from n (u ∷ us) (p ∷ ps) found z (inl here) = inl (here.0, here.1, unbuilt_same n u p (Some here.0) z.0 here.2)
unbuilt_from n (u ∷ us) (p ∷ ps) found z (inr later) = inr (unbuilt_same n u p None z.0 later.0, unbuilt_from (suc n) us ps found z.1 later.1)

pub unbuilt_of : (us : List Use) (ts : List (Tree Planned)) (ps : List PlacedTree) (found : Option ConstraintAt) → AllZip StandsAt (zip us ts) ps → IsUnbuilt ps found → IsUnbuiltOf us ts found
unbuilt_of us ts ps found z bad = unbuilt_from 0 (zip us ts) ps found z bad
