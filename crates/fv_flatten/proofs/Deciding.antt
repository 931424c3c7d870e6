-- The answer to uses by the first condition that holds.
use Rattle.std.proofs.Common.{◌≡◌, ℕ, zero, suc, ◌<◌, List, [], ◌∷◌, ◌≤◌, ◌++◌, map, min, nat_lt, Bool, true, false, IsTrue, Option, Some, None, option_map, is_some, Result, Ok, Err, refl, sym, ap, subst, inr, ◌∙◌, arith}
use Rattle.std.proofs.lemmas.Bool.Decides.{nat_tests}
use Rattle.std.specs.List.{All, AllZip, list_any, zip}
use Rattle.fv_constraint.specs.Composed.{Planned, IsTreeOf, ComposesItself}
use Rattle.fv_declare_definition.specs.Definitions.{Definitions}
use Rattle.fv_constraint.specs.PlannedViews.{planned_entry}
use Rattle.fv_datum.specs.Attributes.{Attributes}
use Rattle.fv_datum.specs.Outcomes.{first}
use Rattle.fv_flatten.proofs.Fitting.{all_fit}
use Rattle.fv_flatten.proofs.Gathered.{Gathered, gathered, first_of_trees, faults_same, conditions_told, placed_first, read_at, has_bad_pattern, unbuilt_of}
use Rattle.fv_flatten.proofs.Trees.{trees_unique}
use Rattle.fv_constraint_tree.specs.TargetFits.{tree_fits}
use Rattle.fv_flatten.specs.Flattening.{Use, AreTreesOfUses, bad_attribute, unexpected_type, tree_conditions, conditions, AreRead, IsDecided, FlattensAll, Flattens}
use Rattle.fv_constraint.specs.Refusals.{is_empty_in, unknown_rule}
use Rattle.fv_flatten.specs.Placed.{planned_in, IsPlannedFor, gets_refused, is_misplaced, refused_in, misplaced_in, bad_attribute_in, fault_at, first_fault, IsReadFrom, IsUnbuilt}
use Rattle.fv_flatten.specs.Read.{refuses_its_given, refuses_at}
use Rattle.fv_constraint.specs.Whereabouts.{unknown_rule_at, bad_definition_at}
use Rattle.fv_flatten.specs.Whereabouts.{IsUnbuiltOf, IsAt}
use Rattle.fv_constraint.specs.declared.at.ConstraintAt.{ConstraintAt}
use Rattle.fv_constraint.specs.declared.at.ConstraintAt.TheVariants as at
use Rattle.fv_flatten.specs.declared.fault.PlacedFlattenFault.{PlacedFlattenFault}
use Rattle.fv_constraint_tree.specs.TargetViews.{target_view}
use Rattle.fv_datum.proofs.Bools.{or_right}
use Rattle.fv_first.proofs.Laws.{or_told, inner_told}
use Rattle.fv_first.specs.First.{first_of}
use Rattle.fv_flatten.specs.declared.fault.FlattenFault.{FlattenFault}
use Rattle.fv_flatten.specs.declared.fault.FlattenFault.TheVariants.{EmptyConstraint, TooLarge, UnknownRule, Attribute, UnexpectedType, BadPattern}
use Rattle.fv_flatten.specs.declared.placed.PlacedTree.{PlacedTree}
use Rattle.fv_constraint_tree.specs.Nodes.{Node}
use Rattle.fv_constraint_tree.specs.Preorder.{IsPreorder}
use Rattle.fv_constraint_tree.specs.Trees.{Tree, size}
use Rattle.fv_registry.specs.Rules.{Known}

-- none of three conditions holds
pub record NoneHold (a b c : Bool) : Type 0 where
  pub one : a ≡ false
  pub two : b ≡ false
  pub three : c ≡ false

none_hold : {E : Type 0} (a b c : Bool) (x y z : E) → first ((a, x) ∷ (b, y) ∷ (c, z) ∷ []) ≡ None → NoneHold a b c
none_hold true b c x y z e = cc
none_hold false true c x y z e = cc
none_hold false false true x y z e = cc
none_hold false false false x y z e = record { one = refl; two = refl; three = refl }

-- no place is told
none_told : (a b c : Option ConstraintAt) → first_of (option_map (fault_at UnknownRule) a ∷ option_map (fault_at Attribute) b ∷ option_map (fault_at UnexpectedType) c ∷ []) ≡ None
    → NoneHold (is_some a) (is_some b) (is_some c)
none_told (Some a) b c e = cc
none_told None (Some b) c e = cc
none_told None None (Some c) e = cc
none_told None None None e = record { one = refl; two = refl; three = refl }

-- no placed tree is at fault
pub none_refused : (k : Known) (ds : Definitions) (ps : List PlacedTree) → first_fault k ds ps ≡ None → list_any gets_refused ps ≡ false
none_refused k ds ps e =
    let none = (none_told (unknown_rule_at k ds) (bad_attribute_in ds ps) (misplaced_in k ps) e).two in
    sym (inner_told at.Node (λ p. refuses_its_given) planned_in ps) ∙ or_right (is_some (bad_definition_at ds)) _ (sym (or_told (bad_definition_at ds) (refused_in ps)) ∙ none)

pub none_misplaced : (k : Known) (ds : Definitions) (ps : List PlacedTree) → first_fault k ds ps ≡ None → list_any (is_misplaced k) ps ≡ false
none_misplaced k ds ps e =
    sym (inner_told at.Node (λ (p : PlacedTree). refuses_at k (target_view p.place)) planned_in ps) ∙ (none_told (unknown_rule_at k ds) (bad_attribute_in ds ps) (misplaced_in k ps) e).three

-- what is found among definitions and placed trees is found among those that they are
pub found_here : (k : Known) (found : Option PlacedFlattenFault) (es ds : Definitions) (qs ps : List PlacedTree) → found ≡ first_fault k es qs → es ≡ ds → qs ≡ ps
    → first_fault k ds ps ≡ found
found_here k found es ds qs ps is definitions trees = sym (is ∙ ap (λ e. first_fault k e qs) definitions ∙ ap (λ q. first_fault k ds q) trees)

-- each placed tree is some tree's preorder
pub preorders : (ds : Definitions) (us : List Use) (ps : List PlacedTree) → AllZip (IsPlannedFor ds) us ps → All (λ p. IsPreorder (map planned_entry p.spots.items)) ps
preorders ds [] [] z i d less = absurd (omega arith)
preorders ds [] (p ∷ ps) z i d less = absurd z
preorders ds (u ∷ us) [] z i d less = absurd z
preorders ds (u ∷ us) (p ∷ ps) z zero d less = (z.0.1.0, sym z.0.1.2)
preorders ds (u ∷ us) (p ∷ ps) z (suc i) d less = preorders ds us ps z.1 i d (omega arith)

module _ (k : Known) (ds : Definitions) (us : List Use) (ps : List PlacedTree) (planned : AllZip (IsPlannedFor ds) us ps) where
  pub trees : Gathered ds us ps
  trees = gathered ds us ps planned

  placed_same : first_fault k ds ps ≡ first_of_trees k ds us trees.trees
  placed_same = faults_same k ds us trees.trees ps trees.are trees.placed

  same : option_map (λ f. f.fault) (first_fault k ds ps) ≡ first (tree_conditions k ds us trees.trees)
  same = ap (option_map (λ f. f.fault)) placed_same ∙ conditions_told k ds us trees.trees

  -- the first condition that holds is answered
  pub answers_fault : (f : PlacedFlattenFault) → first_fault k ds ps ≡ Some f → FlattensAll k ds us (Err f.fault)
  answers_fault f is =
      let first_is = ap (option_map (λ f. f.fault)) (sym is) ∙ same in
      (trees.trees, trees.are, subst (λ (o : Option FlattenFault). IsDecided o us trees.trees (Err f.fault)) first_is refl)

  -- with its place
  pub answers_place : (f : PlacedFlattenFault) → first_fault k ds ps ≡ Some f → (ts : List (Tree Planned)) → AreTreesOfUses ds us ts → IsAt k ds us ts f.fault f.at
  answers_place f is ts are =
      subst (λ (ts : List (Tree Planned)). IsAt k ds us ts f.fault f.at) (trees_unique ds us trees.trees ts trees.are are)
      (placed_first k ds us trees.trees f (sym placed_same ∙ is))

  -- where none holds, the trees are read
  pub answers_read : (answer : Result (List (Tree Node)) FlattenFault) → first_fault k ds ps ≡ None → AreRead us trees.trees answer → FlattensAll k ds us answer
  answers_read answer is read = (trees.trees, trees.are, subst (λ (o : Option FlattenFault). IsDecided o us trees.trees answer) (ap (option_map (λ f. f.fault)) (sym is) ∙ same) read)

  pub answers_taken : (os : List (Tree Node)) → first_fault k ds ps ≡ None → AllZip IsReadFrom ps os → FlattensAll k ds us (Ok os)
  answers_taken os is read = answers_read (Ok os) is (read_at (zip us trees.trees) ps os trees.placed read)

  pub unbuilt : (found : Option ConstraintAt) → IsUnbuilt ps found → IsUnbuiltOf us trees.trees found
  unbuilt found bad = unbuilt_of us trees.trees ps found trees.placed bad

  pub answers_bad : (found : Option ConstraintAt) → first_fault k ds ps ≡ None → IsUnbuilt ps found → IsTrue (is_some found) → FlattensAll k ds us (Err BadPattern)
  answers_bad None is bad some = cc
  answers_bad (Some place) is bad some = answers_read (Err BadPattern) is (has_bad_pattern us trees.trees place (unbuilt (Some place) bad))

  -- with its place
  pub places_bad : (found : Option ConstraintAt) → IsUnbuilt ps found → IsTrue (is_some found) → (ts : List (Tree Planned)) → AreTreesOfUses ds us ts → IsAt k ds us ts BadPattern found
  places_bad found bad some ts are =
      (subst (λ (ts : List (Tree Planned)). IsUnbuiltOf us ts found) (trees_unique ds us trees.trees ts trees.are are) (unbuilt found bad), some)

  -- what is taken fits
  pub taken_fits : (os : List (Tree Node)) → first_fault k ds ps ≡ None → AllZip IsReadFrom ps os → AllZip (λ u o. tree_fits k u.place o ≡ true) us os
  taken_fits os is read =
      let none = none_hold (unknown_rule k ds) (bad_attribute ds trees.trees) (unexpected_type k us trees.trees) _ _ _ (sym same ∙ ap (option_map (λ f. f.fault)) is) in
      all_fit k ds us trees.trees os trees.are none.one none.three (read_at (zip us trees.trees) ps os trees.placed read)

-- ---- one use

-- the tree of one use, by which it is answered
pub record Alone (k : Known) (ds : Definitions) (u : Use) (answer : Result (List (Tree Node)) FlattenFault) : Type 0 where
  pub composed : Tree Planned
  pub is : IsTreeOf ds u.constraint u.message u.given composed
  pub decided : IsDecided (first (conditions k ds u composed)) (u ∷ []) (composed ∷ []) answer

passed : {E : Type 0} (a b : Bool) (x y : E) (rest : List (Bool × E)) → a ≡ false → b ≡ false → first ((a, x) ∷ (b, y) ∷ rest) ≡ first rest
passed a b x y rest p q = rw (p, q) refl

-- what a list of one use is answered, where neither of the first conditions holds
pub answers_alone : (k : Known) (ds : Definitions) (u : Use) (answer : Result (List (Tree Node)) FlattenFault) → FlattensAll k ds (u ∷ []) answer → is_empty_in ds ≡ false
    → ((t : Tree Planned) → IsTreeOf ds u.constraint u.message u.given t → nat_lt 1024 (size t) ≡ false) → Alone k ds u answer
answers_alone k ds u answer f full small = go f.0 f.1 f.2
  where
    go : (ts : List (Tree Planned)) → AreTreesOfUses ds (u ∷ []) ts → IsDecided (first (tree_conditions k ds (u ∷ []) ts)) (u ∷ []) ts answer → Alone k ds u answer
    go [] are decided = absurd are
    go (t ∷ []) are decided = record {
      composed = t;
      is = are.0;
      decided = subst (λ (o : Option FlattenFault). IsDecided o (u ∷ []) (t ∷ []) answer) (sym (passed {E = FlattenFault} (is_empty_in ds) (nat_lt 1024 (size t)) EmptyConstraint TooLarge (tree_conditions k ds (u ∷ []) (t ∷ [])) full (small t are.0))) decided;
    }
    go (t ∷ s ∷ ts) are decided = absurd are.1

-- a tree of more nodes than are counted, or of no more
pub too_many : (n m : ℕ) → m ≡ min 1025 n → 1024 < m → nat_lt 1024 n ≡ true
too_many n m is more = grind (arith, nat_tests)

pub few : (n m : ℕ) → m ≡ min 1025 n → m ≤ 1024 → nat_lt 1024 n ≡ false
few n m is less = grind (arith, nat_tests)

-- a list of one, by the use that it is for
pub only : {X Y : Type 0} (R : X → Y → Type 0) (x : X) (ys front : List Y) (y : Y) → AllZip R (x ∷ []) ys → ys ≡ front ++ y ∷ [] → ys ≡ y ∷ []
only R x [] front y z is = absurd z
only R x (w ∷ v ∷ ys) front y z is = absurd z.1
only R x (w ∷ []) [] y z is = is
only R x (w ∷ []) (f ∷ []) y z is = cc
only R x (w ∷ []) (f ∷ g ∷ front) y z is = cc

first_holds : {E : Type 0} (a : Bool) (x : E) (rest : List (Bool × E)) → a ≡ true → first ((a, x) ∷ rest) ≡ Some x
first_holds a x rest p = rw p refl

second_holds : {E : Type 0} (a b : Bool) (x y : E) (rest : List (Bool × E)) → a ≡ false → b ≡ true → first ((a, x) ∷ (b, y) ∷ rest) ≡ Some y
second_holds a b x y rest p q = rw (p, q) refl

-- a use by itself, over a composition of the definitions, whose count of the tree's nodes stops at 1025
module _ (k : Known) (made ds : Definitions) (u : Use) (count : ℕ) (same : made ≡ ds) (acyclic : ComposesItself ds → ⊥)
    (sized : (own : Option (List ℕ)) (given : Attributes) (t : Tree Planned) → IsTreeOf made u.constraint own given t → count ≡ min 1025 (size t))
    (composed : (own : Option (List ℕ)) (given : Attributes) → ((t : Tree Planned) × IsTreeOf made u.constraint own given t)) where
  found : (t : Tree Planned) × IsTreeOf ds u.constraint u.message u.given t
  found = let t = composed u.message u.given in (t.0, subst (λ (es : Definitions). IsTreeOf es u.constraint u.message u.given t.0) same t.1)

  counted : (t : Tree Planned) → IsTreeOf ds u.constraint u.message u.given t → count ≡ min 1025 (size t)
  counted t is = sized u.message u.given t (subst (λ (es : Definitions). IsTreeOf es u.constraint u.message u.given t) (sym same) is)

  fault_of_tree : (fault : FlattenFault) → first (conditions k ds u found.0) ≡ Some fault → Flattens k ds u (Err fault)
  fault_of_tree fault is =
      inr (acyclic, (found.0, found.1, subst (λ (o : Option FlattenFault). IsDecided o (u ∷ []) (found.0 ∷ []) (Err fault)) (sym is) refl))

  pub answers_empty : is_empty_in ds ≡ true → Flattens k ds u (Err EmptyConstraint)
  answers_empty is = fault_of_tree EmptyConstraint (first_holds (is_empty_in ds) EmptyConstraint ((nat_lt 1024 (size found.0), TooLarge) ∷ tree_conditions k ds (u ∷ []) (found.0 ∷ [])) is)

  pub answers_large : is_empty_in ds ≡ false → 1024 < count → Flattens k ds u (Err TooLarge)
  answers_large full more = fault_of_tree TooLarge (second_holds (is_empty_in ds) (nat_lt 1024 (size found.0)) EmptyConstraint TooLarge (tree_conditions k ds (u ∷ []) (found.0 ∷ [])) full (too_many (size found.0) count (counted found.0 found.1) more))

  alone_of : (answer : Result (List (Tree Node)) FlattenFault) → is_empty_in ds ≡ false → count ≤ 1024 → FlattensAll k made (u ∷ []) answer → Alone k ds u answer
  alone_of answer full less all =
      answers_alone k ds u answer (subst (λ (es : Definitions). FlattensAll k es (u ∷ []) answer) same all) full (λ t is. few (size t) count (counted t is) less)

  pub answers_later : (fault : FlattenFault) → is_empty_in ds ≡ false → count ≤ 1024 → FlattensAll k made (u ∷ []) (Err fault) → Flattens k ds u (Err fault)
  answers_later fault full less all = let one = alone_of (Err fault) full less all in inr (acyclic, (one.composed, one.is, one.decided))

  pub answers_one : (os : List (Tree Node)) (o : Tree Node) → is_empty_in ds ≡ false → count ≤ 1024 → FlattensAll k made (u ∷ []) (Ok os) → os ≡ o ∷ [] → Flattens k ds u (Ok o)
  answers_one os o full less all is =
      let one = alone_of (Ok (o ∷ [])) full less (subst (λ (v : List (Tree Node)). FlattensAll k made (u ∷ []) (Ok v)) is all) in inr (acyclic, (one.composed, one.is, one.decided))
