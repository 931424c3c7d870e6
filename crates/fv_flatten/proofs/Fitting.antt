-- The rules that the trees of uses ask fit, where no condition holds.
use Rattle.std.proofs.Common.{◌≡◌, ℕ, List, [], ◌∷◌, ◌++◌, map, Bool, true, false, cond, ◌&&◌, Option, Some, None, refl, sym, ap, ◌∙◌, true≢false, bytes_eq}
use Rattle.std.proofs.lemmas.List.Folds.{list_any-append, list_all-append}
use Rattle.std.proofs.lemmas.List.{map-append}
use Rattle.std.specs.List.{AllZip, list_any, list_all, zip}
use Rattle.fv_builtin.specs.Names.{builtin_named}
use Rattle.fv_builtin.specs.declared.name.BuiltinName.{BuiltinName}
use Rattle.fv_constraint.specs.Composed.{Planned, IsTreeOf, AreTreesOf}
use Rattle.fv_declare_definition.specs.Definitions.{Rule, of_data, of_objects, Composing, Definition, Definitions}
use Rattle.fv_constraint.specs.Meanings.{Meant, builtin, declared, either_meant, meant_composing}
use Rattle.fv_constraint.specs.Effect.{effective}
use Rattle.fv_datum.specs.Attributes.{AttributeValue, Attributes}
use Rattle.fv_datum.specs.Lookup.{at_name}
use Rattle.fv_datum.proofs.Bools.{or_left, or_right, not_false}
use Rattle.fv_constraint_tree.specs.TargetFits.{test_fits, tree_fits}
use Rattle.fv_flatten.specs.Flattening.{Use, AreTreesOfUses, unexpected_type}
use Rattle.fv_constraint.specs.Refusals.{unknown_rule}
use Rattle.fv_flatten.specs.Read.{asked, NodeAsks, IsReadTree, AreReadTrees, refuses_at}
use Rattle.fv_constraint_tree.specs.Targets.{Target, on_object, on_data}
use Rattle.fv_constraint.specs.Refusals.{is_unknown_rule}
use Rattle.fv_flatten.specs.Refusals.{rule_refuses, refuses_place}
use Rattle.fv_constraint_tree.specs.Nodes.{Test, Node}
use Rattle.fv_constraint_tree.specs.Preorder.{preorder, preorders, nodes}
use Rattle.fv_constraint_tree.specs.Trees.{Tree, tree, Trees, none, more}
use Rattle.fv_registry.specs.Rules.{Known}

-- the rule that a constraint asks is there for its sort
abbrev pub meant_unknown : Known → Meant → Bool
meant_unknown k (builtin which) = false
meant_unknown k (declared d) = is_unknown_rule k d.rule

pick : (q : Definition → Bool) (b : Bool) (e d : Definition) (rest : Option Definition) → cond b (Some e) rest ≡ Some d → q e ≡ false → (rest ≡ Some d → q d ≡ false) → q d ≡ false
pick q true e d rest is here later = let same : e ≡ d = cc in ap q (sym same) ∙ here
pick q false e d rest is here later = later is

-- what no definition is, the one of a name isn't
named_passes : (q : Definition → Bool) (ds : Definitions) (name : List ℕ) (d : Definition) → at_name name ds ≡ Some d → list_any (λ e. q e.1) ds ≡ false → q d ≡ false
named_passes q [] name d is passed = cc
named_passes q (e ∷ ds) name d is passed =
    pick q (bytes_eq name e.0) e.1 d (at_name name ds) is (or_left (q e.1) _ passed) (λ later. named_passes q ds name d later (or_right (q e.1) _ passed))

known_here : (k : Known) (ds : Definitions) (name : List ℕ) (found : Option BuiltinName) (m : Meant) → unknown_rule k ds ≡ false → either_meant found (at_name name ds) ≡ Some m → meant_unknown k m ≡ false
known_here k ds name (Some which) m known is = let same : builtin which ≡ m = cc in ap (meant_unknown k) (sym same)
known_here k ds name None m known is = go (at_name name ds) refl is
  where
    go : (o : Option Definition) → at_name name ds ≡ o → either_meant None o ≡ Some m → meant_unknown k m ≡ false
    go None at is = cc
    go (Some d) at is =
        let same : declared d ≡ m = cc in
        ap (meant_unknown k) (sym same) ∙ named_passes (λ e. is_unknown_rule k e.rule) ds name d at known

-- a rule that is there and isn't refused at a place fits it
rule_fits : (k : Known) (r : Option Rule) (place : Target) → is_unknown_rule k r ≡ false → rule_refuses k r place ≡ false → test_fits k place (asked r) ≡ true
rule_fits k None place known taken = refl
rule_fits k (Some (of_data rule)) on_object known taken = absurd (true≢false taken)
rule_fits k (Some (of_data rule)) (on_data kind) known taken = rw (not_false _ known, not_false _ taken) refl
rule_fits k (Some (of_objects rule)) on_object known taken = not_false _ known
rule_fits k (Some (of_objects rule)) (on_data kind) known taken = absurd (true≢false taken)

node_fits : (k : Known) (m : Meant) (place : Target) (given : Attributes) (test : Test) → NodeAsks m place given test → meant_unknown k m ≡ false → refuses_place k m place ≡ false
    → test_fits k place test ≡ true
node_fits k (builtin which) on_object given test asks known taken = absurd asks
node_fits k (builtin which) (on_data kind) given test asks known taken = ap (test_fits k (on_data kind)) asks.1
node_fits k (declared d) place given test asks known taken = ap (test_fits k place) asks ∙ rule_fits k d.rule place known taken

-- a planned tree's own tests aren't refused at a place
abbrev pub PassAt : Known → Target → List (Planned × ℕ) → Type 0
PassAt k place es = list_any (refuses_at k place) (map (λ e. e.0) es) ≡ false

-- the tests of a tree that is read fit
abbrev pub FitAt : Known → Target → List (Node × ℕ) → Type 0
FitAt k place es = list_all (λ n. test_fits k place n.test) (map (λ e. e.0) es) ≡ true

pass_parts : (k : Known) (place : Target) (es fs : List (Planned × ℕ)) → PassAt k place (es ++ fs) → PassAt k place es × PassAt k place fs
pass_parts k place es fs pass =
    let parts = sym (ap (list_any (refuses_at k place)) (map-append (λ (e : Planned × ℕ). e.0) es fs) ∙ list_any-append (refuses_at k place) (map (λ e. e.0) es) (map (λ e. e.0) fs)) ∙ pass in
    (or_left _ _ parts, or_right (list_any (refuses_at k place) (map (λ e. e.0) es)) _ parts)

fit_parts : (k : Known) (place : Target) (es fs : List (Node × ℕ)) → FitAt k place es → FitAt k place fs → FitAt k place (es ++ fs)
fit_parts k place es fs a b =
    ap (list_all (λ (n : Node). test_fits k place n.test)) (map-append (λ (e : Node × ℕ). e.0) es fs)
    ∙ list_all-append (λ (n : Node). test_fits k place n.test) (map (λ e. e.0) es) (map (λ e. e.0) fs) ∙ rw (a, b) refl

both_hold : (a b : Bool) → a ≡ true → b ≡ true → (a && b) ≡ true
both_hold a b x y = rw (x, y) refl

mutual
  fits_tree : (k : Known) (ds : Definitions) (place : Target) (name : List ℕ) (own : Option (List ℕ)) (given : Attributes) (t : Tree Planned) (o : Tree Node) → unknown_rule k ds ≡ false
      → IsTreeOf ds name own given t → IsReadTree place t o → PassAt k place (preorder t) → FitAt k place (preorder o)
  fits_tree k ds place name own given (tree p below) (tree n others) known is read pass =
      let here = node_fits k p.meant place p.given n.test read.0.asks (known_here k ds name (builtin_named name) p.meant known is.1) (or_left _ _ pass) in
      both_hold _ _ here (fits_trees k ds place (meant_composing p.meant) (effective p.meant given) below others known is.4 read.1 (or_right (refuses_at k place p) _ pass))

  fits_trees : (k : Known) (ds : Definitions) (place : Target) (cs : List Composing) (above : List ℕ → Option AttributeValue) (ts : Trees Planned) (os : Trees Node) → unknown_rule k ds ≡ false
      → AreTreesOf ds cs above ts → AreReadTrees place ts os → PassAt k place (preorders ts) → FitAt k place (preorders os)
  fits_trees k ds place cs above none none known are read pass = refl
  fits_trees k ds place cs above none (more o os) known are read pass = absurd read
  fits_trees k ds place cs above (more t ts) none known are read pass = absurd read
  fits_trees k ds place [] above (more t ts) (more o os) known are read pass = absurd are
  fits_trees k ds place (c ∷ cs) above (more t ts) (more o os) known are read pass =
      let parts = pass_parts k place (preorder t) (preorders ts) pass in
      fit_parts k place (preorder o) (preorders os) (fits_tree k ds place c.constraint c.message are.0.0 t o known are.0.2 read.0 parts.0)
      (fits_trees k ds place cs above ts os known are.1 read.1 parts.1)

-- what the trees of uses are read as fits the uses' places
pub all_fit : (k : Known) (ds : Definitions) (us : List Use) (ts : List (Tree Planned)) (os : List (Tree Node)) → AreTreesOfUses ds us ts → unknown_rule k ds ≡ false → unexpected_type k us ts ≡ false
    → AllZip (λ u o. IsReadTree u.0.place u.1 o) (zip us ts) os → AllZip (λ u o. tree_fits k u.place o ≡ true) us os
all_fit k ds [] [] [] are known pass read = tt
all_fit k ds [] [] (o ∷ os) are known pass read = absurd read
all_fit k ds [] (t ∷ ts) os are known pass read = absurd are
all_fit k ds (u ∷ us) [] os are known pass read = absurd are
all_fit k ds (u ∷ us) (t ∷ ts) [] are known pass read = absurd read
all_fit k ds (u ∷ us) (t ∷ ts) (o ∷ os) are known pass read =
    (fits_tree k ds u.place u.constraint u.message u.given t o known are.0 read.0 (or_left _ _ pass), all_fit k ds us ts os are.1 known (or_right (list_any (refuses_at k u.place) (nodes t)) _ pass) read.1)
