-- Data of which all constraints of a tree hold are reported by none of them.
use Rattle.std.proofs.Common.{◌≡◌, ◌<◌, ℕ, suc, ◌+◌, length, drop, get_or, arith, ℤ, List, [], ◌∷◌, Bool, true, false, not, ◌&&◌, ◌||◌, map, refl, sym, ap, ◌∙◌}
use Rattle.std.proofs.lemmas.List.Elements.{All-from_recursion}
use Rattle.std.proofs.Math.Seq.{drop-cons}
use Rattle.std.specs.List.{All, AllByRecursion, list_all, list_any}
use Rattle.fv_datum.specs.View.{view}
use Rattle.fv_datum.specs.declared.datum.Datum.{Datum}
use Rattle.fv_constraint_tree.specs.Nodes as spec
use Rattle.fv_constraint_tree.specs.Preorder.{preorder}
use Rattle.fv_constraint_tree.specs.Reports.{is_bad}
use Rattle.fv_constraint_tree.specs.Says.{of_datum, test_says, refuses}
use Rattle.fv_constraint_tree.specs.Trees.{Tree, tree, size}
use Rattle.fv_constraint_tree.specs.Views.{node_view, entry_view, test_view}
use Rattle.fv_constraint_tree.specs.declared.node.Node.{Node}
use Rattle.fv_constraint_tree.proofs.Entries.{and_left, and_right, any_nodes}
use Rattle.fv_constraint_tree.proofs.Walking.{bad_is}
use Rattle.fv_registry.specs.Meanings.{Meanings}

-- a tree has a node
pub some_node : {N : Type 0} (t : Tree N) → 0 < size t
some_node (tree n below) = omega arith

module _ (m : Meanings) (now : ℤ) where
  -- a test holds of each of these data
  abbrev pub holds : List Datum → Node → Bool
  holds ds n = list_all (λ d. test_says m now n.attributes (test_view n.test) (of_datum (view d))) ds

  abbrev pub Holds : List Datum → Node → Type 0
  Holds ds n = holds ds n ≡ true

  -- one node that holds is passed over
  pub passed_over : (ds : List Datum) (nodes : List Node) (k : ℕ) (d : Node) → k < length nodes → Holds ds (get_or nodes k d) → list_all (holds ds) (drop (k + 1) nodes) ≡ list_all (holds ds) (drop k nodes)
  passed_over ds nodes k d less here =
      let next : k + 1 ≡ suc k = omega arith in
      let split : drop k nodes ≡ get_or nodes k d ∷ drop (k + 1) nodes = drop-cons nodes k d less ∙ ap (λ (n : ℕ). get_or nodes k d ∷ drop n nodes) (sym next) in
      sym (ap (list_all (holds ds)) split ∙ ap (λ b. b && list_all (holds ds) (drop (k + 1) nodes)) here)

  by_each : (ds : List Datum) (nodes : List Node) → list_all (holds ds) nodes ≡ true → AllByRecursion (Holds ds) nodes
  by_each ds [] all = tt
  by_each ds (n ∷ nodes) all = (and_left (holds ds n) (list_all (holds ds) nodes) all, by_each ds nodes (and_right (holds ds n) (list_all (holds ds) nodes) all))

  -- what is true of each is true of all
  pub holds_of_each : (ds : List Datum) (n : Node) → ((d : Datum) → test_says m now n.attributes (test_view n.test) (of_datum (view d)) ≡ true) → Holds ds n
  holds_of_each [] n each = refl
  holds_of_each (d ∷ ds) n each = rw (each d) (holds_of_each ds n each)

  none_refuses : (d : Datum) (ds : List Datum) (nodes : List Node) → AllByRecursion (Holds (d ∷ ds)) nodes → list_any (λ n. refuses m now (of_datum (view d)) (node_view n)) nodes ≡ false
  none_refuses d ds [] all = refl
  none_refuses d ds (n ∷ nodes) all =
      let here : test_says m now n.attributes (test_view n.test) (of_datum (view d)) ≡ true = and_left _ (list_all (λ x. test_says m now n.attributes (test_view n.test) (of_datum (view x))) ds) all.0 in
      ap (λ b. not b || list_any (λ x. refuses m now (of_datum (view d)) (node_view x)) nodes) here ∙ none_refuses d ds nodes all.1

  behind : (d : Datum) (ds : List Datum) (nodes : List Node) → AllByRecursion (Holds (d ∷ ds)) nodes → AllByRecursion (Holds ds) nodes
  behind d ds [] all = tt
  behind d ds (n ∷ nodes) all = (and_right (test_says m now n.attributes (test_view n.test) (of_datum (view d))) _ all.0, behind d ds nodes all.1)

  good : (t : Tree spec.Node) (nodes : List Node) (ds : List Datum) → preorder t ≡ map entry_view nodes → AllByRecursion (Holds ds) nodes
      → AllByRecursion (λ d. is_bad (refuses m now (of_datum (view d))) t ≡ false) ds
  good t nodes [] is all = tt
  good t nodes (d ∷ ds) is all =
      let by_entries : is_bad (refuses m now (of_datum (view d))) t ≡ list_any (λ n. refuses m now (of_datum (view d)) (node_view n)) nodes =
      sym (bad_is (refuses m now (of_datum (view d))) t)
      ∙ ap (λ (es : List (spec.Node × ℕ)). list_any (refuses m now (of_datum (view d))) (map (λ e. e.0) es)) is ∙ any_nodes (refuses m now (of_datum (view d))) nodes in
      (by_entries ∙ none_refuses d ds nodes all, good t nodes ds is (behind d ds nodes all))

  -- a tree whose constraints all hold of data is bad for none of them
  pub passed : (t : Tree spec.Node) (root : Node) (below : List Node) (ds : List Datum) → map entry_view (root ∷ below) ≡ preorder t → Holds ds root → list_all (holds ds) below ≡ true
      → All (λ d. is_bad (refuses m now (of_datum (view d))) t ≡ false) ds
  passed t root below ds is first others =
      All-from_recursion (λ d. is_bad (refuses m now (of_datum (view d))) t ≡ false) ds
      (good t (root ∷ below) ds (sym is) (first, by_each ds below others))
