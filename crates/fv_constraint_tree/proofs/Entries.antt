-- Nodes of the code as the nodes of trees.
use Rattle.std.proofs.Common.{◌≡◌, ℕ, suc, ◌-◌, ◌<◌, List, [], ◌∷◌, Bool, true, false, ◌&&◌, ◌||◌, length, map, take, drop, get_or, refl, sym, ap, ◌∙◌, arith}
use Rattle.std.proofs.lemmas.List.{length-map, drop-map, length-drop, take-append-drop, take-map, take_all}
use Rattle.std.proofs.lemmas.List.Folds.{list_all-append}
use Rattle.std.proofs.Math.Seq.{drop-cons}
use Rattle.std.specs.List.{list_all, list_any}
use Rattle.fv_registry.specs.Rules.{Known}
use Rattle.fv_constraint_tree.specs.Codes.{tree_in-preorder, length-preorder}
use Rattle.fv_constraint_tree.specs.Fits.{test_fits, fits, asks_object, on_object}
use Rattle.fv_constraint_tree.specs.Nodes as spec
use Rattle.fv_constraint_tree.specs.Preorder.{preorder, preorders, IsPreorder, tree_in}
use Rattle.fv_constraint_tree.specs.Trees.{Tree, tree, sizes, size}
use Rattle.fv_constraint_tree.specs.Views.{node_view, test_view, entry_view}
use Rattle.fv_constraint_tree.specs.declared.node.Node.{Node}

-- the nodes of entries
pub nodes_are : (xs : List Node) → map (λ e. e.0) (map entry_view xs) ≡ map node_view xs
nodes_are [] = refl
nodes_are (x ∷ xs) = ap (λ ns. node_view x ∷ ns) (nodes_are xs)

-- a test of all of them
pub all_nodes : (p : spec.Node → Bool) (xs : List Node) → list_all p (map (λ e. e.0) (map entry_view xs)) ≡ list_all (λ n. p (node_view n)) xs
all_nodes p [] = refl
all_nodes p (x ∷ xs) = ap (λ b. p (node_view x) && b) (all_nodes p xs)

-- a test of one of them
pub any_nodes : (p : spec.Node → Bool) (xs : List Node) → list_any p (map (λ e. e.0) (map entry_view xs)) ≡ list_any (λ n. p (node_view n)) xs
any_nodes p [] = refl
any_nodes p (x ∷ xs) = ap (λ b. p (node_view x) || b) (any_nodes p xs)

-- whether the rules of a tree are there, by its nodes
pub fits_by : (k : Known) (t : Tree spec.Node) (xs : List Node) → preorder t ≡ map entry_view xs → fits k t ≡ list_all (λ n. test_fits k (test_view n.test)) xs
fits_by k t xs is = ap (λ (es : List (spec.Node × ℕ)). list_all (λ (n : spec.Node). test_fits k n.test) (map (λ e. e.0) es)) is ∙ all_nodes (λ n. test_fits k n.test) xs

-- whether a tree asks a rule of objects, by its nodes
pub on_object_by : (t : Tree spec.Node) (xs : List Node) → preorder t ≡ map entry_view xs → on_object t ≡ list_any (λ n. asks_object (test_view n.test)) xs
on_object_by t xs is = ap (λ (es : List (spec.Node × ℕ)). list_any (λ (n : spec.Node). asks_object n.test) (map (λ e. e.0) es)) is ∙ any_nodes (λ n. asks_object n.test) xs

-- how many nodes a tree has, by its nodes
pub size_by : (t : Tree spec.Node) (xs : List Node) → preorder t ≡ map entry_view xs → length xs ≡ size t
size_by t xs is =
    let long : length (map entry_view xs) ≡ length xs = rw length-map refl in
    sym long ∙ sym (ap (λ (es : List (spec.Node × ℕ)). length es) is) ∙ length-preorder t

-- a tree is that of its root and of the list of the nodes below it
pub tree_again : {N : Type 0} (t : Tree N) (n : N) (b : ℕ) (es : List (N × ℕ)) → preorder t ≡ (n, b) ∷ es → tree_in n es ≡ t
tree_again {N} (tree m ts) n b es is =
    let first : ◌≡◌ {A = N × ℕ} (m, sizes ts) (n, b) = cc in
    let head : m ≡ n = ap (λ (e : N × ℕ). e.0) first in
    let rest : preorders ts ≡ es = cc in
    rw (← rest, ← head) (tree_in-preorder (tree m ts))

-- the list of some tree is the preorder of the tree that is made of it
pub preorder_again : {N : Type 0} (n : N) (b : ℕ) (es : List (N × ℕ)) → IsPreorder ((n, b) ∷ es) → preorder (tree_in n es) ≡ (n, b) ∷ es
preorder_again n b es some = ap preorder (tree_again some.0 n b es some.1) ∙ some.1

-- the nodes of a tree from a number on, by the nodes below its root
pub behind_by : (t : Tree spec.Node) (r : Node) (xs : List Node) (number before : ℕ) (x : Node) → preorder t ≡ map entry_view (r ∷ xs) → number ≡ suc before
    → before < length xs → x ≡ get_or xs before x → map entry_view (x ∷ take (length xs - number) (drop number xs)) ≡ drop number (preorder t)
behind_by t r xs number before x is next room found =
    let all : take (length xs - number) (drop number xs) ≡ drop number xs = take_all _ _ (omega (arith, length-drop number xs)) in
    let from : drop before xs ≡ x ∷ drop (suc before) xs = drop-cons xs before x room ∙ ap (λ (y : Node). y ∷ drop (suc before) xs) (sym found) in
    let right : drop number (preorder t) ≡ map entry_view (x ∷ drop (suc before) xs) = rw (is, next, drop-map entry_view before xs, from) refl in
    rw (all, right, next) refl

-- of two tests that hold, the first does
pub and_left : (a b : Bool) → (a && b) ≡ true → a ≡ true
and_left true b both = refl
and_left false b both = both

-- of two tests that hold, the second does
pub and_right : (a b : Bool) → (a && b) ≡ true → b ≡ true
and_right true b both = both
and_right false b both = absurd (cc)

-- a test that all pass is passed by all in front
pub all_front : {X : Type 0} (p : X → Bool) (n : ℕ) (xs : List X) → list_all p xs ≡ true → list_all p (take n xs) ≡ true
all_front p n xs all = and_left _ (list_all p (drop n xs)) (sym (list_all-append p (take n xs) (drop n xs)) ∙ ap (list_all p) (take-append-drop n xs) ∙ all)

-- a test that all pass is passed by all that are left
pub all_left : {X : Type 0} (p : X → Bool) (n : ℕ) (xs : List X) → list_all p xs ≡ true → list_all p (drop n xs) ≡ true
all_left p n xs all = and_right (list_all p (take n xs)) _ (sym (list_all-append p (take n xs) (drop n xs)) ∙ ap (list_all p) (take-append-drop n xs) ∙ all)

-- a test of the entries of a list's front
pub any_front : (p : spec.Node → Bool) (n : ℕ) (xs : List Node) → list_any p (map (λ e. e.0) (take n (map entry_view xs))) ≡ list_any (λ x. p (node_view x)) (take n xs)
any_front p n xs = ap (λ (es : List (spec.Node × ℕ)). list_any p (map (λ e. e.0) es)) (take-map entry_view n xs) ∙ any_nodes p (take n xs)

-- the rules of the nodes from a number on are there
pub fit_from : (k : Known) (t : Tree spec.Node) (number : ℕ) (xs : List Node) → map entry_view xs ≡ drop number (preorder t) → fits k t ≡ true
    → list_all (λ n. test_fits k (test_view n.test)) xs ≡ true
fit_from k t number xs is fit =
    let all : list_all (λ n. test_fits k n.test) (drop number (map (λ e. e.0) (preorder t))) ≡ true = all_left (λ n. test_fits k n.test) number (map (λ e. e.0) (preorder t)) fit in
    sym (all_nodes (λ n. test_fits k n.test) xs)
    ∙ ap (λ (es : List (spec.Node × ℕ)). list_all (λ (n : spec.Node). test_fits k n.test) (map (λ e. e.0) es)) is
    ∙ ap (list_all (λ n. test_fits k n.test)) (sym (drop-map (λ (e : spec.Node × ℕ). e.0) number (preorder t))) ∙ all
