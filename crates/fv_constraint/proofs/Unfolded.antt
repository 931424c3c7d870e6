-- The trees of constraints, out of the trees that the graph of the definitions unfolds to.
use Rattle.std.proofs.Common.{◌≡◌, ◌<◌, ◌+◌, ℕ, suc, zero, List, [], ◌∷◌, ◌++◌, map, length, drop, get_or, min, cond, Bool, true, false, not, Option, Some, None, is_some, Vec, refl, sym, ap, subst, ◌∙◌, arith, All, length-append}
use Rattle.std.specs.declared.alloc.Global.{Global}
use Rattle.std.specs.List.{slice_get, AllByRecursion, list_any, sum}
use Rattle.std.specs.Option.{option_map_or, unwrap_or}
use Rattle.std.proofs.lemmas.Bool.{or_parts}
use Rattle.std.proofs.lemmas.List.{map-append, drop-drop}
use Rattle.std.proofs.lemmas.List.Sums.{sum_by-cons}
use Rattle.fv_builtin.specs.Names.{builtin_named}
use Rattle.fv_builtin.specs.declared.name.BuiltinName.{BuiltinName}
use Rattle.fv_datum.specs.Attributes.{AttributeValue, Attributes}
use Rattle.fv_datum.specs.Lookup.{at_name}
use Rattle.fv_graph.specs.Graph.{IsBelow, AreWithin, next_of}
use Rattle.fv_graph.specs.Graph as graph
use Rattle.fv_graph.specs.Tree as unfolded
use Rattle.fv_graph.specs.Weight.{weight, weighed, own_of, AreWeights}
use Rattle.fv_graph.specs.declared.flatten.Spot.{Spot}
use Rattle.fv_graph.proofs.Moves.{is_below}
use Rattle.fv_graph.proofs.Unfolding.{unfolds}
use Rattle.fv_graph.proofs.Growth.{tree_is}
use Rattle.fv_constraint.specs.Composed.{Planned, IsTreeOf, AreTreesOf}
use Rattle.fv_declare_definition.specs.Definitions.{Composing, Definition, Definitions}
use Rattle.fv_constraint.specs.Meanings.{Meant, builtin, declared, either_meant, meant_by, meant_composing, composes_unknown}
use Rattle.fv_constraint.specs.Effect.{effective}
use Rattle.fv_constraint.specs.Numbered.{number_of, numbers_of, edges_of, handed_map, composing_at, IsNumbered}
use Rattle.fv_constraint_tree.specs.Preorder.{preorder, preorders}
use Rattle.fv_constraint_tree.specs.Trees.{Tree, tree, Trees, none, more, size, sizes}
use Rattle.fv_constraint.proofs.Cycles.{cyclic_in, cyclic_out}
use Rattle.fv_constraint.proofs.Handed.{handed_map_is}
use Rattle.fv_constraint.proofs.Numbering.{next_is, number_within}

-- ---- the graph

to_all : {X : Type 0} (P : X → Type 0) (xs : List X) → AllByRecursion P xs → (k : ℕ) (d : X) → k < length xs → P (get_or xs k d)
to_all P [] all k d less = absurd (omega arith)
to_all P (x ∷ xs) all zero d less = all.0
to_all P (x ∷ xs) all (suc k) d less = to_all P xs all.1 k d (omega arith)

small_numbers : (ds : Definitions) (count : ℕ) (cs : List Composing) → length ds < count → AllByRecursion (λ j. j < count) (numbers_of ds cs)
small_numbers ds count [] less = tt
small_numbers ds count (c ∷ cs) less = (omega (arith, number_within ds c.constraint), small_numbers ds count cs less)

small_rows : (ds es : Definitions) (count : ℕ) → length ds < count → AllByRecursion (λ js. AllByRecursion (λ j. j < count) js) (map (λ d. numbers_of ds d.1.composing) es ++ [] ∷ [])
small_rows ds [] count less = (tt, tt)
small_rows ds (d ∷ es) count less = (small_numbers ds count d.1.composing less, small_rows ds es count less)

small_edges : (count : ℕ) (edges : List (Vec ℕ Global)) → AllByRecursion (λ js. AllByRecursion (λ j. j < count) js) (map (λ nodes. nodes.items) edges)
    → AllByRecursion (λ nodes. All (λ j. j < count) nodes.items) edges
small_edges count [] all = tt
small_edges count (v ∷ edges) all = (to_all (λ j. j < count) v.items all.0, small_edges count edges all.1)

length_items : (edges : List (Vec ℕ Global)) → length (map (λ nodes. nodes.items) edges) ≡ length edges
length_items [] = refl
length_items (v ∷ edges) = ap suc (length_items edges)

length_rows : (ds es : Definitions) → length (map (λ d. numbers_of ds d.1.composing) es ++ [] ∷ []) ≡ length es + 1
length_rows ds [] = refl
length_rows ds (d ∷ es) = let h = length_rows ds es in omega arith

pub edge_count : (ds : Definitions) (edges : List (Vec ℕ Global)) → map (λ nodes. nodes.items) edges ≡ edges_of ds → length edges ≡ length ds + 1
edge_count ds edges are = sym (length_items edges) ∙ ap length are ∙ length_rows ds ds

pub are_within : (ds : Definitions) (edges : List (Vec ℕ Global)) → map (λ nodes. nodes.items) edges ≡ edges_of ds → AreWithin edges
are_within ds edges are =
    let count = edge_count ds edges are in
    let rows : AllByRecursion (λ js. AllByRecursion (λ j. j < length edges) js) (map (λ nodes. nodes.items) edges) =
    rw are (small_rows ds ds (length edges) (omega (arith, count))) in
    to_all (λ (nodes : Vec ℕ Global). All (λ j. j < length edges) nodes.items) edges (small_edges (length edges) edges rows)

-- ---- what definitions are composed of is known

abbrev is_unknown : Definitions → Composing → Bool
is_unknown ds c = not (is_some (meant_by ds c.constraint))

found_known : (p : Definition → Bool) (name : List ℕ) (d : Definition) (es : Definitions) → at_name name es ≡ Some d → list_any (λ e. p e.1) es ≡ false → p d ≡ false
found_known p name d [] found known = absurd (cc)
found_known p name d (e ∷ es) found known = go _ found (found_known p name d es) (or_parts (p e.1) (list_any (λ f. p f.1) es) known).0 (or_parts (p e.1) (list_any (λ f. p f.1) es) known).1
  where
    go : (b : Bool) → cond b (Some e.1) (at_name name es) ≡ Some d → (at_name name es ≡ Some d → list_any (λ f. p f.1) es ≡ false → p d ≡ false)
        → p e.1 ≡ false → list_any (λ f. p f.1) es ≡ false → p d ≡ false
    go true is ih here later = let same : e.1 ≡ d = cc in subst (λ (x : Definition). p x ≡ false) same here
    go false is ih here later = ih is later

meant_known : (ds : Definitions) (which : Option BuiltinName) (found : Option Definition) (m : Meant) → ((d : Definition) → found ≡ Some d → list_any (is_unknown ds) d.composing ≡ false)
    → either_meant which found ≡ Some m → list_any (is_unknown ds) (meant_composing m) ≡ false
meant_known ds which found (builtin w) known is = refl
meant_known ds (Some w) found (declared d) known is = absurd (cc)
meant_known ds None None (declared d) known is = absurd (cc)
meant_known ds None (Some e) (declared d) known is = let same : e ≡ d = cc in known d (ap (λ x. Some x) same)

all_known : (ds : Definitions) (name : List ℕ) (m : Meant) → composes_unknown ds ≡ false → meant_by ds name ≡ Some m → list_any (is_unknown ds) (meant_composing m) ≡ false
all_known ds name m known is =
    meant_known ds (builtin_named name) (at_name name ds) m (λ d found. found_known (λ e. list_any (is_unknown ds) e.composing) name d ds found known) is

-- ---- sizes

module _ (ds : Definitions) (edges : List (Vec ℕ Global)) (are : map (λ nodes. nodes.items) edges ≡ edges_of ds) (acyclic : graph.IsCyclic (next_of edges) → ⊥) where
  -- what follows the node of a constraint with a meaning
  next_meant : (name : List ℕ) (m : Meant) → meant_by ds name ≡ Some m → next_of edges (number_of ds name) ≡ map (number_of ds) (map (λ c. c.constraint) (meant_composing m))
  next_meant name m is = next_is ds edges are name ∙ ap (λ o. map (number_of ds) (map (λ c. c.constraint) (option_map_or meant_composing o []))) is

  module _ (own : ℕ → ℕ) (ones : (i : ℕ) → i < length edges → own i ≡ 1) where
    mutual
      -- a constraint's node weighs what its trees have nodes
      pub tree_size : (t : Tree Planned) (name : List ℕ) (own_text : Option (List ℕ)) (given : Attributes) → IsTreeOf ds name own_text given t → weight own (next_of edges) (length edges) (number_of ds name) ≡ size t
      tree_size (tree p below) name own_text given is =
          let w = unfolds (weighed own) (next_of edges) (length edges) (is_below edges (are_within ds edges are)) acyclic (number_of ds name) in
          let next = ap (λ js. sum (map (weight own (next_of edges) (length edges)) js)) (next_meant name p.meant is.1) in
          let kids = trees_size below (meant_composing p.meant) (effective p.meant given) is.4 in
          let one = ones (number_of ds name) (omega (arith, number_within ds name, edge_count ds edges are)) in
          omega (arith, w, next, kids, one)

      trees_size : (ts : Trees Planned) (cs : List Composing) (above : List ℕ → Option AttributeValue) → AreTreesOf ds cs above ts
          → sum (map (weight own (next_of edges) (length edges)) (map (number_of ds) (map (λ c. c.constraint) cs))) ≡ sizes ts
      trees_size none [] above are_trees = refl
      trees_size none (c ∷ cs) above are_trees = absurd are_trees
      trees_size (more t ts) [] above are_trees = absurd are_trees
      trees_size (more t ts) (c ∷ cs) above are_trees =
          let first = tree_size t c.constraint c.message are_trees.0.0 are_trees.0.2 in
          let others = trees_size ts cs above are_trees.1 in
          let both = sum_by-cons (λ x. x) (weight own (next_of edges) (length edges) (number_of ds c.constraint)) (map (weight own (next_of edges) (length edges)) (map (number_of ds) (map (λ d. d.constraint) cs))) in
          omega (arith, first, others, both)

-- the weights that were found are the sizes
pub numbered : (ds : Definitions) (edges : List (Vec ℕ Global)) (own sizes : List ℕ) → map (λ nodes. nodes.items) edges ≡ edges_of ds → composes_unknown ds ≡ false
    → ((i : ℕ) → i < length edges → own_of own i ≡ 1) → (graph.IsCyclic (next_of edges) → ⊥) → AreWeights (own_of own) (next_of edges) (length edges) 1025 sizes
    → IsNumbered ds (map (λ nodes. nodes.items) edges) sizes
numbered ds edges own sizes are known ones acyclic weights = record {
  known = known;
  acyclic = λ cycle. acyclic (cyclic_in ds edges are cycle);
  edges_are = are;
  each = weights.0 ∙ sym (length_items edges);
  sized = λ name own_text given t is.
      weights.1 (number_of ds name) (omega (arith, number_within ds name, edge_count ds edges are)) ∙ ap (min 1025) (tree_size ds edges are acyclic (own_of own) ones t name own_text given is);
}

-- ---- trees

abbrev mutual
  -- a tree without the numbers of nodes
  pub stripped : {V : Type 0} → unfolded.Tree V → Tree V
  stripped (unfolded.tree i v below) = tree v (stripped_all below)

  pub stripped_all : {V : Type 0} → unfolded.Trees V → Trees V
  stripped_all unfolded.no_tree = none
  stripped_all (unfolded.tree_and t ts) = more (stripped t) (stripped_all ts)

-- a spot as a node with how many stand below it
abbrev pub entry_of : {V : Type 0} → Spot V → V × ℕ
entry_of s = (s.value, s.below)

mutual
  -- a tree as the graph lists it is its preorder
  pub listed_is : {V : Type 0} (t : unfolded.Tree V) → map entry_of (unfolded.listed t) ≡ preorder (stripped t)
  listed_is (unfolded.tree i v below) = ap (λ n. (v, n) ∷ map entry_of (unfolded.all_listed below)) (length_listed below) ∙ ap (λ es. (v, sizes (stripped_all below)) ∷ es) (all_listed_is below)

  all_listed_is : {V : Type 0} (ts : unfolded.Trees V) → map entry_of (unfolded.all_listed ts) ≡ preorders (stripped_all ts)
  all_listed_is unfolded.no_tree = refl
  all_listed_is (unfolded.tree_and t ts) =
      map-append entry_of (unfolded.listed t) (unfolded.all_listed ts) ∙ ap (λ es. es ++ map entry_of (unfolded.all_listed ts)) (listed_is t) ∙ ap (λ es. preorder (stripped t) ++ es) (all_listed_is ts)

  length_listed : {V : Type 0} (ts : unfolded.Trees V) → length (unfolded.all_listed ts) ≡ sizes (stripped_all ts)
  length_listed unfolded.no_tree = refl
  length_listed (unfolded.tree_and (unfolded.tree i v below) ts) =
      let kids = length_listed below in
      let others = length_listed ts in
      let both = length-append (unfolded.listed (unfolded.tree i v below)) (unfolded.all_listed ts) in
      omega (arith, kids, others, both)

-- what a composing constraint is handed
abbrev pub hands_of : Definitions → ℕ → ℕ → Planned → Planned
hands_of ds node edge p = composing_at ds p (slice_get (meant_composing p.meant) edge)

some_of : {X : Type 0} (o : Option X) → not (is_some o) ≡ false → (x : X) × (o ≡ Some x)
some_of None e = absurd (cc)
some_of (Some x) e = (x, refl)

get_first : {X : Type 0} (xs : List X) (k : ℕ) (x : X) (rest : List X) → drop k xs ≡ x ∷ rest → slice_get xs k ≡ Some x
get_first [] zero x rest e = absurd (cc)
get_first [] (suc k) x rest e = absurd (cc)
get_first (y ∷ xs) zero x rest e = let same : y ≡ x = cc in ap (λ z. Some z) same
get_first (y ∷ xs) (suc k) x rest e = get_first xs k x rest e

drop_next : {X : Type 0} (xs : List X) (k : ℕ) (x : X) (rest : List X) → drop k xs ≡ x ∷ rest → drop (k + 1) xs ≡ rest
drop_next xs k x rest e = ap (λ n. drop n xs) (omega arith) ∙ sym (drop-drop 1 k xs) ∙ ap (drop 1) e

module _ (ds : Definitions) (edges : List (Vec ℕ Global)) (are : map (λ nodes. nodes.items) edges ≡ edges_of ds) (acyclic : graph.IsCyclic (next_of edges) → ⊥) (known : composes_unknown ds ≡ false) where
  -- the tree that a constraint's node unfolds to
  abbrev pub tree_at : Planned → unfolded.Tree Planned
  tree_at p = unfolded.tree_of (hands_of ds) (next_of edges) (length edges) (number_of ds p.constraint) p

  abbrev trees_at : ℕ → Planned → ℕ → List Composing → unfolded.Trees Planned
  trees_at node p k cs = unfolded.handed (hands_of ds node) p k (map (unfolded.tree_of (hands_of ds) (next_of edges) (length edges)) (map (number_of ds) (map (λ c. c.constraint) cs)))

  tree_at_is : (p : Planned) → meant_by ds p.constraint ≡ Some p.meant → tree_at p ≡ unfolded.tree (number_of ds p.constraint) p (trees_at (number_of ds p.constraint) p 0 (meant_composing p.meant))
  tree_at_is p is =
      tree_is (hands_of ds) (next_of edges) (length edges) (number_of ds p.constraint) p (is_below edges (are_within ds edges are)) acyclic
      ∙ ap (λ js. unfolded.tree (number_of ds p.constraint) p (unfolded.handed (hands_of ds (number_of ds p.constraint)) p 0 (map (unfolded.tree_of (hands_of ds) (next_of edges) (length edges)) js)))
      (next_meant ds edges are acyclic p.constraint p.meant is)

  -- what is handed to a composing constraint that is known
  handed_is : (node k : ℕ) (p : Planned) (c : Composing) (m : Meant) → slice_get (meant_composing p.meant) k ≡ Some c → meant_by ds c.constraint ≡ Some m
      → hands_of ds node k p ≡ record { constraint = c.constraint; meant = m; own = c.message; given = handed_map c (effective p.meant p.given) }
  handed_is node k p c m here is =
      ap (composing_at ds p) here
      ∙ ap (λ o. record { constraint = c.constraint; meant = unwrap_or o p.meant; own = c.message; given = handed_map c (effective p.meant p.given) }) is

  mutual
    -- the tree that a constraint's node unfolds to is the constraint's
    pub is_tree : (t : unfolded.Tree Planned) (p : Planned) → meant_by ds p.constraint ≡ Some p.meant → t ≡ tree_at p → IsTreeOf ds p.constraint p.own p.given (stripped t)
    is_tree (unfolded.tree i v below) p is e =
        let all = e ∙ tree_at_is p is in
        let same : v ≡ p = cc in
        let kids : below ≡ trees_at (number_of ds p.constraint) p 0 (meant_composing p.meant) = cc in
        let rest = are_trees below p (number_of ds p.constraint) (meant_composing p.meant) 0 refl (all_known ds p.constraint p.meant known is) kids in
        subst (λ (w : Planned). IsTreeOf ds p.constraint p.own p.given (tree w (stripped_all below))) (sym same) (refl, is, refl, refl, rest)

    are_trees : (ts : unfolded.Trees Planned) (p : Planned) (node : ℕ) (cs : List Composing) (k : ℕ) → drop k (meant_composing p.meant) ≡ cs → list_any (is_unknown ds) cs ≡ false
        → ts ≡ trees_at node p k cs → AreTreesOf ds cs (effective p.meant p.given) (stripped_all ts)
    are_trees unfolded.no_tree p node [] k here all e = tt
    are_trees unfolded.no_tree p node (c ∷ cs) k here all e = absurd (cc)
    are_trees (unfolded.tree_and t ts) p node [] k here all e = absurd (cc)
    are_trees (unfolded.tree_and t ts) p node (c ∷ cs) k here all e =
        let parts = or_parts (is_unknown ds c) (list_any (is_unknown ds) cs) all in
        let m = some_of (meant_by ds c.constraint) parts.0 in
        let q : Planned = record { constraint = c.constraint; meant = m.0; own = c.message; given = handed_map c (effective p.meant p.given) } in
        let made : t ≡ unfolded.tree_of (hands_of ds) (next_of edges) (length edges) (number_of ds c.constraint) (hands_of ds node k p) = cc in
        let first = made ∙ ap (unfolded.tree_of (hands_of ds) (next_of edges) (length edges) (number_of ds c.constraint)) (handed_is node k p c m.0 (get_first (meant_composing p.meant) k c cs here) m.1) in
        let others : ts ≡ trees_at node p (k + 1) cs = cc in
        ((q.given, handed_map_is c (effective p.meant p.given), is_tree t q m.1 first), are_trees ts p node cs (k + 1) (drop_next (meant_composing p.meant) k c cs here) parts.1 others)

  -- there is a tree of each constraint that is known
  pub tree_exists : (name : List ℕ) (own : Option (List ℕ)) (given : Attributes) → is_some (meant_by ds name) ≡ true → (t : Tree Planned) × IsTreeOf ds name own given t
  tree_exists name own given is =
      let m = some_of (meant_by ds name) (ap not is) in
      let p : Planned = record { constraint = name; meant = m.0; own = own; given = given } in
      (stripped (tree_at p), is_tree (tree_at p) p m.1 refl)

-- spots as they are seen
pub entries_shown : {X V : Type 0} (seen : X → V) (spots : List (Spot X)) → map (λ s. (seen s.value, s.below)) spots ≡ map entry_of (map (unfolded.shown seen) spots)
entries_shown seen [] = refl
entries_shown seen (s ∷ spots) = ap (λ es. (seen s.value, s.below) ∷ es) (entries_shown seen spots)

-- the same of what a composition keeps
module _ (ds : Definitions) (edges : List (Vec ℕ Global)) (sizes : List ℕ) (kept : IsNumbered ds (map (λ nodes. nodes.items) edges) sizes) where
  pub no_cycle : graph.IsCyclic (next_of edges) → ⊥
  no_cycle cycle = kept.acyclic (cyclic_out ds edges kept.edges_are cycle)

  pub node_within : (name : List ℕ) → number_of ds name < length sizes
  node_within name = omega (arith, number_within ds name, kept.each, ap length kept.edges_are, length_rows ds ds)

  pub root_within : (name : List ℕ) → number_of ds name < length edges
  root_within name = omega (arith, number_within ds name, edge_count ds edges kept.edges_are)

  pub kept_within : AreWithin edges
  kept_within = are_within ds edges kept.edges_are

  pub kept_tree : (name : List ℕ) (own : Option (List ℕ)) (given : Attributes) → is_some (meant_by ds name) ≡ true → (t : Tree Planned) × IsTreeOf ds name own given t
  kept_tree name own given is = tree_exists ds edges kept.edges_are no_cycle kept.known name own given is

  -- what is listed from a constraint's node is the preorder of its tree
  pub kept_plan : {X : Type 0} (seen : X → Planned) (spots : List (Spot X)) (p : Planned) → meant_by ds p.constraint ≡ Some p.meant
      → map (unfolded.shown seen) spots ≡ unfolded.listed (unfolded.tree_of (hands_of ds) (next_of edges) (length edges) (number_of ds p.constraint) p)
      → (t : Tree Planned) × IsTreeOf ds p.constraint p.own p.given t × (map (λ s. (seen s.value, s.below)) spots ≡ preorder t)
  kept_plan seen spots p is listed =
      let t = unfolded.tree_of (hands_of ds) (next_of edges) (length edges) (number_of ds p.constraint) p in
      (stripped t, is_tree ds edges kept.edges_are no_cycle kept.known t p is refl, entries_shown seen spots ∙ ap (map entry_of) listed ∙ listed_is t)
