-- How a list of spots grows to a tree in preorder.
use Rattle.std.proofs.Common.{◌≡◌, ◌<◌, ◌≤◌, ◌+◌, ◌-◌, ℕ, List, [], ◌∷◌, ◌++◌, Option, Some, map, refl, sym, ap, subst, arith, zero, suc, ◌∙◌, get_or, length, drop, reverse, slice_get, append_assoc, length-append, Vec}
use Rattle.std.proofs.Math.ListN.{set}
use Rattle.std.specs.List.{AllByRecursion, sum}
use Rattle.std.proofs.lemmas.List.Sums.{sum_by-append}
use Rattle.std.specs.declared.alloc.Global.{Global}
use Rattle.std.proofs.lemmas.List.{reverse-append, map-append, append-nil, length-map}
use Rattle.fv_graph.specs.Graph.{IsCyclic, IsBelow, next_of}
use Rattle.fv_graph.specs.Tree.{Hands, Tree, tree, handed, grown, tree_of, listed, all_listed, shown}
use Rattle.fv_graph.specs.Growing.{closed, owed, finished, left}
use Rattle.fv_graph.specs.declared.flatten.Spot.{Spot}
use Rattle.fv_graph.specs.declared.flatten.Branch.{Branch}
use Rattle.fv_graph.specs.Recursion.{value_in}
use Rattle.fv_graph.specs.Weight.{weighed, weight}
use Rattle.fv_graph.proofs.Unfolding.{unfolds}
use Rattle.fv_graph.proofs.Moves.{next_at, taken, spent}

-- lists

all_push : {X : Type 0} (P : X → Type 0) (xs : List X) (x : X) → AllByRecursion P xs → P x → AllByRecursion P (xs ++ x ∷ [])
all_push P [] x all p = (p, tt)
all_push P (y ∷ xs) x all p = (all.0, all_push P xs x all.1 p)

pub all_pushed : {X : Type 0} (P : X → Type 0) (old new : List X) (x : X) → new ≡ old ++ x ∷ [] → AllByRecursion P old → P x → AllByRecursion P new
all_pushed {X} P old new x e all p = subst (λ (l : List X). AllByRecursion P l) (sym e) (all_push P old x all p)

pub all_front : {X : Type 0} (P : X → Type 0) (xs : List X) (x : X) → AllByRecursion P (xs ++ x ∷ []) → AllByRecursion P xs × P x
all_front P [] x all = (tt, all.0)
all_front P (y ∷ xs) x all = (let r = all_front P xs x all.1 in ((all.0, r.0), r.1))

all_more : {X : Type 0} (P Q : X → Type 0) (xs : List X) → ((x : X) → P x → Q x) → AllByRecursion P xs → AllByRecursion Q xs
all_more P Q [] more all = tt
all_more P Q (x ∷ xs) more all = (more x all.0, all_more P Q xs more all.1)

pub one_pushed : {X : Type 0} (old new : List X) (x : X) → old ≡ [] → new ≡ old ++ x ∷ [] → new ≡ x ∷ []
one_pushed {X} old new x none e = e ∙ ap (λ (l : List X). l ++ x ∷ []) none

pub all_at : {X : Type 0} (P : X → Type 0) (xs : List X) (i : ℕ) (x : X) → AllByRecursion P xs → i < length xs → x ≡ get_or xs i x → P x
all_at P [] i x all less e = absurd (omega arith)
all_at P (y ∷ xs) zero x all less e = subst P (sym e) all.0
all_at P (y ∷ xs) (suc i) x all less e = all_at P xs i x all.1 (omega arith) e

get_shown : {X Y : Type 0} (f : X → Y) (xs : List X) (i : ℕ) (x : X) → i < length xs → x ≡ get_or xs i x → slice_get (map f xs) i ≡ Some (f x)
get_shown f [] i x less e = absurd (omega arith)
get_shown {X} {Y} f (y ∷ xs) zero x less e = ap (λ (z : X). Some (f z)) (sym e)
get_shown f (y ∷ xs) (suc i) x less e = get_shown f xs i x (omega arith) e

get_left : {X : Type 0} (xs ys : List X) (i : ℕ) → i < length xs → slice_get (xs ++ ys) i ≡ slice_get xs i
get_left [] ys i less = absurd (omega arith)
get_left (x ∷ xs) ys zero less = refl
get_left (x ∷ xs) ys (suc i) less = get_left xs ys i (omega arith)

get_last : {X : Type 0} (xs : List X) (x : X) → slice_get (xs ++ x ∷ []) (length xs) ≡ Some x
get_last [] x = refl
get_last (y ∷ xs) x = get_last xs x

-- spots that are closed

pub set_closed : {V : Type 0} (spots : List (Spot V)) (at below : ℕ) (spot : Spot V) → at < length spots → spot ≡ get_or spots at spot → below ≡ length spots - at - 1
    → set spots at (record { node = spot.node; value = spot.value; below = below }) ≡ closed at spots
set_closed [] at below spot less e n = absurd (omega arith)
set_closed {V} (s ∷ spots) zero below spot less e n =
    let m : below ≡ length spots = omega arith in
    ap (λ (t : Spot V). record { node = t.node; value = t.value; below = below } ∷ spots) e ∙ ap (λ (k : ℕ). record { node = s.node; value = s.value; below = k } ∷ spots) m
set_closed {V} (s ∷ spots) (suc at) below spot less e n =
    ap (λ (l : List (Spot V)). s ∷ l) (set_closed spots at below spot (omega arith) e (omega arith))

shown_closed : {X V : Type 0} (seen : X → V) (at : ℕ) (spots : List (Spot X)) → map (shown seen) (closed at spots) ≡ closed at (map (shown seen) spots)
shown_closed seen at [] = refl
shown_closed {X} {V} seen zero (s ∷ spots) =
    ap (λ (k : ℕ). record { node = s.node; value = seen s.value; below = k } ∷ map (shown seen) spots) (sym (length-map spots (shown seen)))
shown_closed {X} {V} seen (suc at) (s ∷ spots) = ap (λ (l : List (Spot V)). shown seen s ∷ l) (shown_closed seen at spots)

length_closed : {V : Type 0} (at : ℕ) (spots : List (Spot V)) → length (closed at spots) ≡ length spots
length_closed at [] = refl
length_closed zero (s ∷ spots) = refl
length_closed (suc at) (s ∷ spots) = ap suc (length_closed at spots)

nodes_closed : {V : Type 0} (count at : ℕ) (spots : List (Spot V)) → AllByRecursion (λ s. s.node < count) spots → AllByRecursion (λ s. s.node < count) (closed at spots)
nodes_closed count at [] all = tt
nodes_closed count zero (s ∷ spots) all = all
nodes_closed count (suc at) (s ∷ spots) all = (all.0, nodes_closed count at spots all.1)

pub nodes_kept : {V : Type 0} (count at : ℕ) (old new : List (Spot V)) → new ≡ closed at old → AllByRecursion (λ s. s.node < count) old → AllByRecursion (λ s. s.node < count) new
nodes_kept {V} count at old new e all = subst (λ (l : List (Spot V)). AllByRecursion (λ s. s.node < count) l) (sym e) (nodes_closed count at old all)

pub places_kept : {V : Type 0} (at : ℕ) (old new : List (Spot V)) (stack : List Branch) (b : Branch) → new ≡ closed at old → AllByRecursion (λ c. c.at < length old) (stack ++ b ∷ []) → AllByRecursion (λ c. c.at < length new) stack
places_kept {V} at old new stack b e all =
    let n = ap (λ (l : List (Spot V)). length l) e ∙ length_closed at old in
    all_more (λ (c : Branch). c.at < length old) (λ (c : Branch). c.at < length new) stack (λ c h. omega (arith, n, h)) (all_front (λ (c : Branch). c.at < length old) stack b all).0

pub places_pushed : {V : Type 0} (old new : List (Spot V)) (s : Spot V) (stack stack' stack'' : List Branch) (b : Branch) (end : ℕ) → new ≡ old ++ s ∷ [] → end ≡ length old
    → stack' ≡ stack ++ record { at = b.at; edge = b.edge + 1 } ∷ [] → stack'' ≡ stack' ++ record { at = end; edge = 0 } ∷ []
    → AllByRecursion (λ c. c.at < length old) (stack ++ b ∷ []) → AllByRecursion (λ c. c.at < length new) stack''
places_pushed {V} old new s stack stack' stack'' b end e m p p' all =
    let n = ap (λ (l : List (Spot V)). length l) e ∙ length-append old (s ∷ []) in
    let parts = all_front (λ (c : Branch). c.at < length old) stack b all in
    let P : Branch → Type 0 = λ c. c.at < length new in
    all_pushed P stack' stack'' (record { at = end; edge = 0 }) p'
    (all_pushed P stack stack' (record { at = b.at; edge = b.edge + 1 }) p (all_more (λ (c : Branch). c.at < length old) P stack (λ c h. omega (arith, n, h)) parts.0) (omega (arith, n, parts.1)))
    (omega (arith, n, m))

closed_last : {V : Type 0} (spots more : List (Spot V)) (s : Spot V) → closed (length spots) (spots ++ s ∷ more) ≡ spots ++ record { node = s.node; value = s.value; below = length more } ∷ more
closed_last [] more s = refl
closed_last {V} (x ∷ spots) more s = ap (λ (l : List (Spot V)). x ∷ l) (closed_last spots more s)

-- trees

module _ {V : Type 0} (hands : Hands V) (next : ℕ → List ℕ) (count : ℕ) where
  -- a node, above the trees that its edges lead to
  pub tree_is : (node : ℕ) (v : V) → IsBelow next count → (IsCyclic next → ⊥) → tree_of hands next count node v ≡ tree node v (handed (hands node) v 0 (map (tree_of hands next count) (next node)))
  tree_is node v below acyclic = ap (λ (f : V → _). f v) (unfolds (grown hands) next count below acyclic node)

  handed_len : (f : ℕ → V → Tree V) (w : ℕ → ℕ) (node k : ℕ) (v : V) (js : List ℕ) → ((j : ℕ) (u : V) → length (listed (f j u)) ≡ w j) → length (all_listed (handed (hands node) v k (map f js))) ≡ sum (map w js)
  handed_len f w node k v [] same = refl
  handed_len f w node k v (j ∷ js) same =
      let ih = handed_len f w node (k + 1) v js same in
      let a = length-append (listed (f j (hands node k v))) (all_listed (handed (hands node) v (k + 1) (map f js))) in
      let b = same j (hands node k v) in
      let c = sum_by-append (λ x. x) (w j ∷ []) (map w js) in
      omega (arith, ih, a, b, c)

  len_in : (deep node : ℕ) (v : V) → length (listed (value_in (grown hands) next deep node v)) ≡ value_in (weighed (λ _. 1)) next deep node
  len_in zero node v = omega arith
  len_in (suc deep) node v =
      let h = handed_len (λ j. value_in (grown hands) next deep j) (λ j. value_in (weighed (λ _. 1)) next deep j) node 0 v (next node) (λ j u. len_in deep j u) in
      omega (arith, h)

  -- a tree has as many nodes as its topmost weighs where each weighs one
  pub len_is : (node : ℕ) (v : V) → length (listed (tree_of hands next count node v)) ≡ weight (λ _. 1) next count node
  len_is node v = len_in count node v

  -- a branch of which no edge was taken is listed as its tree
  starts : (spots : List (Spot V)) (node : ℕ) (v : V) → IsBelow next count → (IsCyclic next → ⊥)
      → closed (length spots) ((spots ++ record { node = node; value = v; below = 0 } ∷ []) ++ owed hands next count 0 (slice_get (spots ++ record { node = node; value = v; below = 0 } ∷ []) (length spots)))
      ≡ spots ++ listed (tree_of hands next count node v)
  starts spots node v below acyclic =
      let s : Spot V = record { node = node; value = v; below = 0 } in
      let kids : List (Spot V) = owed hands next count 0 (Some s) in
      ap (λ (o : Option (Spot V)). closed (length spots) ((spots ++ s ∷ []) ++ owed hands next count 0 o)) (get_last spots s)
      ∙ ap (λ (l : List (Spot V)). closed (length spots) l) (append_assoc spots (s ∷ []) kids)
      ∙ closed_last spots kids s
      ∙ ap (λ (t : _). spots ++ listed t) (sym (tree_is node v below acyclic))

  -- an edge is taken
  pub edge_step : (spots : List (Spot V)) (branches : List Branch) (b : Branch) (spot : Spot V) (j : ℕ) → IsBelow next count → (IsCyclic next → ⊥)
      → b.at < length spots → slice_get spots b.at ≡ Some spot → drop b.edge (next spot.node) ≡ j ∷ drop (b.edge + 1) (next spot.node)
      → finished hands next count (spots ++ record { node = j; value = hands spot.node b.edge spot.value; below = 0 } ∷ []) (record { at = length spots; edge = 0 } ∷ record { at = b.at; edge = b.edge + 1 } ∷ branches)
      ≡ finished hands next count spots (b ∷ branches)
  edge_step spots branches b spot j below acyclic less is d =
      let t = tree_of hands next count j (hands spot.node b.edge spot.value) in
      let after : List (Spot V) = owed hands next count (b.edge + 1) (Some spot) in
      let s = starts spots j (hands spot.node b.edge spot.value) below acyclic in
      let o : owed hands next count b.edge (Some spot) ≡ listed t ++ after =
      ap (λ (l : List ℕ). all_listed (handed (hands spot.node) spot.value b.edge (map (tree_of hands next count) l))) d in
      ap (λ (l : List (Spot V)). finished hands next count (closed b.at (l ++ owed hands next count (b.edge + 1) (slice_get l b.at))) branches) s
      ∙ ap (λ (o : Option (Spot V)). finished hands next count (closed b.at ((spots ++ listed t) ++ owed hands next count (b.edge + 1) o)) branches) (get_left spots (listed t) b.at less ∙ is)
      ∙ ap (λ (l : List (Spot V)). finished hands next count (closed b.at l) branches) (append_assoc spots (listed t) after)
      ∙ ap (λ (l : List (Spot V)). finished hands next count (closed b.at (spots ++ l)) branches) (sym o)
      ∙ ap (λ (o : Option (Spot V)). finished hands next count (closed b.at (spots ++ owed hands next count b.edge o)) branches) (sym is)

  -- a branch with no edge left is closed
  pub last_step : (spots : List (Spot V)) (branches : List Branch) (b : Branch) (spot : Spot V)
      → slice_get spots b.at ≡ Some spot → drop b.edge (next spot.node) ≡ []
      → finished hands next count (closed b.at spots) branches ≡ finished hands next count spots (b ∷ branches)
  last_step spots branches b spot is d =
      let o : owed hands next count b.edge (slice_get spots b.at) ≡ [] =
      ap (λ (o : Option (Spot V)). owed hands next count b.edge o) is ∙ ap (λ (l : List ℕ). all_listed (handed (hands spot.node) spot.value b.edge (map (tree_of hands next count) l))) d in
      sym (ap (λ (l : List (Spot V)). finished hands next count (closed b.at (spots ++ l)) branches) o
      ∙ ap (λ (l : List (Spot V)). finished hands next count (closed b.at l) branches) (append-nil spots))

  -- what is finished is no shorter
  finished_longer : (spots : List (Spot V)) (branches : List Branch) → length spots ≤ length (finished hands next count spots branches)
  finished_longer spots [] = omega arith
  finished_longer spots (b ∷ branches) =
      let more = owed hands next count b.edge (slice_get spots b.at) in
      let ih = finished_longer (closed b.at (spots ++ more)) branches in
      let c = length_closed b.at (spots ++ more) in
      let a = length-append spots more in
      omega (arith, ih, c, a)

  pub edge_left : (spots spots' : List (Spot V)) (branches branches' : List Branch) → finished hands next count spots' branches' ≡ finished hands next count spots branches
      → length spots' ≡ length spots + 1 → length branches' ≡ length branches + 1 → left hands next count spots' branches' < left hands next count spots branches
  edge_left spots spots' branches branches' same s b =
      let l = ap (λ (x : List (Spot V)). length x) same in
      let long = finished_longer spots' branches' in
      omega (arith, l, long)

  pub last_left : (spots spots' : List (Spot V)) (branches branches' : List Branch) → finished hands next count spots' branches' ≡ finished hands next count spots branches
      → length spots' ≡ length spots → length branches ≡ length branches' + 1 → left hands next count spots' branches' < left hands next count spots branches
  last_left spots spots' branches branches' same s b =
      let l = ap (λ (x : List (Spot V)). length x) same in
      omega (arith, l)

-- the same steps on what the code holds

module _ {X V : Type 0} (seen : X → V) (hands : Hands V) (edges : List (Vec ℕ Global)) where
  -- what the spots become
  abbrev pub becomes : List (Spot X) → List Branch → List (Spot V)
  becomes spots stack = finished hands (next_of edges) (length edges) (map (shown seen) spots) (reverse stack)

  -- a bound on the steps left
  abbrev pub steps : List (Spot X) → List Branch → ℕ
  steps spots stack = left hands (next_of edges) (length edges) (map (shown seen) spots) (reverse stack)

  pub last_move : (old new : List (Spot X)) (stack : List Branch) (b : Branch) (spot : Spot X) (v : Vec ℕ Global)
      → b.at < length old → spot ≡ get_or old b.at spot → spot.node < length edges → v ≡ get_or edges spot.node v → length v.items ≤ b.edge → new ≡ closed b.at old
      → (becomes new stack ≡ becomes old (stack ++ b ∷ [])) × (steps new stack < steps old (stack ++ b ∷ []))
  last_move old new stack b spot v less is small at more e =
      let r : reverse (stack ++ b ∷ []) ≡ b ∷ reverse stack = reverse-append stack (b ∷ []) in
      let n : map (shown seen) new ≡ closed b.at (map (shown seen) old) = ap (λ (l : List (Spot X)). map (shown seen) l) e ∙ shown_closed seen b.at old in
      let d : drop b.edge (next_of edges spot.node) ≡ [] = ap (λ (l : List ℕ). drop b.edge l) (next_at edges spot.node v small at) ∙ spent v.items b.edge more in
      let same = ap (λ (l : List (Spot V)). finished hands (next_of edges) (length edges) l (reverse stack)) n
      ∙ last_step hands (next_of edges) (length edges) (map (shown seen) old) (reverse stack) b (shown seen spot) (get_shown (shown seen) old b.at spot less is) d
      ∙ sym (ap (λ (l : List Branch). finished hands (next_of edges) (length edges) (map (shown seen) old) l) r) in
      let s = ap (λ (l : List (Spot V)). length l) n ∙ length_closed b.at (map (shown seen) old) in
      let t = ap (λ (l : List Branch). length l) r in (
        same,
        last_left hands (next_of edges) (length edges) (map (shown seen) old) (map (shown seen) new) (reverse (stack ++ b ∷ [])) (reverse stack) same s (omega (arith, t)),
      )

  pub edge_move : (old new : List (Spot X)) (stack stack' stack'' : List Branch) (b : Branch) (spot : Spot X) (v : Vec ℕ Global) (j end : ℕ) (made : X)
      → IsBelow (next_of edges) (length edges) → (IsCyclic (next_of edges) → ⊥)
      → b.at < length old → spot ≡ get_or old b.at spot → spot.node < length edges → v ≡ get_or edges spot.node v → b.edge < length v.items → j ≡ get_or v.items b.edge j
      → seen made ≡ hands spot.node b.edge (seen spot.value) → end ≡ length old
      → stack' ≡ stack ++ record { at = b.at; edge = b.edge + 1 } ∷ [] → stack'' ≡ stack' ++ record { at = end; edge = 0 } ∷ [] → new ≡ old ++ record { node = j; value = made; below = 0 } ∷ []
      → (becomes new stack'' ≡ becomes old (stack ++ b ∷ [])) × (steps new stack'' < steps old (stack ++ b ∷ []))
  edge_move old new stack stack' stack'' b spot v j end made below acyclic less is small at more q h m p p' e =
      let r : reverse (stack ++ b ∷ []) ≡ b ∷ reverse stack = reverse-append stack (b ∷ []) in
      let on : Branch = record { at = b.at; edge = b.edge + 1 } in
      let r' : reverse stack'' ≡ record { at = length (map (shown seen) old); edge = 0 } ∷ on ∷ reverse stack =
      ap (λ (l : List Branch). reverse l) p' ∙ reverse-append stack' (record { at = end; edge = 0 } ∷ [])
      ∙ ap (λ (k : ℕ). record { at = k; edge = 0 } ∷ reverse stack') (m ∙ sym (length-map old (shown seen)))
      ∙ ap (λ (l : List Branch). record { at = length (map (shown seen) old); edge = 0 } ∷ reverse l) p
      ∙ ap (λ (l : List Branch). record { at = length (map (shown seen) old); edge = 0 } ∷ l) (reverse-append stack (on ∷ [])) in
      let n : map (shown seen) new ≡ map (shown seen) old ++ record { node = j; value = hands spot.node b.edge (seen spot.value); below = 0 } ∷ [] =
      ap (λ (l : List (Spot X)). map (shown seen) l) e ∙ map-append (shown seen) old (record { node = j; value = made; below = 0 } ∷ [])
      ∙ ap (λ (x : V). map (shown seen) old ++ record { node = j; value = x; below = 0 } ∷ []) h in
      let d : drop b.edge (next_of edges spot.node) ≡ j ∷ drop (b.edge + 1) (next_of edges spot.node) =
      subst (λ (l : List ℕ). drop b.edge l ≡ j ∷ drop (b.edge + 1) l) (sym (next_at edges spot.node v small at)) (taken v.items b.edge j more q) in
      let same = ap (λ (l : List (Spot V)). finished hands (next_of edges) (length edges) l (reverse stack'')) n
      ∙ ap (λ (l : List Branch). finished hands (next_of edges) (length edges) (map (shown seen) old ++ record { node = j; value = hands spot.node b.edge (seen spot.value); below = 0 } ∷ []) l) r'
      ∙ edge_step hands (next_of edges) (length edges) (map (shown seen) old) (reverse stack) b (shown seen spot) j below acyclic (omega (arith, less, length-map old (shown seen))) (get_shown (shown seen) old b.at spot less is) d
      ∙ sym (ap (λ (l : List Branch). finished hands (next_of edges) (length edges) (map (shown seen) old) l) r) in
      let s = ap (λ (l : List (Spot V)). length l) n ∙ length-append (map (shown seen) old) (record { node = j; value = hands spot.node b.edge (seen spot.value); below = 0 } ∷ []) in
      let t = ap (λ (l : List Branch). length l) r in
      let u = ap (λ (l : List Branch). length l) r' in (
        same,
        edge_left hands (next_of edges) (length edges) (map (shown seen) old) (map (shown seen) new) (reverse (stack ++ b ∷ [])) (reverse stack'') same (omega (arith, s)) (omega (arith, t, u)),
      )

  -- the root alone, of which no edge was taken
  pub begins_as : (spots : List (Spot X)) (stack : List Branch) (root : ℕ) (value : X) → IsBelow (next_of edges) (length edges) → (IsCyclic (next_of edges) → ⊥)
      → spots ≡ record { node = root; value = value; below = 0 } ∷ [] → stack ≡ record { at = 0; edge = 0 } ∷ []
      → becomes spots stack ≡ listed (tree_of hands (next_of edges) (length edges) root (seen value))
  begins_as spots stack root value below acyclic e p =
      ap (λ (l : List (Spot X)). becomes l stack) e ∙ ap (λ (l : List Branch). becomes (record { node = root; value = value; below = 0 } ∷ []) l) p
      ∙ starts hands (next_of edges) (length edges) [] root (seen value) below acyclic
