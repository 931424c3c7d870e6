-- The tree below a state is a node over the trees below the states that it leads to; and its visits.
use Rattle.std.proofs.Common.{◌≡◌, ℕ, zero, suc, ◌+◌, ◌<◌, List, [], ◌∷◌, ◌⊎◌, inl, inr, refl, sym, ap, ◌∙◌, subst, arith, true, false, Some, slice_get}
use Rattle.fv_graph.specs.Graph.{IsIn}
use Rattle.fv_walk_traces.specs.Tree.{Node, Open, Ranked, IsVisitIn, IsVisitOfChoices, IsVisitOfRanks}
use Rattle.fv_walk_traces.specs.Turns.{Turn, Free, Rank}
use Rattle.fv_walk_traces.specs.Unfold.{Options, Fails, Any, InOrder, LeadsTo, VisitFrom, IsVisitPoint, Falls, choices_of, ranks_of, node_of, tree_of, tree_below}

same_choices : {A S : Type 0} (f g : S → Node A) (choices : List (A × S)) → ((a : A) (s : S) → IsIn choices (a, s) → f s ≡ g s) → choices_of f choices ≡ choices_of g choices
same_choices f g [] h = refl
same_choices f g (c ∷ choices) h =
    let e = h c.0 c.1 (inl refl) in
    let ih = same_choices f g choices (λ a s k. h a s (inr k)) in
    cc

same_ranks : {A S : Type 0} (f g : S → Node A) (states : List S) → ((i : ℕ) (s : S) → slice_get states i ≡ Some s → f s ≡ g s) → ranks_of f states ≡ ranks_of g states
same_ranks f g [] h = refl
same_ranks f g (s ∷ states) h =
    let e = h 0 s refl in
    let ih = same_ranks f g states (λ i z k. h (suc i) z k) in
    cc

same_node : {A S : Type 0} (f g : S → Node A) (options : Options A S) → ((turn : Turn A) (s : S) → LeadsTo options turn s → f s ≡ g s) → node_of f options ≡ node_of g options
same_node f g Fails h = refl
same_node f g (Any is_visit choices) h = ap (λ c. Open is_visit c) (same_choices f g choices (λ a s k. h (Free a) s k))
same_node f g (InOrder states) h = ap (λ r. Ranked r) (same_ranks f g states (λ i s k. h (Rank i) s k))

pub any_depth : {A S : Type 0} (next : S → Options A S) (size : S → ℕ) → Falls next size → (one other : ℕ) (state : S) → size state < one → size state < other → tree_of next one state ≡ tree_of next other state
any_depth next size falls zero other state less more = absurd (omega arith)
any_depth next size falls (suc one) zero state less more = absurd (omega arith)
any_depth next size falls (suc one) (suc other) state less more =
    same_node (tree_of next one) (tree_of next other) (next state)
    (λ turn s k. let f = falls state s turn k in any_depth next size falls one other s (omega (arith, f)) (omega (arith, f)))

pub tree_unfolds : {A S : Type 0} (next : S → Options A S) (size : S → ℕ) → Falls next size → (state : S) → tree_below next size state ≡ node_of (tree_below next size) (next state)
tree_unfolds next size falls state =
    same_node (tree_of next (size state)) (tree_below next size) (next state)
    (λ turn s k. let f = falls state s turn k in any_depth next size falls (size state) (suc (size s)) s (omega (arith, f)) (omega arith))

-- visits
module _ {A S : Type 0} (tree : S → Node A) where
  to_choices : (choices : List (A × S)) (a : A) (after : S) (rest : List (Turn A)) → IsIn choices (a, after) → IsVisitIn (tree after) rest → IsVisitOfChoices (choices_of tree choices) (Free a ∷ rest)
  to_choices [] a after rest h t = absurd h
  to_choices (c ∷ choices) a after rest (inl e) t =
      inl (rest, ap (λ x. Free x ∷ rest) (sym (ap (λ (x : A × S). x.0) e)), subst (λ s. IsVisitIn (tree s) rest) (sym (ap (λ (x : A × S). x.1) e)) t)
  to_choices (c ∷ choices) a after rest (inr h) t = inr (to_choices choices a after rest h t)

  from_choices : (choices : List (A × S)) (turns : List (Turn A)) → IsVisitOfChoices (choices_of tree choices) turns → (a : A) × (after : S) × (rest : List (Turn A)) × (turns ≡ Free a ∷ rest) × IsIn choices (a, after) × IsVisitIn (tree after) rest
  from_choices [] turns h = absurd h
  from_choices (c ∷ choices) turns (inl h) = (c.0, c.1, h.0, h.1, inl refl, h.2)
  from_choices (c ∷ choices) turns (inr h) = let k = from_choices choices turns h in (k.0, k.1, k.2, k.3, inr k.4, k.5)

  to_ranks : (states : List S) (rank i : ℕ) (after : S) (rest : List (Turn A)) → slice_get states i ≡ Some after → IsVisitIn (tree after) rest → IsVisitOfRanks (ranks_of tree states) rank (Rank (rank + i) ∷ rest)
  to_ranks [] rank i after rest e t = cc
  to_ranks (s ∷ states) rank zero after rest e t =
      let q : rank + 0 ≡ rank = omega arith in
      let w : s ≡ after = cc in
      inl (rest, ap (λ n. Rank n ∷ rest) q, subst (λ z. IsVisitIn (tree z) rest) (sym w) t)
  to_ranks (s ∷ states) rank (suc i) after rest e t =
      let q : suc rank + i ≡ rank + suc i = omega arith in
      inr (subst (λ n. IsVisitOfRanks (ranks_of tree states) (suc rank) (Rank n ∷ rest)) q (to_ranks states (suc rank) i after rest e t))

  from_ranks : (states : List S) (rank : ℕ) (turns : List (Turn A)) → IsVisitOfRanks (ranks_of tree states) rank turns → (i : ℕ) × (after : S) × (rest : List (Turn A)) × (turns ≡ Rank (rank + i) ∷ rest) × (slice_get states i ≡ Some after) × IsVisitIn (tree after) rest
  from_ranks [] rank turns h = absurd h
  from_ranks (s ∷ states) rank turns (inl h) =
      let q : rank ≡ rank + 0 = omega arith in
      (0, s, h.0, h.1 ∙ ap (λ n. Rank n ∷ h.0) q, refl, h.2)
  from_ranks (s ∷ states) rank turns (inr h) =
      let k = from_ranks states (suc rank) turns h in
      let q : suc rank + k.0 ≡ rank + suc k.0 = omega arith in
      (suc k.0, k.1, k.2, k.3 ∙ ap (λ n. Rank n ∷ k.2) q, k.4, k.5)

step_down : {A S : Type 0} (tree : S → Node A) (options : Options A S) (turn : Turn A) (after : S) (rest : List (Turn A)) → LeadsTo options turn after → IsVisitIn (tree after) rest → IsVisitIn (node_of tree options) (turn ∷ rest)
step_down tree Fails turn after rest h t = absurd h
step_down tree (Any is_visit choices) (Free a) after rest h t = inr (to_choices tree choices a after rest h t)
step_down tree (Any is_visit choices) (Rank i) after rest h t = absurd h
step_down tree (InOrder states) (Free a) after rest h t = absurd h
step_down tree (InOrder states) (Rank i) after rest h t =
    let q : 0 + i ≡ i = omega arith in
    subst (λ n. IsVisitOfRanks (ranks_of tree states) 0 (Rank n ∷ rest)) q (to_ranks tree states 0 i after rest h t)

ends_here : {A S : Type 0} (tree : S → Node A) (options : Options A S) → IsVisitPoint options → IsVisitIn (node_of tree options) []
ends_here tree Fails e = absurd e
ends_here tree (Any true choices) e = inl refl
ends_here tree (Any false choices) e = absurd e
ends_here tree (InOrder states) e = absurd e

pub visit_down : {A S : Type 0} (next : S → Options A S) (size : S → ℕ) → Falls next size → (depth : ℕ) (state : S) (turns : List (Turn A)) → size state < depth → VisitFrom next state turns → IsVisitIn (tree_of next depth state) turns
visit_down next size falls zero state turns less t = absurd (omega arith)
visit_down next size falls (suc depth) state [] less t = ends_here (tree_of next depth) (next state) t
visit_down next size falls (suc depth) state (turn ∷ turns) less t =
    let f = falls state t.0 turn t.1 in
    let m : size t.0 < depth = omega (arith, f) in
    step_down (tree_of next depth) (next state) turn t.0 turns t.1 (visit_down next size falls depth t.0 turns m t.2)

first_step : {A S : Type 0} (tree : S → Node A) (options : Options A S) (turns : List (Turn A)) → IsVisitIn (node_of tree options) turns → ((turns ≡ []) × IsVisitPoint options) ⊎ ((turn : Turn A) × (after : S) × (rest : List (Turn A)) × (turns ≡ turn ∷ rest) × LeadsTo options turn after × IsVisitIn (tree after) rest)
first_step tree Fails turns h = absurd h
first_step tree (Any true choices) turns (inl h) = inl (h, tt)
first_step tree (Any false choices) turns (inl h) = absurd h
first_step tree (Any is_visit choices) turns (inr h) =
    let k = from_choices tree choices turns h in inr (Free k.0, k.1, k.2, k.3, k.4, k.5)
first_step {A} {S} tree (InOrder states) turns h =
    let k = from_ranks tree states 0 turns h in
    let q : 0 + k.0 ≡ k.0 = omega arith in
    inr (Rank k.0, k.1, k.2, k.3 ∙ ap (λ (n : ℕ). Rank n ∷ k.2) q, k.4, k.5)

pub visit_up : {A S : Type 0} (next : S → Options A S) (depth : ℕ) (state : S) (turns : List (Turn A)) → IsVisitIn (tree_of next depth state) turns → VisitFrom next state turns
visit_up next zero state turns h = elim h [ inl k ↦ absurd k | inr k ↦ absurd k ]
visit_up {A} {S} next (suc depth) state turns h =
    elim (first_step (tree_of next depth) (next state) turns h) [
      | inl k ↦ subst (λ (r : List (Turn A)). VisitFrom next state r) (sym k.0) k.1
      | inr k ↦ subst (λ (r : List (Turn A)). VisitFrom next state r) (sym k.3) (k.1, k.4, visit_up next depth k.1 k.2 k.5)
    ]
