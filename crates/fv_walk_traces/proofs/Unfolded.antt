-- The ways down the tree of a state are the traces and visits from it.
use Rattle.std.proofs.Common.{◌≡◌, ℕ, zero, suc, ◌+◌, ◌<◌, List, [], ◌∷◌, map, ◌⊎◌, inl, inr, refl, sym, ap, ◌∙◌, subst, arith, Some, slice_get}
use Rattle.fv_graph.specs.Graph.{IsIn, AllDiffer}
use Rattle.fv_walk_traces.specs.Tree.{Node, IsTraceIn, IsTraceOfChoices, IsTraceOfRanks, labels, IsProper, AreProperChoices, AreProperRanks}
use Rattle.fv_walk_traces.specs.Turns.{Turn, Free, Rank}
use Rattle.fv_walk_traces.specs.Unfold.{Options, Fails, Any, InOrder, LeadsTo, TraceFrom, Falls, NoTurnTwice, choices_of, ranks_of, node_of, tree_of}

-- one step down, for any P below

module _ {A S : Type 0} (tree : S → Node A) where
  pub to_choices : (choices : List (A × S)) (a : A) (after : S) (rest : List (Turn A)) → IsIn choices (a, after) → IsTraceIn (tree after) rest → IsTraceOfChoices (choices_of tree choices) (Free a ∷ rest)
  to_choices [] a after rest h t = absurd h
  to_choices (c ∷ choices) a after rest (inl e) t =
      inl (rest, ap (λ x. Free x ∷ rest) (sym (ap (λ (x : A × S). x.0) e)), subst (λ s. IsTraceIn (tree s) rest) (sym (ap (λ (x : A × S). x.1) e)) t)
  to_choices (c ∷ choices) a after rest (inr h) t = inr (to_choices choices a after rest h t)

  pub from_choices : (choices : List (A × S)) (turns : List (Turn A)) → IsTraceOfChoices (choices_of tree choices) turns → (a : A) × (after : S) × (rest : List (Turn A)) × (turns ≡ Free a ∷ rest) × IsIn choices (a, after) × IsTraceIn (tree after) rest
  from_choices [] turns h = absurd h
  from_choices (c ∷ choices) turns (inl h) = (c.0, c.1, h.0, h.1, inl refl, h.2)
  from_choices (c ∷ choices) turns (inr h) = let k = from_choices choices turns h in (k.0, k.1, k.2, k.3, inr k.4, k.5)

  pub to_ranks : (states : List S) (rank i : ℕ) (after : S) (rest : List (Turn A)) → slice_get states i ≡ Some after → IsTraceIn (tree after) rest → IsTraceOfRanks (ranks_of tree states) rank (Rank (rank + i) ∷ rest)
  to_ranks [] rank i after rest e t = cc
  to_ranks (s ∷ states) rank zero after rest e t =
      let q : rank + 0 ≡ rank = omega arith in
      let w : s ≡ after = cc in
      inl (rest, ap (λ n. Rank n ∷ rest) q, subst (λ z. IsTraceIn (tree z) rest) (sym w) t)
  to_ranks (s ∷ states) rank (suc i) after rest e t =
      let q : suc rank + i ≡ rank + suc i = omega arith in
      inr (subst (λ n. IsTraceOfRanks (ranks_of tree states) (suc rank) (Rank n ∷ rest)) q (to_ranks states (suc rank) i after rest e t))

  pub from_ranks : (states : List S) (rank : ℕ) (turns : List (Turn A)) → IsTraceOfRanks (ranks_of tree states) rank turns → (i : ℕ) × (after : S) × (rest : List (Turn A)) × (turns ≡ Rank (rank + i) ∷ rest) × (slice_get states i ≡ Some after) × IsTraceIn (tree after) rest
  from_ranks [] rank turns h = absurd h
  from_ranks (s ∷ states) rank turns (inl h) =
      let q : rank ≡ rank + 0 = omega arith in
      (0, s, h.0, h.1 ∙ ap (λ n. Rank n ∷ h.0) q, refl, h.2)
  from_ranks (s ∷ states) rank turns (inr h) =
      let k = from_ranks states (suc rank) turns h in
      let q : suc rank + k.0 ≡ rank + suc k.0 = omega arith in
      (suc k.0, k.1, k.2, k.3 ∙ ap (λ n. Rank n ∷ k.2) q, k.4, k.5)

-- a trace by the options is a way down, if the states below are
step_down : {A S : Type 0} (next : S → Options A S) (tree : S → Node A) (options : Options A S) (turn : Turn A) (after : S) (rest : List (Turn A)) → LeadsTo options turn after → IsTraceIn (tree after) rest → IsTraceIn (node_of tree options) (turn ∷ rest)
step_down next tree Fails turn after rest h t = absurd h
step_down next tree (Any is_visit choices) (Free a) after rest h t = to_choices tree choices a after rest h t
step_down next tree (Any is_visit choices) (Rank i) after rest h t = absurd h
step_down next tree (InOrder states) (Free a) after rest h t = absurd h
step_down next tree (InOrder states) (Rank i) after rest h t =
    let q : 0 + i ≡ i = omega arith in
    subst (λ n. IsTraceOfRanks (ranks_of tree states) 0 (Rank n ∷ rest)) q (to_ranks tree states 0 i after rest h t)

ends_here : {A S : Type 0} (tree : S → Node A) (options : Options A S) → options ≡ Fails → IsTraceIn (node_of tree options) []
ends_here tree Fails e = refl
ends_here tree (Any is_visit choices) e = cc
ends_here tree (InOrder states) e = cc

pub down : {A S : Type 0} (next : S → Options A S) (size : S → ℕ) → Falls next size → (depth : ℕ) (state : S) (turns : List (Turn A)) → size state < depth → TraceFrom next state turns → IsTraceIn (tree_of next depth state) turns
down next size falls zero state turns less t = absurd (omega arith)
down next size falls (suc depth) state [] less t = ends_here (tree_of next depth) (next state) t
down next size falls (suc depth) state (turn ∷ turns) less t =
    let f = falls state t.0 turn t.1 in
    let m : size t.0 < depth = omega (arith, f) in
    step_down next (tree_of next depth) (next state) turn t.0 turns t.1 (down next size falls depth t.0 turns m t.2)

-- what a way down begins with
first_step : {A S : Type 0} (tree : S → Node A) (options : Options A S) (turns : List (Turn A)) → IsTraceIn (node_of tree options) turns → ((turns ≡ []) × (options ≡ Fails)) ⊎ ((turn : Turn A) × (after : S) × (rest : List (Turn A)) × (turns ≡ turn ∷ rest) × LeadsTo options turn after × IsTraceIn (tree after) rest)
first_step tree Fails turns h = inl (h, refl)
first_step tree (Any is_visit choices) turns h =
    let k = from_choices tree choices turns h in inr (Free k.0, k.1, k.2, k.3, k.4, k.5)
first_step {A} {S} tree (InOrder states) turns h =
    let k = from_ranks tree states 0 turns h in
    let q : 0 + k.0 ≡ k.0 = omega arith in
    inr (Rank k.0, k.1, k.2, k.3 ∙ ap (λ (n : ℕ). Rank n ∷ k.2) q, k.4, k.5)

pub up : {A S : Type 0} (next : S → Options A S) (depth : ℕ) (state : S) (turns : List (Turn A)) → IsTraceIn (tree_of next depth state) turns → TraceFrom next state turns
up next zero state turns h = absurd h
up {A} {S} next (suc depth) state turns h =
    elim (first_step (tree_of next depth) (next state) turns h) [
      | inl k ↦ subst (λ (r : List (Turn A)). TraceFrom next state r) (sym k.0) k.1
      | inr k ↦ subst (λ (r : List (Turn A)). TraceFrom next state r) (sym k.3) (k.1, k.4, up next depth k.1 k.2 k.5)
    ]

-- properness
labels_are : {A S : Type 0} (tree : S → Node A) (choices : List (A × S)) → labels (choices_of tree choices) ≡ map (λ c. c.0) choices
labels_are tree [] = refl
labels_are tree (c ∷ choices) = ap (λ l. c.0 ∷ l) (labels_are tree choices)

proper_choices : {A S : Type 0} (tree : S → Node A) → ((s : S) → IsProper (tree s)) → (choices : List (A × S)) → AreProperChoices (choices_of tree choices)
proper_choices tree p [] = tt
proper_choices tree p (c ∷ choices) = (p c.1, proper_choices tree p choices)

proper_ranks : {A S : Type 0} (tree : S → Node A) → ((s : S) → IsProper (tree s)) → (states : List S) → AreProperRanks (ranks_of tree states)
proper_ranks tree p [] = tt
proper_ranks tree p (s ∷ states) = (p s, proper_ranks tree p states)

proper_node : {A S : Type 0} (tree : S → Node A) → ((s : S) → IsProper (tree s)) → (options : Options A S) → NoTurnTwice options → IsProper (node_of tree options)
proper_node tree p Fails d = tt
proper_node {A} {S} tree p (Any is_visit choices) d = (subst (λ (l : List A). AllDiffer l) (sym (labels_are tree choices)) d, proper_choices tree p choices)
proper_node tree p (InOrder states) d = proper_ranks tree p states

pub proper_tree : {A S : Type 0} (next : S → Options A S) → ((s : S) → NoTurnTwice (next s)) → (depth : ℕ) (state : S) → IsProper (tree_of next depth state)
proper_tree next d zero state = (tt, tt)
proper_tree next d (suc depth) state = proper_node (tree_of next depth) (proper_tree next d depth) (next state) (d state)

-- the same where only some states are reached
proper_choices_among : {A S : Type 0} (tree : S → Node A) (choices : List (A × S)) → ((a : A) (s : S) → IsIn choices (a, s) → IsProper (tree s)) → AreProperChoices (choices_of tree choices)
proper_choices_among tree [] p = tt
proper_choices_among tree (c ∷ choices) p = (p c.0 c.1 (inl refl), proper_choices_among tree choices (λ a s k. p a s (inr k)))

proper_ranks_among : {A S : Type 0} (tree : S → Node A) (states : List S) → ((i : ℕ) (s : S) → slice_get states i ≡ Some s → IsProper (tree s)) → AreProperRanks (ranks_of tree states)
proper_ranks_among tree [] p = tt
proper_ranks_among tree (s ∷ states) p = (p 0 s refl, proper_ranks_among tree states (λ i z k. p (suc i) z k))

pub proper_node_among : {A S : Type 0} (tree : S → Node A) (options : Options A S) → NoTurnTwice options → ((turn : Turn A) (s : S) → LeadsTo options turn s → IsProper (tree s)) → IsProper (node_of tree options)
proper_node_among tree Fails d p = tt
proper_node_among {A} {S} tree (Any is_visit choices) d p = (subst (λ (l : List A). AllDiffer l) (sym (labels_are tree choices)) d, proper_choices_among tree choices (λ a s k. p (Free a) s k))
proper_node_among tree (InOrder states) d p = proper_ranks_among tree states (λ i s k. p (Rank i) s k)

pub proper_reached : {A S : Type 0} (next : S → Options A S) (IsReached : S → Type 0) → ((s : S) → IsReached s → NoTurnTwice (next s)) → ((s after : S) (turn : Turn A) → IsReached s → LeadsTo (next s) turn after → IsReached after) → (depth : ℕ) (state : S) → IsReached state → IsProper (tree_of next depth state)
proper_reached next IsReached d on zero state r = (tt, tt)
proper_reached next IsReached d on (suc depth) state r =
    proper_node_among (tree_of next depth) (next state) (d state r) (λ turn s k. proper_reached next IsReached d on depth s (on state s turn r k))
