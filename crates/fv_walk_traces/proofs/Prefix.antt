-- What a prefix decides.
use Rattle.std.proofs.Common.{◌≡◌, ℕ, suc, List, [], ◌∷◌, ◌++◌, map, ◌⊎◌, inl, inr, refl, sym, ap, ◌∙◌, subst, arith}
use Rattle.fv_graph.specs.Graph.{IsIn, AllDiffer}
use Rattle.fv_walk_traces.proofs.Exact.{some_failure, kept}
use Rattle.fv_graph.proofs.Images.{in_map}
use Rattle.fv_walk_traces.proofs.Shadowing.{by_recursion}
use Rattle.fv_walk_traces.proofs.Unfolded.{down, up, proper_tree}
use Rattle.fv_walk_traces.specs.Turns.{Turn, Free, Rank, Shadows, ShadowsByRecursion}
use Rattle.fv_walk_traces.specs.Unfold.{Options, Fails, Any, InOrder, LeadsTo, TraceFrom, Falls, NoTurnTwice, tree_of}

-- these turns lead from the one state to the other
abbrev pub Path' : {A S : Type 0} → (S → Options A S) → S → List (Turn A) → S → Type 0
Path' next state [] after = state ≡ after
Path' {A} {S} next state (turn ∷ turns) after = (mid : S) × LeadsTo (next state) turn mid × Path' next mid turns after

pub split_at : {A S : Type 0} (next : S → Options A S) (state : S) (p q : List (Turn A)) → TraceFrom next state (p ++ q) → (after : S) × Path' next state p after × TraceFrom next after q
split_at next state [] q h = (state, refl, h)
split_at next state (t ∷ p) q h = let k = split_at next h.0 p q h.2 in (k.0, (h.0, h.1, k.1), k.2)

pub join_at : {A S : Type 0} (next : S → Options A S) (state after : S) (p q : List (Turn A)) → Path' next state p after → TraceFrom next after q → TraceFrom next state (p ++ q)
join_at {A} next state after [] q e h = subst (λ s. TraceFrom next s q) (sym e) h
join_at next state after (t ∷ p) q k h = (k.0, k.1, join_at next k.0 after p q k.2 h)

one_choice : {A S : Type 0} (choices : List (A × S)) (a : A) (s t : S) → AllDiffer (map (λ c. c.0) choices) → IsIn choices (a, s) → IsIn choices (a, t) → s ≡ t
one_choice [] a s t d h k = absurd h
one_choice {A} {S} (c ∷ choices) a s t d (inl h) (inl k) = sym (ap (λ (x : A × S). x.1) h) ∙ ap (λ (x : A × S). x.1) k
one_choice {A} {S} (c ∷ choices) a s t d (inl h) (inr k) =
    absurd (d.0 (subst (λ (x : A). IsIn (map (λ (c : A × S). c.0) choices) x) (sym (ap (λ (x : A × S). x.0) h)) (in_map (λ (c : A × S). c.0) choices (a, t) k)))
one_choice {A} {S} (c ∷ choices) a s t d (inr h) (inl k) =
    absurd (d.0 (subst (λ (x : A). IsIn (map (λ (c : A × S). c.0) choices) x) (sym (ap (λ (x : A × S). x.0) k)) (in_map (λ (c : A × S). c.0) choices (a, s) h)))
one_choice (c ∷ choices) a s t d (inr h) (inr k) = one_choice choices a s t d.1 h k

pub one_way : {A S : Type 0} (options : Options A S) (turn : Turn A) (s t : S) → NoTurnTwice options → LeadsTo options turn s → LeadsTo options turn t → s ≡ t
one_way Fails turn s t d h k = absurd h
one_way (Any is_visit choices) (Free a) s t d h k = one_choice choices a s t d h k
one_way (Any is_visit choices) (Rank i) s t d h k = absurd h
one_way (InOrder states) (Free a) s t d h k = absurd h
one_way (InOrder states) (Rank i) s t d h k = cc

pub one_end : {A S : Type 0} (next : S → Options A S) → ((s : S) → NoTurnTwice (next s)) → (state s t : S) (p : List (Turn A)) → Path' next state p s → Path' next state p t → s ≡ t
one_end next d state s t [] h k = sym h ∙ k
one_end next d state s t (turn ∷ p) h k =
    let e = one_way (next state) turn h.0 k.0 (d state) h.1 k.1 in
    one_end next d k.0 s t p (subst (λ x. Path' next x p s) e h.2) k.2

-- where some trace continues a prefix, one does that nothing shadows at a later turn
pub last_word : {A S : Type 0} (next : S → Options A S) (size : S → ℕ) → Falls next size → ((s : S) → NoTurnTwice (next s)) → (state : S) (p q : List (Turn A)) → TraceFrom next state (p ++ q) → (best : List (Turn A)) × TraceFrom next state (p ++ best) × ((other : List (Turn A)) → TraceFrom next state (p ++ other) → Shadows other best → ⊥)
last_word next size falls d state p q h =
    let k = split_at next state p q h in
    let depth = suc (size k.0) in
    let f = some_failure (tree_of next depth k.0) q (down next size falls depth k.0 q (omega arith) k.2) in
    let m = kept (tree_of next depth k.0) f.0 (proper_tree next d depth k.0) f.1 in (
      f.0,
      join_at next state k.0 p f.0 k.1 (up next depth k.0 f.0 m.0),
      λ other g s.
          (let l = split_at next state p other g in
          let e = one_end next d state l.0 k.0 p l.1 k.1 in
          m.1 other (down next size falls depth k.0 other (omega arith) (subst (λ x. TraceFrom next x other) e l.2)) (by_recursion other f.0 s)),
    )

-- a turn after a prefix hides only what begins with that prefix
pub hides_below : {A : Type 0} (p q r : List (Turn A)) → ShadowsByRecursion (p ++ q) r → ShadowsByRecursion p r ⊎ ((rest : List (Turn A)) × (r ≡ p ++ rest) × ShadowsByRecursion q rest)
hides_below [] q r h = inr (r, refl, h)
hides_below (x ∷ p) q [] h = absurd h
hides_below (x ∷ p) q (y ∷ r) (inl h) = inl (inl h)
hides_below (x ∷ p) q (y ∷ r) (inr h) =
    elim (hides_below p q r h.1) [
      | inl k ↦ inl (inr (h.0, k))
      | inr k ↦ inr (k.0, cc (h.0, k.1), k.2)
    ]
