-- Each shadowed list is shadowed by a trace that none shadows.
use Rattle.std.proofs.Common.{◌≡◌, ℕ, suc, List, [], ◌∷◌, ◌⊎◌, inl, inr, refl, subst}
use Rattle.fv_graph.proofs.Lists.{in_left, in_right}
use Rattle.fv_graph.specs.Graph.{IsIn}
use Rattle.fv_walk_traces.proofs.Exact.{some_failure, rank_of_trace}
use Rattle.fv_walk_traces.proofs.Lists.{none_map, none_or_some, or_else_left, or_else_right}
use Rattle.fv_graph.proofs.Images.{in_map}
use Rattle.fv_walk_traces.proofs.Shadowing.{wrap, shadows_trans}
use Rattle.fv_walk_traces.specs.Tree.{Node, Failure, Open, Ranked, Choices, NoChoice, Choice, Ranks, NoRank, NextRank, IsTraceIn, IsTraceOfChoices, IsTraceOfRanks, failures, failures_of_choices, failures_of_ranks}
use Rattle.fv_walk_traces.specs.Turns.{Turn, Free, Rank, IsSmallerRank, ShadowsByRecursion}

split : {A : Type 0} (one other : List (Turn A)) (x : Turn A) (xs : List (Turn A)) → one ≡ x ∷ xs → ShadowsByRecursion one other → (y : Turn A) × (ys : List (Turn A)) × (other ≡ y ∷ ys) × (IsSmallerRank x y ⊎ ((x ≡ y) × ShadowsByRecursion xs ys))
split [] other x xs e h = absurd h
split (z ∷ zs) [] x xs e h = absurd h
split {A} (z ∷ zs) (y ∷ ys) x xs e h =
    (y, ys, refl, subst (λ (s : List (Turn A)). ShadowsByRecursion s (y ∷ ys)) e h)

-- a list that shadows what is below a turn shadows it above
above : {A : Type 0} (x y : Turn A) (f r ys : List (Turn A)) → x ≡ y → r ≡ y ∷ ys → ShadowsByRecursion f ys → ShadowsByRecursion (x ∷ f) r
above x y f r ys e d h = wrap (x ∷ f) r x y f ys refl d (inr (e, h))

mutual
  pub last_shadow : {A : Type 0} (node : Node A) (r other : List (Turn A)) → IsTraceIn node other → ShadowsByRecursion other r → (last : List (Turn A)) × IsIn (failures node) last × ShadowsByRecursion last r
  last_shadow {A} Failure r other t h = absurd (subst (λ (s : List (Turn A)). ShadowsByRecursion s r) t h)
  last_shadow (Open is_visit choices) r other t h = last_of_choices choices r other t h
  last_shadow (Ranked ranks) r other t h = last_of_ranks ranks 0 r other t h

  last_of_choices : {A : Type 0} (choices : Choices A) (r other : List (Turn A)) → IsTraceOfChoices choices other → ShadowsByRecursion other r → (last : List (Turn A)) × IsIn (failures_of_choices choices) last × ShadowsByRecursion last r
  last_of_choices NoChoice r other t h = absurd t
  last_of_choices (Choice turn node others) r other (inl t) h =
      let k = split other r (Free turn) t.0 t.1 h in
      elim k.3 [
        | inl less ↦ absurd less
        | inr g ↦
            (let ih = last_shadow node k.1 t.0 t.2 g.1 in
            (Free turn ∷ ih.0, in_left _ _ _ (in_map (λ below. Free turn ∷ below) (failures node) ih.0 ih.1), above (Free turn) k.0 ih.0 r k.1 g.0 k.2 ih.2))
      ]
  last_of_choices (Choice turn node others) r other (inr t) h =
      let ih = last_of_choices others r other t h in
      (ih.0, in_right _ _ _ ih.1, ih.2)

  last_of_ranks : {A : Type 0} (ranks : Ranks A) (rank : ℕ) (r other : List (Turn A)) → IsTraceOfRanks ranks rank other → ShadowsByRecursion other r → (last : List (Turn A)) × IsIn (failures_of_ranks ranks rank) last × ShadowsByRecursion last r
  last_of_ranks NoRank rank r other t h = absurd t
  last_of_ranks (NextRank node others) rank r other (inl t) h =
      let k = split other r (Rank rank) t.0 t.1 h in
      elim k.3 [
        | inl less ↦
            (let f = some_failure node t.0 t.2 in
            (Rank rank ∷ f.0, or_else_left _ _ _ (in_map (λ below. Rank rank ∷ below) (failures node) f.0 f.1), wrap _ r (Rank rank) k.0 f.0 k.1 refl k.2 (inl less)))
        | inr g ↦
            (let ih = last_shadow node k.1 t.0 t.2 g.1 in
            (Rank rank ∷ ih.0, or_else_left _ _ _ (in_map (λ below. Rank rank ∷ below) (failures node) ih.0 ih.1), above (Rank rank) k.0 ih.0 r k.1 g.0 k.2 ih.2))
      ]
  last_of_ranks (NextRank node others) rank r other (inr t) h =
      elim (none_or_some (failures node)) [
        | inl e ↦
            (let ih = last_of_ranks others (suc rank) r other t h in
            (ih.0, or_else_right _ _ _ (none_map _ _ e) ih.1, ih.2))
        | inr f ↦
            (let l = rank_of_trace others (suc rank) other t in
            let first = wrap (Rank rank ∷ f.0) other (Rank rank) (Rank l.0) f.0 l.1 refl l.2 (inl l.3) in
            (Rank rank ∷ f.0, or_else_left _ _ _ (in_map (λ below. Rank rank ∷ below) (failures node) f.0 f.1), shadows_trans (Rank rank ∷ f.0) other r first h))
      ]
