-- The evaluation that stops early gives what no trace shadows.
use Rattle.std.proofs.Common.{◌≡◌, ℕ, suc, ◌<◌, ◌≤◌, List, [], ◌∷◌, map, inl, inr, refl, sym, subst, arith}
use Rattle.fv_graph.proofs.Lists.{in_left, in_right, in_cases}
use Rattle.fv_graph.specs.Graph.{IsIn, AllDiffer}
use Rattle.fv_walk_traces.proofs.Lists.{map_none, none_map, none_or_some, or_else_left, or_else_right, or_else_cases, or_else_some}
use Rattle.fv_graph.proofs.Images.{in_map, from_map}
use Rattle.fv_walk_traces.proofs.Shadowing.{peel, wrap, free_injective, rank_injective}
use Rattle.fv_walk_traces.specs.Tree.{Node, Failure, Open, Ranked, Choices, NoChoice, Choice, Ranks, NoRank, NextRank, IsTraceIn, IsTraceOfChoices, IsTraceOfRanks, labels, IsProper, AreProperChoices, AreProperRanks, failures, failures_of_choices, failures_of_ranks}
use Rattle.fv_walk_traces.specs.Turns.{Turn, Free, Rank, ShadowsByRecursion}

-- Where there is a trace, one of them is kept.
mutual
  pub some_failure : {A : Type 0} (node : Node A) (r : List (Turn A)) → IsTraceIn node r → (f : List (Turn A)) × IsIn (failures node) f
  some_failure Failure r h = ([], inl refl)
  some_failure (Open is_visit choices) r h = some_of_choices choices r h
  some_failure (Ranked ranks) r h = some_of_ranks ranks 0 r h

  some_of_choices : {A : Type 0} (choices : Choices A) (r : List (Turn A)) → IsTraceOfChoices choices r → (f : List (Turn A)) × IsIn (failures_of_choices choices) f
  some_of_choices NoChoice r h = absurd h
  some_of_choices (Choice turn node others) r (inl h) =
      let k = some_failure node h.0 h.2 in
      (Free turn ∷ k.0, in_left _ _ _ (in_map (λ below. Free turn ∷ below) (failures node) k.0 k.1))
  some_of_choices (Choice turn node others) r (inr h) =
      let k = some_of_choices others r h in
      (k.0, in_right _ _ _ k.1)

  some_of_ranks : {A : Type 0} (ranks : Ranks A) (rank : ℕ) (r : List (Turn A)) → IsTraceOfRanks ranks rank r → (f : List (Turn A)) × IsIn (failures_of_ranks ranks rank) f
  some_of_ranks NoRank rank r h = absurd h
  some_of_ranks (NextRank node others) rank r (inl h) =
      let k = some_failure node h.0 h.2 in
      (Rank rank ∷ k.0, or_else_left _ _ _ (in_map (λ below. Rank rank ∷ below) (failures node) k.0 k.1))
  some_of_ranks (NextRank node others) rank r (inr h) =
      let k = some_of_ranks others (suc rank) r h in
      or_else_some _ _ k.0 k.1

pub none_left : {A : Type 0} (node : Node A) (r : List (Turn A)) → failures node ≡ [] → IsTraceIn node r → ⊥
none_left node r e h = let k = some_failure node r h in subst (λ l. IsIn l k.0) e k.1

-- what a trace below choices or ranks begins with
pub label_of_trace : {A : Type 0} (choices : Choices A) (r : List (Turn A)) → IsTraceOfChoices choices r → (turn : A) × (below : List (Turn A)) × (r ≡ Free turn ∷ below) × IsIn (labels choices) turn
label_of_trace NoChoice r h = absurd h
label_of_trace (Choice turn node others) r (inl h) = (turn, h.0, h.1, inl refl)
label_of_trace (Choice turn node others) r (inr h) = let k = label_of_trace others r h in (k.0, k.1, k.2, inr k.3)

pub rank_of_trace : {A : Type 0} (ranks : Ranks A) (rank : ℕ) (r : List (Turn A)) → IsTraceOfRanks ranks rank r → (j : ℕ) × (below : List (Turn A)) × (r ≡ Rank j ∷ below) × (rank ≤ j)
rank_of_trace NoRank rank r h = absurd h
rank_of_trace (NextRank node others) rank r (inl h) = (rank, h.0, h.1, omega arith)
rank_of_trace (NextRank node others) rank r (inr h) = let k = rank_of_trace others (suc rank) r h in (k.0, k.1, k.2, omega (arith, k.3))

-- nothing with P shadows it
abbrev pub Spared : {A : Type 0} → (List (Turn A) → Type 0) → List (Turn A) → Type 0
Spared {A} P r = (other : List (Turn A)) → P other → ShadowsByRecursion other r → ⊥

-- two lists below the same turn shadow each other as they do without it
pub same_free : {A : Type 0} (turn : A) (one other xs ys : List (Turn A)) → one ≡ Free turn ∷ xs → other ≡ Free turn ∷ ys → ShadowsByRecursion one other → ShadowsByRecursion xs ys
same_free turn one other xs ys e d h = elim (peel one other (Free turn) (Free turn) xs ys e d h) [ inl k ↦ absurd k | inr k ↦ k.1 ]

pub same_rank : {A : Type 0} (i : ℕ) (one other xs ys : List (Turn A)) → one ≡ Rank i ∷ xs → other ≡ Rank i ∷ ys → ShadowsByRecursion one other → ShadowsByRecursion xs ys
same_rank i one other xs ys e d h = elim (peel one other (Rank i) (Rank i) xs ys e d h) [ inl k ↦ absurd (omega (arith, k)) | inr k ↦ k.1 ]

pub other_free : {A : Type 0} (a b : A) (one other xs ys : List (Turn A)) → one ≡ Free a ∷ xs → other ≡ Free b ∷ ys → ShadowsByRecursion one other → a ≡ b
other_free a b one other xs ys e d h = elim (peel one other (Free a) (Free b) xs ys e d h) [ inl k ↦ absurd k | inr k ↦ free_injective a b k.0 ]

pub later_rank : {A : Type 0} (i j : ℕ) (one other xs ys : List (Turn A)) → one ≡ Rank j ∷ xs → other ≡ Rank i ∷ ys → i < j → ShadowsByRecursion one other → ⊥
later_rank {A} i j one other xs ys e d less h =
    elim (peel one other (Rank j) (Rank i) xs ys e d h) [ inl k ↦ omega (arith, k) | inr k ↦ (let q : j ≡ i = rank_injective {A = A} j i k.0 in omega arith) ]

-- What is kept is a trace, and no trace shadows it.
mutual
  pub kept : {A : Type 0} (node : Node A) (r : List (Turn A)) → IsProper node → IsIn (failures node) r → IsTraceIn node r × Spared (IsTraceIn node) r
  kept Failure r p (inl e) = (sym e, λ other h s. subst (λ l. ShadowsByRecursion l r) h s)
  kept Failure r p (inr h) = absurd h
  kept (Open is_visit choices) r p h = kept_choices choices r p.0 p.1 h
  kept (Ranked ranks) r p h = kept_ranks ranks 0 r p h

  pub kept_choices : {A : Type 0} (choices : Choices A) (r : List (Turn A)) → AllDiffer (labels choices) → AreProperChoices choices → IsIn (failures_of_choices choices) r → IsTraceOfChoices choices r × Spared (IsTraceOfChoices choices) r
  kept_choices NoChoice r d p h = absurd h
  kept_choices {A} (Choice turn node others) r d p h =
      elim (in_cases _ _ r h) [
        | inl k ↦
            (let m = from_map (λ below. Free turn ∷ below) (failures node) r k in
            let ih = kept node m.0 p.0 m.2 in (
              inl (m.0, m.1, ih.0),
              λ other. elim [
                | inl t ↦ λ s. ih.1 t.0 t.2 (same_free turn other r t.0 m.0 t.1 m.1 s)
                | inr t ↦ λ s.
                    (let l = label_of_trace others other t in
                    d.0 (subst (λ (x : A). IsIn (labels others) x) (other_free l.0 turn other r l.1 m.0 l.2 m.1 s) l.3))
              ],
            ))
        | inr k ↦
            (let ih = kept_choices others r d.1 p.1 k in
            let l = label_of_trace others r ih.0 in (
              inr ih.0,
              λ other. elim [
                | inl t ↦ λ s. d.0 (subst (λ (x : A). IsIn (labels others) x) (sym (other_free turn l.0 other r t.0 l.1 t.1 l.2 s)) l.3)
                | inr t ↦ λ s. ih.1 other t s
              ],
            ))
      ]

  pub kept_ranks : {A : Type 0} (ranks : Ranks A) (rank : ℕ) (r : List (Turn A)) → AreProperRanks ranks → IsIn (failures_of_ranks ranks rank) r → IsTraceOfRanks ranks rank r × Spared (IsTraceOfRanks ranks rank) r
  kept_ranks NoRank rank r p h = absurd h
  kept_ranks (NextRank node others) rank r p h =
      elim (or_else_cases _ _ r h) [
        | inl k ↦
            (let m = from_map (λ below. Rank rank ∷ below) (failures node) r k in
            let ih = kept node m.0 p.0 m.2 in (
              inl (m.0, m.1, ih.0),
              λ other. elim [
                | inl t ↦ λ s. ih.1 t.0 t.2 (same_rank rank other r t.0 m.0 t.1 m.1 s)
                | inr t ↦ λ s.
                    (let l = rank_of_trace others (suc rank) other t in
                    later_rank rank l.0 other r l.1 m.0 l.2 m.1 l.3 s)
              ],
            ))
        | inr k ↦
            (let ih = kept_ranks others (suc rank) r p.1 k.1 in (
              inr ih.0,
              λ other. elim [
                | inl t ↦ λ s. none_left node t.0 (map_none _ _ k.0) t.2
                | inr t ↦ λ s. ih.1 other t s
              ],
            ))
      ]

-- Each trace that no trace shadows is kept.
mutual
  pub all_kept : {A : Type 0} (node : Node A) (r : List (Turn A)) → IsProper node → IsTraceIn node r → Spared (IsTraceIn node) r → IsIn (failures node) r
  all_kept Failure r p h s = inl (sym h)
  all_kept (Open is_visit choices) r p h s = all_kept_choices choices r p.1 h s
  all_kept (Ranked ranks) r p h s = all_kept_ranks ranks 0 r p h s

  all_kept_choices : {A : Type 0} (choices : Choices A) (r : List (Turn A)) → AreProperChoices choices → IsTraceOfChoices choices r → Spared (IsTraceOfChoices choices) r → IsIn (failures_of_choices choices) r
  all_kept_choices NoChoice r p h s = absurd h
  all_kept_choices {A} (Choice turn node others) r p (inl h) s =
      let ih = all_kept node h.0 p.0 h.2 (λ b t g. s (Free turn ∷ b) (inl (b, refl, t)) (wrap _ r (Free turn) (Free turn) b h.0 refl h.1 (inr (refl, g)))) in
      in_left _ _ r (subst (λ (x : List (Turn A)). IsIn (map (λ below. Free turn ∷ below) (failures node)) x) (sym h.1) (in_map (λ below. Free turn ∷ below) (failures node) h.0 ih))
  all_kept_choices (Choice turn node others) r p (inr h) s =
      in_right _ _ r (all_kept_choices others r p.1 h (λ b t g. s b (inr t) g))

  all_kept_ranks : {A : Type 0} (ranks : Ranks A) (rank : ℕ) (r : List (Turn A)) → AreProperRanks ranks → IsTraceOfRanks ranks rank r → Spared (IsTraceOfRanks ranks rank) r → IsIn (failures_of_ranks ranks rank) r
  all_kept_ranks NoRank rank r p h s = absurd h
  all_kept_ranks {A} (NextRank node others) rank r p (inl h) s =
      let ih = all_kept node h.0 p.0 h.2 (λ b t g. s (Rank rank ∷ b) (inl (b, refl, t)) (wrap _ r (Rank rank) (Rank rank) b h.0 refl h.1 (inr (refl, g)))) in
      or_else_left _ _ r (subst (λ (x : List (Turn A)). IsIn (map (λ below. Rank rank ∷ below) (failures node)) x) (sym h.1) (in_map (λ below. Rank rank ∷ below) (failures node) h.0 ih))
  all_kept_ranks (NextRank node others) rank r p (inr h) s =
      elim (none_or_some (failures node)) [
        | inl e ↦ or_else_right _ _ r (none_map _ _ e) (all_kept_ranks others (suc rank) r p.1 h (λ b t g. s b (inr t) g))
        | inr f ↦
            (let l = rank_of_trace others (suc rank) r h in
            absurd (s (Rank rank ∷ f.0) (inl (f.0, refl, (kept node f.0 p.0 f.1).0)) (wrap _ r (Rank rank) (Rank l.0) f.0 l.1 refl l.2 (inl l.3))))
      ]
