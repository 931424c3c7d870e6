-- The visits that the evaluation enters are those that no trace shadows.
use Rattle.std.proofs.Common.{◌≡◌, ℕ, suc, ◌≤◌, List, [], ◌∷◌, map, inl, inr, refl, sym, subst, arith, Bool, true, false}
use Rattle.fv_graph.proofs.Lists.{in_left, in_right, in_cases}
use Rattle.fv_graph.specs.Graph.{IsIn, AllDiffer}
use Rattle.fv_walk_traces.proofs.Exact.{none_left, label_of_trace, rank_of_trace, Spared, same_free, same_rank, other_free, later_rank, kept}
use Rattle.fv_walk_traces.proofs.Lists.{none_or_some, in_if_none, from_if_none}
use Rattle.fv_graph.proofs.Images.{in_map, from_map}
use Rattle.fv_walk_traces.proofs.Shadowing.{wrap}
use Rattle.fv_walk_traces.specs.Tree.{Node, Failure, Open, Ranked, Choices, NoChoice, Choice, Ranks, NoRank, NextRank, IsTraceIn, IsTraceOfChoices, IsTraceOfRanks, IsHere, IsVisitIn, IsVisitOfChoices, IsVisitOfRanks, labels, IsProper, AreProperChoices, AreProperRanks, here, failures, entered, entered_of_choices, entered_of_ranks, visits, visits_of_choices, visits_of_ranks}
use Rattle.fv_walk_traces.specs.Turns.{Turn, Free, Rank, ShadowsByRecursion}

pub label_of_visit : {A : Type 0} (choices : Choices A) (v : List (Turn A)) → IsVisitOfChoices choices v → (turn : A) × (below : List (Turn A)) × (v ≡ Free turn ∷ below) × IsIn (labels choices) turn
label_of_visit NoChoice v h = absurd h
label_of_visit (Choice turn node others) v (inl h) = (turn, h.0, h.1, inl refl)
label_of_visit (Choice turn node others) v (inr h) = let k = label_of_visit others v h in (k.0, k.1, k.2, inr k.3)

pub rank_of_visit : {A : Type 0} (ranks : Ranks A) (rank : ℕ) (v : List (Turn A)) → IsVisitOfRanks ranks rank v → (j : ℕ) × (below : List (Turn A)) × (v ≡ Rank j ∷ below) × (rank ≤ j)
rank_of_visit NoRank rank v h = absurd h
rank_of_visit (NextRank node others) rank v (inl h) = (rank, h.0, h.1, omega arith)
rank_of_visit (NextRank node others) rank v (inr h) = let k = rank_of_visit others (suc rank) v h in (k.0, k.1, k.2, omega (arith, k.3))

pub from_here : {A : Type 0} (is_visit : Bool) (v : List (Turn A)) → IsIn (here is_visit) v → IsHere is_visit v
from_here true v (inl e) = sym e
from_here true v (inr h) = absurd h
from_here false v h = absurd h

pub to_here : {A : Type 0} (is_visit : Bool) (v : List (Turn A)) → IsHere is_visit v → IsIn (here is_visit) v
to_here true v h = inl (sym h)
to_here false v h = absurd h

pub here_is_none : {A : Type 0} (is_visit : Bool) (v : List (Turn A)) → IsHere is_visit v → v ≡ []
here_is_none true v h = h
here_is_none false v h = absurd h

none_shadows : {A : Type 0} (other : List (Turn A)) → ShadowsByRecursion other [] → ⊥
none_shadows [] s = s
none_shadows (x ∷ xs) s = s

-- What is entered is a visit, and no trace shadows it.
mutual
  pub was_entered : {A : Type 0} (node : Node A) (v : List (Turn A)) → IsProper node → IsIn (entered node) v → IsVisitIn node v × Spared (IsTraceIn node) v
  was_entered Failure v p h = absurd h
  was_entered {A} (Open is_visit choices) v p h =
      elim (in_cases _ _ v h) [
        | inl k ↦
            (let e = from_here is_visit v k in
            (inl e, λ other t s. none_shadows other (subst (λ (l : List (Turn A)). ShadowsByRecursion other l) (here_is_none is_visit v e) s)))
        | inr k ↦ (let ih = was_entered_choices choices v p.0 p.1 k in (inr ih.0, ih.1))
      ]
  was_entered (Ranked ranks) v p h = was_entered_ranks ranks 0 v p h

  pub was_entered_choices : {A : Type 0} (choices : Choices A) (v : List (Turn A)) → AllDiffer (labels choices) → AreProperChoices choices → IsIn (entered_of_choices choices) v → IsVisitOfChoices choices v × Spared (IsTraceOfChoices choices) v
  was_entered_choices NoChoice v d p h = absurd h
  was_entered_choices {A} (Choice turn node others) v d p h =
      elim (in_cases _ _ v h) [
        | inl k ↦
            (let m = from_map (λ below. Free turn ∷ below) (entered node) v k in
            let ih = was_entered node m.0 p.0 m.2 in (
              inl (m.0, m.1, ih.0),
              λ other. elim [
                | inl t ↦ λ s. ih.1 t.0 t.2 (same_free turn other v t.0 m.0 t.1 m.1 s)
                | inr t ↦ λ s.
                    (let l = label_of_trace others other t in
                    d.0 (subst (λ (x : A). IsIn (labels others) x) (other_free l.0 turn other v l.1 m.0 l.2 m.1 s) l.3))
              ],
            ))
        | inr k ↦
            (let ih = was_entered_choices others v d.1 p.1 k in
            let l = label_of_visit others v ih.0 in (
              inr ih.0,
              λ other. elim [
                | inl t ↦ λ s. d.0 (subst (λ (x : A). IsIn (labels others) x) (sym (other_free turn l.0 other v t.0 l.1 t.1 l.2 s)) l.3)
                | inr t ↦ λ s. ih.1 other t s
              ],
            ))
      ]

  pub was_entered_ranks : {A : Type 0} (ranks : Ranks A) (rank : ℕ) (v : List (Turn A)) → AreProperRanks ranks → IsIn (entered_of_ranks ranks rank) v → IsVisitOfRanks ranks rank v × Spared (IsTraceOfRanks ranks rank) v
  was_entered_ranks NoRank rank v p h = absurd h
  was_entered_ranks (NextRank node others) rank v p h =
      elim (in_cases _ _ v h) [
        | inl k ↦
            (let m = from_map (λ below. Rank rank ∷ below) (entered node) v k in
            let ih = was_entered node m.0 p.0 m.2 in (
              inl (m.0, m.1, ih.0),
              λ other. elim [
                | inl t ↦ λ s. ih.1 t.0 t.2 (same_rank rank other v t.0 m.0 t.1 m.1 s)
                | inr t ↦ λ s.
                    (let l = rank_of_trace others (suc rank) other t in
                    later_rank rank l.0 other v l.1 m.0 l.2 m.1 l.3 s)
              ],
            ))
        | inr k ↦
            (let m = from_if_none (failures node) (entered_of_ranks others (suc rank)) v k in
            let ih = was_entered_ranks others (suc rank) v p.1 m.1 in (
              inr ih.0,
              λ other. elim [
                | inl t ↦ λ s. none_left node t.0 m.0 t.2
                | inr t ↦ λ s. ih.1 other t s
              ],
            ))
      ]

-- Each visit that no trace shadows is entered.
mutual
  pub all_entered : {A : Type 0} (node : Node A) (v : List (Turn A)) → IsProper node → IsVisitIn node v → Spared (IsTraceIn node) v → IsIn (entered node) v
  all_entered Failure v p h s = absurd h
  all_entered (Open is_visit choices) v p (inl h) s = in_left _ _ v (to_here is_visit v h)
  all_entered (Open is_visit choices) v p (inr h) s = in_right _ _ v (all_entered_choices choices v p.1 h s)
  all_entered (Ranked ranks) v p h s = all_entered_ranks ranks 0 v p h s

  all_entered_choices : {A : Type 0} (choices : Choices A) (v : List (Turn A)) → AreProperChoices choices → IsVisitOfChoices choices v → Spared (IsTraceOfChoices choices) v → IsIn (entered_of_choices choices) v
  all_entered_choices NoChoice v p h s = absurd h
  all_entered_choices {A} (Choice turn node others) v p (inl h) s =
      let ih = all_entered node h.0 p.0 h.2 (λ b t g. s (Free turn ∷ b) (inl (b, refl, t)) (wrap _ v (Free turn) (Free turn) b h.0 refl h.1 (inr (refl, g)))) in
      in_left _ _ v (subst (λ (x : List (Turn A)). IsIn (map (λ below. Free turn ∷ below) (entered node)) x) (sym h.1) (in_map (λ below. Free turn ∷ below) (entered node) h.0 ih))
  all_entered_choices (Choice turn node others) v p (inr h) s =
      in_right _ _ v (all_entered_choices others v p.1 h (λ b t g. s b (inr t) g))

  all_entered_ranks : {A : Type 0} (ranks : Ranks A) (rank : ℕ) (v : List (Turn A)) → AreProperRanks ranks → IsVisitOfRanks ranks rank v → Spared (IsTraceOfRanks ranks rank) v → IsIn (entered_of_ranks ranks rank) v
  all_entered_ranks NoRank rank v p h s = absurd h
  all_entered_ranks {A} (NextRank node others) rank v p (inl h) s =
      let ih = all_entered node h.0 p.0 h.2 (λ b t g. s (Rank rank ∷ b) (inl (b, refl, t)) (wrap _ v (Rank rank) (Rank rank) b h.0 refl h.1 (inr (refl, g)))) in
      in_left _ _ v (subst (λ (x : List (Turn A)). IsIn (map (λ below. Rank rank ∷ below) (entered node)) x) (sym h.1) (in_map (λ below. Rank rank ∷ below) (entered node) h.0 ih))
  all_entered_ranks (NextRank node others) rank v p (inr h) s =
      elim (none_or_some (failures node)) [
        | inl e ↦ in_right _ _ v (in_if_none _ _ v e (all_entered_ranks others (suc rank) v p.1 h (λ b t g. s b (inr t) g)))
        | inr f ↦
            (let l = rank_of_visit others (suc rank) v h in
            absurd (s (Rank rank ∷ f.0) (inl (f.0, refl, (kept node f.0 p.0 f.1).0)) (wrap _ v (Rank rank) (Rank l.0) f.0 l.1 refl l.2 (inl l.3))))
      ]

-- The list of all visits has exactly the visits.
mutual
  pub visit_listed : {A : Type 0} (node : Node A) (v : List (Turn A)) → IsVisitIn node v → IsIn (visits node) v
  visit_listed Failure v h = absurd h
  visit_listed (Open is_visit choices) v (inl h) = in_left _ _ v (to_here is_visit v h)
  visit_listed (Open is_visit choices) v (inr h) = in_right _ _ v (visit_listed_choices choices v h)
  visit_listed (Ranked ranks) v h = visit_listed_ranks ranks 0 v h

  visit_listed_choices : {A : Type 0} (choices : Choices A) (v : List (Turn A)) → IsVisitOfChoices choices v → IsIn (visits_of_choices choices) v
  visit_listed_choices NoChoice v h = absurd h
  visit_listed_choices {A} (Choice turn node others) v (inl h) =
      in_left _ _ v (subst (λ (x : List (Turn A)). IsIn (map (λ below. Free turn ∷ below) (visits node)) x) (sym h.1) (in_map (λ below. Free turn ∷ below) (visits node) h.0 (visit_listed node h.0 h.2)))
  visit_listed_choices (Choice turn node others) v (inr h) = in_right _ _ v (visit_listed_choices others v h)

  visit_listed_ranks : {A : Type 0} (ranks : Ranks A) (rank : ℕ) (v : List (Turn A)) → IsVisitOfRanks ranks rank v → IsIn (visits_of_ranks ranks rank) v
  visit_listed_ranks NoRank rank v h = absurd h
  visit_listed_ranks {A} (NextRank node others) rank v (inl h) =
      in_left _ _ v (subst (λ (x : List (Turn A)). IsIn (map (λ below. Rank rank ∷ below) (visits node)) x) (sym h.1) (in_map (λ below. Rank rank ∷ below) (visits node) h.0 (visit_listed node h.0 h.2)))
  visit_listed_ranks (NextRank node others) rank v (inr h) = in_right _ _ v (visit_listed_ranks others (suc rank) v h)

mutual
  pub listed_visit : {A : Type 0} (node : Node A) (v : List (Turn A)) → IsIn (visits node) v → IsVisitIn node v
  listed_visit Failure v h = absurd h
  listed_visit (Open is_visit choices) v h =
      elim (in_cases _ _ v h) [ inl k ↦ inl (from_here is_visit v k) | inr k ↦ inr (listed_visit_choices choices v k) ]
  listed_visit (Ranked ranks) v h = listed_visit_ranks ranks 0 v h

  pub listed_visit_choices : {A : Type 0} (choices : Choices A) (v : List (Turn A)) → IsIn (visits_of_choices choices) v → IsVisitOfChoices choices v
  listed_visit_choices NoChoice v h = absurd h
  listed_visit_choices (Choice turn node others) v h =
      elim (in_cases _ _ v h) [
        | inl k ↦ (let m = from_map (λ below. Free turn ∷ below) (visits node) v k in inl (m.0, m.1, listed_visit node m.0 m.2))
        | inr k ↦ inr (listed_visit_choices others v k)
      ]

  pub listed_visit_ranks : {A : Type 0} (ranks : Ranks A) (rank : ℕ) (v : List (Turn A)) → IsIn (visits_of_ranks ranks rank) v → IsVisitOfRanks ranks rank v
  listed_visit_ranks NoRank rank v h = absurd h
  listed_visit_ranks (NextRank node others) rank v h =
      elim (in_cases _ _ v h) [
        | inl k ↦ (let m = from_map (λ below. Rank rank ∷ below) (visits node) v k in inl (m.0, m.1, listed_visit node m.0 m.2))
        | inr k ↦ inr (listed_visit_ranks others (suc rank) v k)
      ]
