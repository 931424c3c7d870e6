-- Each failure, each entered visit and each visit is listed once.
use Rattle.std.proofs.Common.{◌≡◌, ℕ, suc, ◌<◌, List, [], ◌∷◌, sym, subst, arith, Bool, true, false}
use Rattle.fv_graph.proofs.Lists.{AllDiffer-append}
use Rattle.fv_graph.specs.Graph.{IsIn, AllDiffer}
use Rattle.fv_walk_traces.proofs.Arrivals.{label_of_visit, rank_of_visit, was_entered_choices, was_entered_ranks, listed_visit_choices, listed_visit_ranks, from_here, here_is_none}
use Rattle.fv_walk_traces.proofs.Exact.{label_of_trace, kept_choices}
use Rattle.fv_walk_traces.proofs.Lists.{from_if_none, AllDiffer-or_else, AllDiffer-if_none}
use Rattle.fv_graph.proofs.Images.{from_map, AllDiffer-map}
use Rattle.fv_walk_traces.specs.Tree.{Node, Failure, Open, Ranked, Choices, NoChoice, Choice, Ranks, NoRank, NextRank, labels, IsProper, AreProperChoices, AreProperRanks, here, failures, failures_of_choices, failures_of_ranks, entered, entered_of_choices, entered_of_ranks, visits, visits_of_choices, visits_of_ranks}
use Rattle.fv_walk_traces.specs.Turns.{Turn, Free, Rank}

below_injective : {A : Type 0} (x : Turn A) (xs ys : List (Turn A)) → ◌≡◌ {A = List (Turn A)} (x ∷ xs) (x ∷ ys) → xs ≡ ys
below_injective x xs ys e = cc

labels_apart : {A : Type 0} (a b : A) (x xs ys : List (Turn A)) (seen : List A) → (IsIn seen a → ⊥) → IsIn seen b → x ≡ Free a ∷ xs → x ≡ Free b ∷ ys → ⊥
labels_apart {A} a b x xs ys seen new old e d =
    let q : a ≡ b = cc in
    new (subst (λ (z : A). IsIn seen z) (sym q) old)

ranks_apart : {A : Type 0} (i j : ℕ) (x xs ys : List (Turn A)) → i < j → x ≡ Rank i ∷ xs → x ≡ Rank j ∷ ys → ⊥
ranks_apart i j x xs ys less e d = let q : i ≡ j = cc in omega arith

none_apart : {A : Type 0} (t : Turn A) (x xs : List (Turn A)) → x ≡ [] → x ≡ t ∷ xs → ⊥
none_apart t x xs e d = cc

mutual
  pub failures_differ : {A : Type 0} (node : Node A) → IsProper node → AllDiffer (failures node)
  failures_differ Failure p = (λ h. h, tt)
  failures_differ (Open is_visit choices) p = failures_of_choices_differ choices p.0 p.1
  failures_differ (Ranked ranks) p = failures_of_ranks_differ ranks 0 p

  failures_of_choices_differ : {A : Type 0} (choices : Choices A) → AllDiffer (labels choices) → AreProperChoices choices → AllDiffer (failures_of_choices choices)
  failures_of_choices_differ NoChoice d p = tt
  failures_of_choices_differ (Choice turn node others) d p =
      AllDiffer-append _ _
      (AllDiffer-map (λ below. Free turn ∷ below) (below_injective (Free turn)) (failures node) (failures_differ node p.0))
      (failures_of_choices_differ others d.1 p.1)
      (λ x h k.
      let m = from_map (λ below. Free turn ∷ below) (failures node) x h in
      let l = label_of_trace others x (kept_choices others x d.1 p.1 k).0 in
      labels_apart turn l.0 x m.0 l.1 (labels others) d.0 l.3 m.1 l.2)

  failures_of_ranks_differ : {A : Type 0} (ranks : Ranks A) (rank : ℕ) → AreProperRanks ranks → AllDiffer (failures_of_ranks ranks rank)
  failures_of_ranks_differ NoRank rank p = tt
  failures_of_ranks_differ (NextRank node others) rank p =
      AllDiffer-or_else _ _
      (AllDiffer-map (λ below. Rank rank ∷ below) (below_injective (Rank rank)) (failures node) (failures_differ node p.0))
      (failures_of_ranks_differ others (suc rank) p.1)

here_differs : (A : Type 0) (is_visit : Bool) → AllDiffer (here {A = A} is_visit)
here_differs A true = (λ h. h, tt)
here_differs A false = tt

mutual
  pub entered_differ : {A : Type 0} (node : Node A) → IsProper node → AllDiffer (entered node)
  entered_differ Failure p = tt
  entered_differ (Open is_visit choices) p =
      AllDiffer-append _ _ (here_differs _ is_visit) (entered_of_choices_differ choices p.0 p.1)
      (λ x h k.
      let l = label_of_visit choices x (was_entered_choices choices x p.0 p.1 k).0 in
      none_apart (Free l.0) x l.1 (here_is_none is_visit x (from_here is_visit x h)) l.2)
  entered_differ (Ranked ranks) p = entered_of_ranks_differ ranks 0 p

  entered_of_choices_differ : {A : Type 0} (choices : Choices A) → AllDiffer (labels choices) → AreProperChoices choices → AllDiffer (entered_of_choices choices)
  entered_of_choices_differ NoChoice d p = tt
  entered_of_choices_differ (Choice turn node others) d p =
      AllDiffer-append _ _
      (AllDiffer-map (λ below. Free turn ∷ below) (below_injective (Free turn)) (entered node) (entered_differ node p.0))
      (entered_of_choices_differ others d.1 p.1)
      (λ x h k.
      let m = from_map (λ below. Free turn ∷ below) (entered node) x h in
      let l = label_of_visit others x (was_entered_choices others x d.1 p.1 k).0 in
      labels_apart turn l.0 x m.0 l.1 (labels others) d.0 l.3 m.1 l.2)

  entered_of_ranks_differ : {A : Type 0} (ranks : Ranks A) (rank : ℕ) → AreProperRanks ranks → AllDiffer (entered_of_ranks ranks rank)
  entered_of_ranks_differ NoRank rank p = tt
  entered_of_ranks_differ (NextRank node others) rank p =
      AllDiffer-append _ _
      (AllDiffer-map (λ below. Rank rank ∷ below) (below_injective (Rank rank)) (entered node) (entered_differ node p.0))
      (AllDiffer-if_none (failures node) _ (entered_of_ranks_differ others (suc rank) p.1))
      (λ x h k.
      let m = from_map (λ below. Rank rank ∷ below) (entered node) x h in
      let g = from_if_none (failures node) (entered_of_ranks others (suc rank)) x k in
      let l = rank_of_visit others (suc rank) x (was_entered_ranks others (suc rank) x p.1 g.1).0 in
      ranks_apart rank l.0 x m.0 l.1 l.3 m.1 l.2)

mutual
  pub visits_differ : {A : Type 0} (node : Node A) → IsProper node → AllDiffer (visits node)
  visits_differ Failure p = tt
  visits_differ (Open is_visit choices) p =
      AllDiffer-append _ _ (here_differs _ is_visit) (visits_of_choices_differ choices p.0 p.1)
      (λ x h k.
      let l = label_of_visit choices x (listed_visit_choices choices x k) in
      none_apart (Free l.0) x l.1 (here_is_none is_visit x (from_here is_visit x h)) l.2)
  visits_differ (Ranked ranks) p = visits_of_ranks_differ ranks 0 p

  visits_of_choices_differ : {A : Type 0} (choices : Choices A) → AllDiffer (labels choices) → AreProperChoices choices → AllDiffer (visits_of_choices choices)
  visits_of_choices_differ NoChoice d p = tt
  visits_of_choices_differ (Choice turn node others) d p =
      AllDiffer-append _ _
      (AllDiffer-map (λ below. Free turn ∷ below) (below_injective (Free turn)) (visits node) (visits_differ node p.0))
      (visits_of_choices_differ others d.1 p.1)
      (λ x h k.
      let m = from_map (λ below. Free turn ∷ below) (visits node) x h in
      let l = label_of_visit others x (listed_visit_choices others x k) in
      labels_apart turn l.0 x m.0 l.1 (labels others) d.0 l.3 m.1 l.2)

  visits_of_ranks_differ : {A : Type 0} (ranks : Ranks A) (rank : ℕ) → AreProperRanks ranks → AllDiffer (visits_of_ranks ranks rank)
  visits_of_ranks_differ NoRank rank p = tt
  visits_of_ranks_differ (NextRank node others) rank p =
      AllDiffer-append _ _
      (AllDiffer-map (λ below. Rank rank ∷ below) (below_injective (Rank rank)) (visits node) (visits_differ node p.0))
      (visits_of_ranks_differ others (suc rank) p.1)
      (λ x h k.
      let m = from_map (λ below. Rank rank ∷ below) (visits node) x h in
      let l = rank_of_visit others (suc rank) x (listed_visit_ranks others (suc rank) x k) in
      ranks_apart rank l.0 x m.0 l.1 l.3 m.1 l.2)
