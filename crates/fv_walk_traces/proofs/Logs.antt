-- What the log finds are the failures, and what it enters are the entered visits.
use Rattle.std.proofs.Common.{◌≡◌, ℕ, suc, ◌+◌, List, [], ◌∷◌, ◌++◌, map, length, refl, ap, ◌∙◌, arith, Bool, true, false, length-append, fold}
use Rattle.std.proofs.lemmas.List.{length-map, map-append}
use Rattle.fv_walk_traces.specs.Turns.{Turn, Free, Rank}
use Rattle.fv_walk_traces.specs.OneObject.{or_else, if_none}
use Rattle.fv_walk_traces.specs.Tree.{Node, Failure, Open, Ranked, Choices, NoChoice, Choice, Ranks, NoRank, NextRank, here, failures, failures_of_choices, failures_of_ranks, entered, entered_of_choices, entered_of_ranks}
use Rattle.fv_walk_traces.specs.Log.{Event, Entered, Found, entering, log, log_of_choices, log_of_ranks, finds, entries}

pub finds-append : {X : Type 0} (xs ys : List (Event X)) → finds (xs ++ ys) ≡ finds xs ++ finds ys
finds-append [] ys = refl
finds-append (Entered ∷ xs) ys = finds-append xs ys
finds-append (Found x ∷ xs) ys = ap (λ l. x ∷ l) (finds-append xs ys)

pub entries-append : {X : Type 0} (xs ys : List (Event X)) → entries (xs ++ ys) ≡ entries xs + entries ys
entries-append [] ys = omega arith
entries-append (Entered ∷ xs) ys = let e = entries-append xs ys in omega (arith, e)
entries-append (Found x ∷ xs) ys = entries-append xs ys

told_map : {A X : Type 0} (on : X → Turn A → X) (x : X) (turn : Turn A) (rs : List (List (Turn A))) → map (λ r. fold on x r) (map (λ below. turn ∷ below) rs) ≡ map (λ r. fold on (on x turn) r) rs
told_map on x turn [] = refl
told_map on x turn (r ∷ rs) = ap (λ l. fold on (on x turn) r ∷ l) (told_map on x turn rs)

finds_entering : {X : Type 0} (b : Bool) (xs : List (Event X)) → finds (entering b ++ xs) ≡ finds xs
finds_entering true xs = refl
finds_entering false xs = refl

entries_entering : {A X : Type 0} (b : Bool) (xs : List (Event X)) (ys : List (List (Turn A))) → entries xs ≡ length ys → entries (entering b ++ xs) ≡ length (here b ++ ys)
entries_entering true xs ys e = omega (arith, e)
entries_entering false xs ys e = e

map_or_else : {A X : Type 0} (f : List (Turn A) → X) (turn : Turn A) (xs : List (List (Turn A))) (ys : List (List (Turn A))) (more : List (Event X)) → finds more ≡ map f ys → map f (map (λ below. turn ∷ below) xs) ++ finds (if_none xs more) ≡ map f (or_else (map (λ below. turn ∷ below) xs) ys)
map_or_else f turn [] ys more e = e
map_or_else f turn (x ∷ xs) ys more e = append-nil _
  where
    append-nil : {X : Type 0} (xs : List X) → xs ++ [] ≡ xs
    append-nil [] = refl
    append-nil (x ∷ xs) = ap (λ l. x ∷ l) (append-nil xs)

mutual
  pub finds_log : {A X : Type 0} (on : X → Turn A → X) (x : X) (node : Node A) → finds (log on x node) ≡ map (λ r. fold on x r) (failures node)
  finds_log on x Failure = refl
  finds_log on x (Open is_visit choices) = finds_entering is_visit (log_of_choices on x choices) ∙ finds_choices on x choices
  finds_log on x (Ranked ranks) = finds_ranks on x 0 ranks

  pub finds_choices : {A X : Type 0} (on : X → Turn A → X) (x : X) (choices : Choices A) → finds (log_of_choices on x choices) ≡ map (λ r. fold on x r) (failures_of_choices choices)
  finds_choices on x NoChoice = refl
  finds_choices on x (Choice turn node others) =
      let e1 = finds-append (log on (on x (Free turn)) node) (log_of_choices on x others) in
      let e2 = finds_log on (on x (Free turn)) node in
      let e3 = finds_choices on x others in
      let e4 = told_map on x (Free turn) (failures node) in
      let e5 = map-append (λ r. fold on x r) (map (λ below. Free turn ∷ below) (failures node)) (failures_of_choices others) in
      cc

  pub finds_ranks : {A X : Type 0} (on : X → Turn A → X) (x : X) (rank : ℕ) (ranks : Ranks A) → finds (log_of_ranks on x rank ranks) ≡ map (λ r. fold on x r) (failures_of_ranks ranks rank)
  finds_ranks on x rank NoRank = refl
  finds_ranks on x rank (NextRank node others) =
      let e1 = finds-append (log on (on x (Rank rank)) node) (if_none (failures node) (log_of_ranks on x (suc rank) others)) in
      let e2 = finds_log on (on x (Rank rank)) node in
      let e3 = finds_ranks on x (suc rank) others in
      let e4 = told_map on x (Rank rank) (failures node) in
      let e5 = map_or_else (λ r. fold on x r) (Rank rank) (failures node) (failures_of_ranks others (suc rank)) (log_of_ranks on x (suc rank) others) e3 in
      cc

entries_if_none : {A X Y : Type 0} (xs : List Y) (more : List (Event X)) (ys : List (List (Turn A))) → entries more ≡ length ys → entries (if_none xs more) ≡ length (if_none xs ys)
entries_if_none [] more ys e = e
entries_if_none (x ∷ xs) more ys e = refl

mutual
  pub entries_log : {A X : Type 0} (on : X → Turn A → X) (x : X) (node : Node A) → entries (log on x node) ≡ length (entered node)
  entries_log on x Failure = refl
  entries_log on x (Open is_visit choices) = entries_entering is_visit (log_of_choices on x choices) (entered_of_choices choices) (entries_choices on x choices)
  entries_log on x (Ranked ranks) = entries_ranks on x 0 ranks

  entries_choices : {A X : Type 0} (on : X → Turn A → X) (x : X) (choices : Choices A) → entries (log_of_choices on x choices) ≡ length (entered_of_choices choices)
  entries_choices on x NoChoice = refl
  entries_choices on x (Choice turn node others) =
      let e1 = entries-append (log on (on x (Free turn)) node) (log_of_choices on x others) in
      let e2 = entries_log on (on x (Free turn)) node in
      let e3 = entries_choices on x others in
      let e4 = length-append (map (λ below. Free turn ∷ below) (entered node)) (entered_of_choices others) in
      let e5 = length-map (entered node) (λ below. Free turn ∷ below) in
      omega (arith, e1, e2, e3, e4, e5)

  entries_ranks : {A X : Type 0} (on : X → Turn A → X) (x : X) (rank : ℕ) (ranks : Ranks A) → entries (log_of_ranks on x rank ranks) ≡ length (entered_of_ranks ranks rank)
  entries_ranks on x rank NoRank = refl
  entries_ranks on x rank (NextRank node others) =
      let e1 = entries-append (log on (on x (Rank rank)) node) (if_none (failures node) (log_of_ranks on x (suc rank) others)) in
      let e2 = entries_log on (on x (Rank rank)) node in
      let e3 = entries_if_none (failures node) (log_of_ranks on x (suc rank) others) (entered_of_ranks others (suc rank)) (entries_ranks on x (suc rank) others) in
      let e4 = length-append (map (λ below. Rank rank ∷ below) (entered node)) (if_none (failures node) (entered_of_ranks others (suc rank))) in
      let e5 = length-map (entered node) (λ below. Rank rank ∷ below) in
      omega (arith, e1, e2, e3, e4, e5)
