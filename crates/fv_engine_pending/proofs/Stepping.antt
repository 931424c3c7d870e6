-- Parts are made one after another.
use Rattle.std.proofs.Common.{◌≡◌, ◌+◌, ℕ, List, [], ◌∷◌, ◌++◌, map, length, Result, Ok, Err, OnOk, append-nil, refl, sym, ap, subst, ◌∙◌, arith}
use Rattle.std.proofs.lemmas.List.{map-append}
use Rattle.fv_datum.specs.Outcomes.{Gives}
use Rattle.fv_engine_pending.specs.Fits.{Keeps}
use Rattle.fv_engine_pending.specs.Parts.{and_then}
use Rattle.fv_engine_pending.specs.Steps.{Staged, step_view, step_made, steps_made, numbered}
use Rattle.fv_engine_pending.specs.Ways.{Way}
use Rattle.fv_engine_pending.specs.declared.parts.Step.{Step}
use Rattle.fv_engine_pending.proofs.Fitting.{keeps_more}
use Rattle.fv_bundle.specs.Types.{Declared}

-- what follows where a call has made what is given
pub where_made : {X E Y : Type 0} (memory : E) (new : Y) (r : Result X E) (given : Result Y E) (P : Type 0) → Gives memory (λ _. new) r given → (given ≡ Ok new → P) → OnOk r P
where_made memory new (Ok x) given P gives follows = follows gives
where_made memory new (Err e) given P gives follows = tt

pub same_value : {Y E : Type 0} (a b : Y) → ◌≡◌ {A = Result Y E} (Ok a) (Ok b) → a ≡ b
same_value a b is = cc

-- the first was made
pub first_made : (types : Declared) (n : ℕ) (s : Staged) (ss : List Staged) (way mid : Way) → step_made types s way ≡ Ok mid → steps_made types n (s ∷ ss) way ≡ steps_made types (n + 1) ss mid
first_made types n s ss way mid is = ap (λ r. and_then (steps_made types (n + 1) ss) (numbered n r)) is

-- one more is kept well-typed and fitting
pub keeps_next : (types : Declared) (done : List Step) (step : Step) (way mid new : Way) → Keeps types (map step_view done) way mid → Keeps types (step_view step ∷ []) mid new → Keeps types (map step_view (done ++ step ∷ [])) way new
keeps_next types done step way mid new was now =
    subst (λ ss. Keeps types ss way new) (sym (map-append step_view done (step ∷ []))) (keeps_more types (map step_view done) (step_view step ∷ []) way mid new was now)

-- none is left
pub none_left : {X : Type 0} (xs : List X) → length xs ≡ 0 → xs ≡ []
none_left [] is = refl
none_left (x ∷ xs) is = absurd (omega arith)

pub keeps_all : (types : Declared) (done left all : List Step) (way new : Way) → left ≡ [] → done ++ left ≡ all → Keeps types (map step_view done) way new → Keeps types (map step_view all) way new
keeps_all types done left all way new none is keeps = subst (λ ss. Keeps types (map step_view ss) way new) (sym (append-nil done) ∙ ap (λ xs. done ++ xs) (sym none) ∙ is) keeps
