-- The parts at one step more.
use Rattle.std.proofs.Common.{◌≡◌, ℕ, ◌+◌, ◌<◌, length, get_or, take, List, [], ◌∷◌, ◌++◌, map, refl, sym, ap, ap₂, ◌∙◌, append_assoc, append-nil}
use Rattle.std.specs.List.{flat_map}
use Rattle.std.proofs.lemmas.Grind.{flat_map-append}
use Rattle.std.proofs.lemmas.List.{map-append, take_more}
use Rattle.fv_datum.specs.Data.{Data}
use Rattle.fv_extract.specs.Parts.{Locus, inside, parts_below, further, parts_of}
use Rattle.fv_extract.specs.Places.{PlaceStep}
use Rattle.fv_extract.specs.Views.{step_view}
use Rattle.fv_extract.specs.declared.place.Step.{Step as CodeStep}

module _ {X Y : Type 0} where
  flat_same : (f g : X → List Y) (xs : List X) → ((x : X) → f x ≡ g x) → flat_map f xs ≡ flat_map g xs
  flat_same f g [] same = refl
  flat_same f g (x ∷ xs) same = ap₂ (λ (a b : List Y). a ++ b) (same x) (flat_same f g xs same)

flat_flat : {X Y Z : Type 0} (f : X → List Y) (g : Y → List Z) (xs : List X) → flat_map g (flat_map f xs) ≡ flat_map (λ x. flat_map g (f x)) xs
flat_flat f g [] = refl
flat_flat f g (x ∷ xs) = flat_map-append g (f x) (flat_map f xs) ∙ ap (λ l. flat_map g (f x) ++ l) (flat_flat f g xs)

below_twice : (l m : Locus) (ps : List (Locus × Data)) → map (parts_below (l ++ m)) ps ≡ map (parts_below l) (map (parts_below m) ps)
below_twice l m [] = refl
below_twice l m (p ∷ ps) = ap₂ (λ (k : Locus) (qs : List (Locus × Data)). (k, p.1) ∷ qs) (append_assoc l m p.0) (below_twice l m ps)

further_below : (step : PlaceStep) (l : Locus) (ps : List (Locus × Data)) → flat_map (further step) (map (parts_below l) ps) ≡ map (parts_below l) (flat_map (further step) ps)
further_below step l [] = refl
further_below step l (p ∷ ps) =
    ap₂ (λ (a b : List (Locus × Data)). a ++ b) (below_twice l p.0 (inside step p.1)) (further_below step l ps)
    ∙ sym (map-append (parts_below l) (further step p) (flat_map (further step) ps))

one_step : (ps : List (Locus × Data)) → flat_map (λ p. map (parts_below p.0) (([], p.1) ∷ [])) ps ≡ map (parts_below []) ps ++ []
one_step [] = refl
one_step (p ∷ ps) = ap₂ (λ (k : Locus) (qs : List (Locus × Data)). (k, p.1) ∷ qs) (append-nil p.0) (one_step ps)

-- the parts at one step more are what lies that step further inside each of the parts
pub parts_of-push : (steps : List PlaceStep) (step : PlaceStep) (d : Data) → parts_of (steps ++ step ∷ []) d ≡ flat_map (further step) (parts_of steps d)
parts_of-push [] step d = one_step (inside step d)
parts_of-push (s ∷ steps) step d =
    flat_same (λ p. map (parts_below p.0) (parts_of (steps ++ step ∷ []) p.1)) (λ p. flat_map (further step) (map (parts_below p.0) (parts_of steps p.1))) (inside s d)
    (λ p. ap (map (parts_below p.0)) (parts_of-push steps step p.1) ∙ sym (further_below step p.0 (parts_of steps p.1)))
    ∙ sym (flat_flat (λ p. map (parts_below p.0) (parts_of steps p.1)) (further step) (inside s d))

-- ---- one turn more

steps_more : (xs : List CodeStep) (i : ℕ) (d : CodeStep) → i < length xs → map step_view (take (i + 1) xs) ≡ map step_view (take i xs) ++ step_view (get_or xs i d) ∷ []
steps_more xs i d within = ap (map step_view) (take_more xs i d within) ∙ map-append step_view (take i xs) (get_or xs i d ∷ [])

pub parts_more : (xs : List CodeStep) (i : ℕ) (d : CodeStep) (datum : Data) (found more : List (Locus × Data)) → i < length xs → found ≡ parts_of (map step_view (take i xs)) datum
    → more ≡ flat_map (further (step_view (get_or xs i d))) found → more ≡ parts_of (map step_view (take (i + 1) xs)) datum
parts_more xs i d datum found more within so_far is =
    let step = step_view (get_or xs i d) in
    is ∙ ap (flat_map (further step)) so_far ∙ sym (parts_of-push (map step_view (take i xs)) step datum) ∙ ap (λ (steps : List PlaceStep). parts_of steps datum) (sym (steps_more xs i d within))
