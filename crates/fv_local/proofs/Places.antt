-- The valid places of a type differ, and each converts by its own conversions.
use Rattle.std.proofs.Common.{◌≡◌, ◌≢◌, ◌<◌, inl, inr, ℕ, List, [], ◌∷◌, length, filter, Bool, true, false, cond, nat_eq, Option, Some, None, refl, ap, ap₂, subst, ◌∙◌, arith}
use Rattle.std.proofs.lemmas.Bool.{and_parts, and_from, false≢true}
use Rattle.std.specs.List.{AllByRecursion}
use Rattle.std.specs.Cmp.Lexicographic.{pointwise}
use Rattle.std.specs.Option.{option_map_or}
use Rattle.fv_declare_schema.specs.Declarations.{Declarations}
use Rattle.fv_declare_schema.specs.Ordered.{PrecedesPlace, ArePlacesRising, AreOrdered}
use Rattle.fv_extract.specs.Pairs.{Pairwise}
use Rattle.fv_extract.specs.Places.{PlaceStep, element, key, value, content, FieldPlace}
use Rattle.fv_graph.proofs.Lists.{eq_of, eq_same}
use Rattle.fv_graph.specs.Graph.{IsIn}
use Rattle.fv_declare_schema.specs.ValidPlaces.{ValidPlace}
use Rattle.fv_bundle.specs.Bundles.{Thing}
use Rattle.fv_bundle.specs.Types.{number_of_type}
use Rattle.fv_local.specs.Conversions.{convert, is_same_step, stands_at, converted_among, valid_places_of, valid_places_at}
use Rattle.fv_local.specs.Ways.{way_place}

-- the places of two are two
abbrev pub AreTwo : ValidPlace → ValidPlace → Type 0
AreTwo p q = way_place p ≢ way_place q

two_places : (type : ℕ) (p q : ValidPlace) → p.type ≡ type → q.type ≡ type → PrecedesPlace p q → AreTwo p q
two_places type p q t u (inl less) e = omega (arith, less, t, u)
two_places type p q t u (inr (same, inl less)) e = let is : p.field ≡ q.field = ap (λ (x : FieldPlace). x.field) e in omega (arith, less, is)
two_places type p q t u (inr (same, inr deeper)) e =
    let less : length p.steps < length q.steps = deeper.1 in
    let is : length p.steps ≡ length q.steps = ap (λ (x : FieldPlace). length x.steps) e in
    omega (arith, less, is)

two_from_all : (type : ℕ) (p : ValidPlace) (ps : List ValidPlace) → p.type ≡ type → AllByRecursion (PrecedesPlace p) ps → AllByRecursion (AreTwo p) (filter (λ q. nat_eq q.type type) ps)
two_from_all type p [] t all = tt
two_from_all type p (q ∷ qs) t all = go (nat_eq q.type type) refl (two_from_all type p qs t all.1)
  where
    go : (b : Bool) → nat_eq q.type type ≡ b → AllByRecursion (AreTwo p) (filter (λ q. nat_eq q.type type) qs) → AllByRecursion (AreTwo p) (cond b (q ∷ filter (λ q. nat_eq q.type type) qs) (filter (λ q. nat_eq q.type type) qs))
    go true e ih = (two_places type p q t (eq_of q.type type e) all.0, ih)
    go false e ih = ih

of_type_apart : (type : ℕ) (ps : List ValidPlace) → ArePlacesRising ps → Pairwise AreTwo (filter (λ q. nat_eq q.type type) ps)
of_type_apart type [] rising = tt
of_type_apart type (p ∷ ps) rising = go (nat_eq p.type type) refl (of_type_apart type ps rising.1)
  where
    go : (b : Bool) → nat_eq p.type type ≡ b → Pairwise AreTwo (filter (λ q. nat_eq q.type type) ps) → Pairwise AreTwo (cond b (p ∷ filter (λ q. nat_eq q.type type) ps) (filter (λ q. nat_eq q.type type) ps))
    go true e ih = (two_from_all type p ps (eq_of p.type type e) rising.0, ih)
    go false e ih = ih

-- no two valid places of an object's type are one
pub places_apart : (ds : Declarations) (object : Thing) → AreOrdered ds → Pairwise AreTwo (valid_places_at ds object)
places_apart ds object ordered = go (number_of_type ds.types object.type_name)
  where
    go : (o : Option ℕ) → Pairwise AreTwo (option_map_or (valid_places_of ds) o [])
    go None = tt
    go (Some type) = of_type_apart type ds.valid_places ordered.cascading

-- ---- conversions

step_same : (s t : PlaceStep) → is_same_step s t ≡ true → s ≡ t
step_same element element e = refl
step_same key key e = refl
step_same value value e = refl
step_same content content e = refl
step_same element key e = absurd (false≢true e)
step_same element value e = absurd (false≢true e)
step_same element content e = absurd (false≢true e)
step_same key element e = absurd (false≢true e)
step_same key value e = absurd (false≢true e)
step_same key content e = absurd (false≢true e)
step_same value element e = absurd (false≢true e)
step_same value key e = absurd (false≢true e)
step_same value content e = absurd (false≢true e)
step_same content element e = absurd (false≢true e)
step_same content key e = absurd (false≢true e)
step_same content value e = absurd (false≢true e)

same_step : (s : PlaceStep) → is_same_step s s ≡ true
same_step element = refl
same_step key = refl
same_step value = refl
same_step content = refl

steps_same : (ss ts : List PlaceStep) → pointwise is_same_step ss ts ≡ true → ss ≡ ts
steps_same [] [] e = refl
steps_same [] (t ∷ ts) e = absurd (false≢true e)
steps_same (s ∷ ss) [] e = absurd (false≢true e)
steps_same (s ∷ ss) (t ∷ ts) e =
    let parts = and_parts (is_same_step s t) (pointwise is_same_step ss ts) e in
    ap₂ (λ (x : PlaceStep) (xs : List PlaceStep). x ∷ xs) (step_same s t parts.0) (steps_same ss ts parts.1)

same_steps : (ss : List PlaceStep) → pointwise is_same_step ss ss ≡ true
same_steps [] = refl
same_steps (s ∷ ss) = and_from (is_same_step s s) (pointwise is_same_step ss ss) (same_step s) (same_steps ss)

stands_same : (p q : ValidPlace) → stands_at (way_place p) q ≡ true → way_place q ≡ way_place p
stands_same p q e =
    let parts = and_parts (nat_eq q.field p.field) (pointwise is_same_step q.steps p.steps) e in
    ap₂ (λ (f : ℕ) (ss : List PlaceStep). record { field = f; steps = ss }) (eq_of q.field p.field parts.0) (steps_same q.steps p.steps parts.1)

stands_here : (p : ValidPlace) → stands_at (way_place p) p ≡ true
stands_here p = and_from (nat_eq p.field p.field) (pointwise is_same_step p.steps p.steps) (eq_same p.field) (same_steps p.steps)

all_of : {X : Type 0} (P : X → Type 0) (xs : List X) (x : X) → AllByRecursion P xs → IsIn xs x → P x
all_of P [] x all h = absurd h
all_of P (y ∷ ys) x all (inl same) = subst P same all.0
all_of P (y ∷ ys) x all (inr k) = all_of P ys x all.1 k

-- a place among those of a type converts by its own conversions
pub converts_at : (ps : List ValidPlace) (p : ValidPlace) (group : ℕ) → Pairwise AreTwo ps → IsIn ps p → converted_among ps (way_place p) group ≡ convert p.conversions group
converts_at [] p group apart h = absurd h
converts_at (q ∷ qs) p group apart (inl same) =
    ap (λ (b : Bool). cond b (convert q.conversions group) (converted_among qs (way_place p) group)) (ap (λ (x : ValidPlace). stands_at (way_place p) x) same ∙ stands_here p)
    ∙ ap (λ (x : ValidPlace). convert x.conversions group) same
converts_at (q ∷ qs) p group apart (inr k) = go (stands_at (way_place p) q) refl (converts_at qs p group apart.1 k)
  where
    go : (b : Bool) → stands_at (way_place p) q ≡ b → converted_among qs (way_place p) group ≡ convert p.conversions group → cond b (convert q.conversions group) (converted_among qs (way_place p) group) ≡ convert p.conversions group
    go true e ih = absurd (all_of (AreTwo q) qs p apart.0 k (stands_same p q e))
    go false e ih = ih
