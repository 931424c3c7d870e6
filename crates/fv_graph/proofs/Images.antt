-- Membership in what a list is mapped to, and in what is left of it.
use Rattle.std.proofs.Common.{◌≡◌, List, [], ◌∷◌, map, flat_map, filter_map, Bool, true, false, cond, Option, Some, None, ◌⊎◌, inl, inr, refl, sym, ap, subst, ◌∙◌}
use Rattle.std.specs.List.{filter}
use Rattle.fv_graph.specs.Graph.{IsIn, AllDiffer}
use Rattle.fv_graph.proofs.Lists.{in_left, in_right, in_cases}

pub in_map : {X Y : Type 0} (f : X → Y) (xs : List X) (x : X) → IsIn xs x → IsIn (map f xs) (f x)
in_map f [] x h = absurd h
in_map f (y ∷ xs) x (inl e) = inl (ap f e)
in_map f (y ∷ xs) x (inr h) = inr (in_map f xs x h)

pub from_map : {X Y : Type 0} (f : X → Y) (xs : List X) (y : Y) → IsIn (map f xs) y → (x : X) × (y ≡ f x) × IsIn xs x
from_map f [] y h = absurd h
from_map f (x ∷ xs) y (inl e) = (x, sym e, inl refl)
from_map f (x ∷ xs) y (inr h) = let k = from_map f xs y h in (k.0, k.1, inr k.2)

pub AllDiffer-map : {X Y : Type 0} (f : X → Y) → ((a b : X) → f a ≡ f b → a ≡ b) → (xs : List X) → AllDiffer xs → AllDiffer (map f xs)
AllDiffer-map f one [] d = tt
AllDiffer-map f one (x ∷ xs) d = (
  λ h. let k = from_map f xs (f x) h in d.0 (subst (λ z. IsIn xs z) (one _ _ (sym k.1)) k.2),
  AllDiffer-map f one xs d.1,
)

pub in_flat_map : {X Y : Type 0} (f : X → List Y) (xs : List X) (x : X) (y : Y) → IsIn xs x → IsIn (f x) y → IsIn (flat_map f xs) y
in_flat_map f [] x y h k = absurd h
in_flat_map {X} {Y} f (z ∷ xs) x y (inl e) k = in_left (f z) (flat_map f xs) y (subst (λ (w : X). IsIn (f w) y) (sym e) k)
in_flat_map f (z ∷ xs) x y (inr h) k = in_right (f z) (flat_map f xs) y (in_flat_map f xs x y h k)

pub from_flat_map : {X Y : Type 0} (f : X → List Y) (xs : List X) (y : Y) → IsIn (flat_map f xs) y → (x : X) × IsIn xs x × IsIn (f x) y
from_flat_map f [] y h = absurd h
from_flat_map f (x ∷ xs) y h =
    elim (in_cases (f x) (flat_map f xs) y h) [
      | inl k ↦ (x, inl refl, k)
      | inr k ↦ (let m = from_flat_map f xs y k in (m.0, inr m.1, m.2))
    ]

pub nothing : {X Y : Type 0} (h : X → Option Y) (x : X) (xs : List X) → h x ≡ None → filter_map h (x ∷ xs) ≡ filter_map h xs
nothing h x xs e = rw e refl

pub something : {X Y : Type 0} (h : X → Option Y) (x : X) (xs : List X) (y : Y) → h x ≡ Some y → filter_map h (x ∷ xs) ≡ y ∷ filter_map h xs
something h x xs y e = rw e refl

pub from_filter_map : {X Y : Type 0} (h : X → Option Y) (xs : List X) (y : Y) → IsIn (filter_map h xs) y → (x : X) × IsIn xs x × (h x ≡ Some y)
from_filter_map h [] y k = absurd k
from_filter_map {X} {Y} h (x ∷ xs) y k = go (λ m. from_filter_map h xs y m) (h x) refl k
  where
    later : (IsIn (filter_map h xs) y → (x' : X) × IsIn xs x' × (h x' ≡ Some y)) → IsIn (filter_map h xs) y → (x' : X) × IsIn (x ∷ xs) x' × (h x' ≡ Some y)
    later ih m = let r = ih m in (r.0, inr r.1, r.2)

    go : (IsIn (filter_map h xs) y → (x' : X) × IsIn xs x' × (h x' ≡ Some y)) → (o : Option Y) → h x ≡ o → IsIn (filter_map h (x ∷ xs)) y → (x' : X) × IsIn (x ∷ xs) x' × (h x' ≡ Some y)
    go ih None e m = later ih (subst (λ (l : List Y). IsIn l y) (nothing h x xs e) m)
    go ih (Some z) e m = elim (subst (λ (l : List Y). IsIn l y) (something h x xs z e) m) [
      | inl same ↦ (x, inl refl, e ∙ ap Some same)
      | inr r ↦ later ih r
    ]

pub from_filter : {X : Type 0} (test : X → Bool) (xs : List X) (x : X) → IsIn (filter test xs) x → IsIn xs x × (test x ≡ true)
from_filter test [] x h = absurd h
from_filter {X} test (y ∷ xs) x h = go (from_filter test xs x) (test y) refl h
  where
    go : (IsIn (filter test xs) x → IsIn xs x × (test x ≡ true)) → (b : Bool) → test y ≡ b → IsIn (cond b (y ∷ filter test xs) (filter test xs)) x → ((y ≡ x) ⊎ IsIn xs x) × (test x ≡ true)
    go ih true e (inl same) = (inl same, ap test (sym same) ∙ e)
    go ih true e (inr k) = (inr (ih k).0, (ih k).1)
    go ih false e k = (inr (ih k).0, (ih k).1)
