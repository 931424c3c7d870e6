-- The numbers of the nodes that a use reports tell the use, and none fails twice at one spot.
use Rattle.std.proofs.Common.{◌≡◌, ◌≢◌, ◌<◌, ◌≤◌, ◌+◌, inl, inr, ℕ, ℤ, List, [], ◌∷◌, filter, Bool, true, false, cond, sym, ap, subst, ◌∙◌, arith}
use Rattle.std.specs.List.{AllByRecursion, flat_map}
use Rattle.fv_declare_schema.specs.Declarations.{Placed, AreNumbered}
use Rattle.fv_extract.specs.Pairs.{Pairwise}
use Rattle.fv_graph.specs.Graph.{IsIn, AllDiffer}
use Rattle.fv_graph.proofs.Lists.{AllDiffer-append}
use Rattle.fv_local.specs.Failures.{Standing}
use Rattle.fv_local.specs.Standings.{failures_at}
use Rattle.fv_local.proofs.Reports.{Rise, rises, rise_map, rise_from, rise_end}
use Rattle.fv_constraint_tree.specs.Reports.{violated}
use Rattle.fv_constraint_tree.specs.Trees.{size}
use Rattle.fv_registry.specs.Meanings.{Meanings}
use Rattle.fv_walk_traces.specs.Turns.{LocalFailure}
use Rattle.fv_graph.proofs.Images.{from_flat_map, from_map}

pub each_in : {X : Type 0} (P : X → Type 0) (xs : List X) (x : X) → AllByRecursion P xs → IsIn xs x → P x
each_in P [] x all h = absurd h
each_in P (y ∷ ys) x all (inl same) = subst P same all.0
each_in P (y ∷ ys) x all (inr k) = each_in P ys x all.1 k

-- numbers that rise are of things that differ
rise_differs : {X : Type 0} (f : X → ℕ) (m e : ℕ) (xs : List X) → Rise f m e xs → AllDiffer xs
rise_differs f m e [] up = tt
rise_differs f m e (x ∷ xs) up = (
  λ h. let low : f x + 1 ≤ f x = each_in (λ y. f x + 1 ≤ f y) xs x (rise_from f (f x + 1) e (f x + 1) xs (omega arith) up.1) h in omega arith,
  rise_differs f (f x + 1) e xs up.1,
)

-- the number is from m on and below e
abbrev pub Within : ℕ → ℕ → LocalFailure → Type 0
Within m e f = (m ≤ f.node) × (f.node < e)

rise_within : (m k e : ℕ) (fs : List LocalFailure) → m ≤ k → Rise (λ f. f.node) k e fs → AllByRecursion (Within m e) fs
rise_within m k e [] le up = tt
rise_within m k e (f ∷ fs) le up =
    let here : k ≤ f.node = up.0 in
    let end : f.node + 1 ≤ e = rise_end (λ (g : LocalFailure). g.node) (f.node + 1) e fs up.1 in
    ((omega arith, omega arith), rise_within m (f.node + 1) e fs (omega arith) up.1)

-- what is got of things that have keys of their own differs, where it has their keys
module _ {X Y K : Type 0} (f : X → List Y) (key : X → K) (of : Y → K) (keeps : (x : X) (y : Y) → IsIn (f x) y → of y ≡ key x) (each : (x : X) → AllDiffer (f x)) where
  keys_apart : (x : X) (xs : List X) (y : Y) → AllByRecursion (λ z. key x ≢ key z) xs → IsIn (f x) y → IsIn (flat_map f xs) y → ⊥
  keys_apart x xs y differ here later =
      let k = from_flat_map f xs y later in
      each_in (λ z. key x ≢ key z) xs k.0 differ k.1 (sym (keeps x y here) ∙ keeps k.0 y k.2)

  pub flat_differ : (xs : List X) → Pairwise (λ x z. key x ≢ key z) xs → AllDiffer (flat_map f xs)
  flat_differ [] differ = tt
  flat_differ (x ∷ xs) differ = AllDiffer-append (f x) (flat_map f xs) (each x) (flat_differ xs differ.1) (λ y here later. keys_apart x xs y differ.0 here later)

module _ (m : Meanings) (now : ℤ) where
  at_rise : (s : Standing) (u : Placed) → Rise (λ f. f.node) u.number (u.number + size u.tree) (failures_at m now s u)
  at_rise s u = rise_map (λ f. f.node) (λ n. record { spot = s.0; node = n.0 }) u.number (u.number + size u.tree) (violated m now s.1 u.number u.tree) (rises (λ n. n.single) _ u.number u.tree)

  pub at_spot : (s : Standing) (u : Placed) (f : LocalFailure) → IsIn (failures_at m now s u) f → f.spot ≡ s.0
  at_spot s u f h = let k = from_map _ (violated m now s.1 u.number u.tree) f h in ap (λ (g : LocalFailure). g.spot) k.1

  at_within : (s : Standing) (u : Placed) (f : LocalFailure) → IsIn (failures_at m now s u) f → Within u.number (u.number + size u.tree) f
  at_within s u f h = each_in (Within u.number (u.number + size u.tree)) (failures_at m now s u) f (rise_within u.number u.number (u.number + size u.tree) (failures_at m now s u) (omega arith) (at_rise s u)) h

  pub spots_differ : (u : Placed) (ss : List Standing) → Pairwise (λ s t. s.0 ≢ t.0) ss → AllDiffer (flat_map (λ s. failures_at m now s u) ss)
  spots_differ u ss apart =
      flat_differ (λ s. failures_at m now s u) (λ s. s.0) (λ f. f.spot) (λ s f h. at_spot s u f h)
      (λ s. rise_differs (λ (f : LocalFailure). f.node) u.number (u.number + size u.tree) (failures_at m now s u) (at_rise s u)) ss apart

  -- the failures of a use have its numbers
  pub spots_within : (u : Placed) (ss : List Standing) (f : LocalFailure) → IsIn (flat_map (λ s. failures_at m now s u) ss) f → Within u.number (u.number + size u.tree) f
  spots_within u ss f h = let k = from_flat_map (λ (s : Standing). failures_at m now s u) ss f h in at_within k.0 u f k.2

-- ---- uses

-- no later use has a lower number
low : (n : ℕ) (us : List Placed) (u : Placed) → AreNumbered n us → IsIn us u → n ≤ u.number
low n [] u numbered h = absurd h
low n (v ∷ vs) u numbered (inl same) = let here : v.number ≡ n = numbered.0 in let is : v.number ≡ u.number = ap (λ (w : Placed). w.number) same in omega arith
low n (v ∷ vs) u numbered (inr k) = let later = low (n + size v.tree) vs u numbered.1 k in omega arith

apart : (n : ℕ) (u : Placed) (us : List Placed) (v : Placed) (f : LocalFailure) → AreNumbered n (u ∷ us) → IsIn us v → Within u.number (u.number + size u.tree) f → Within v.number (v.number + size v.tree) f → ⊥
apart n u us v f numbered h a b =
    let here : u.number ≡ n = numbered.0 in
    let later = low (n + size u.tree) us v numbered.1 h in
    let high : f.node < u.number + size u.tree = a.1 in
    let from : v.number ≤ f.node = b.0 in
    omega arith

-- two uses that have a number in common are one
pub one_use : (n : ℕ) (us : List Placed) (u v : Placed) (f : LocalFailure) → AreNumbered n us → IsIn us u → IsIn us v → Within u.number (u.number + size u.tree) f → Within v.number (v.number + size v.tree) f → u ≡ v
one_use n [] u v f numbered h k a b = absurd h
one_use n (w ∷ ws) u v f numbered (inl h) (inl k) a b = sym h ∙ k
one_use n (w ∷ ws) u v f numbered (inl h) (inr k) a b = absurd (apart n w ws v f numbered k (subst (λ (x : Placed). Within x.number (x.number + size x.tree) f) (sym h) a) b)
one_use n (w ∷ ws) u v f numbered (inr h) (inl k) a b = absurd (apart n w ws u f numbered h (subst (λ (x : Placed). Within x.number (x.number + size x.tree) f) (sym k) b) a)
one_use n (w ∷ ws) u v f numbered (inr h) (inr k) a b = one_use (n + size w.tree) ws u v f numbered.1 h k a b

pub from_filter : {X : Type 0} (test : X → Bool) (xs : List X) (x : X) → IsIn (filter test xs) x → IsIn xs x
from_filter test [] x h = absurd h
from_filter {X} test (y ∷ ys) x h = go (from_filter test ys x) (test y) h
  where
    go : (IsIn (filter test ys) x → IsIn ys x) → (b : Bool) → IsIn (cond b (y ∷ filter test ys) (filter test ys)) x → IsIn (y ∷ ys) x
    go ih true (inl same) = inl same
    go ih true (inr k) = inr (ih k)
    go ih false k = inr (ih k)

pub from_uses : (f : Placed → List LocalFailure) (us : List Placed) (test : Placed → Bool) (x : LocalFailure) → IsIn (flat_map f (filter test us)) x → (u : Placed) × IsIn us u × IsIn (f u) x
from_uses f us test x h = let k = from_flat_map f (filter test us) x h in (k.0, from_filter test us k.0 k.1, k.2)

-- what is got of some of the uses
module _ (f : Placed → List LocalFailure) (within : (u : Placed) (x : LocalFailure) → IsIn (f u) x → Within u.number (u.number + size u.tree) x) (each : (u : Placed) → AllDiffer (f u)) where
  uses_apart : (n : ℕ) (u : Placed) (us : List Placed) (test : Placed → Bool) (x : LocalFailure) → AreNumbered n (u ∷ us) → IsIn (f u) x → IsIn (flat_map f (filter test us)) x → ⊥
  uses_apart n u us test x numbered here later =
      let k = from_flat_map f (filter test us) x later in
      apart n u us k.0 x numbered (from_filter test us k.0 k.1) (within u x here) (within k.0 x k.2)

  pub uses_differ : (n : ℕ) (us : List Placed) (test : Placed → Bool) → AreNumbered n us → AllDiffer (flat_map f (filter test us))
  uses_differ n [] test numbered = tt
  uses_differ n (u ∷ us) test numbered = go (uses_differ (n + size u.tree) us test numbered.1) (test u)
    where
      go : AllDiffer (flat_map f (filter test us)) → (b : Bool) → AllDiffer (flat_map f (cond b (u ∷ filter test us) (filter test us)))
      go ih true = AllDiffer-append (f u) (flat_map f (filter test us)) (each u) ih (λ x here later. uses_apart n u us test x numbered here later)
      go ih false = ih
