-- What is told of one object's constraints are its local failures.
use Rattle.std.proofs.Common.{◌≡◌, ℕ, zero, suc, ◌<◌, List, [], ◌∷◌, ◌++◌, inl, inr, refl, sym, ap, ◌∙◌, subst, arith, Some, slice_get}
use Rattle.fv_graph.specs.Graph.{IsIn}
use Rattle.fv_walk_traces.specs.Turns.{LocalFailure, Group, Fail, Free, Rank, Turns, ShadowsByRecursion}
use Rattle.fv_walk_traces.specs.Requests.{Own, Plain, InRanks, GraphRequest}
use Rattle.fv_walk_traces.specs.Traces.{OwnEnds, IsOwnEnd}
use Rattle.fv_walk_traces.specs.OneObject.{IsLocalIn, IsLocal, first_some, told_of_own, told_in, local_failures}
use Rattle.fv_walk_traces.proofs.Lists.{or_else_left, or_else_right, or_else_cases, or_else_some}
use Rattle.fv_walk_traces.proofs.Shadowing.{by_recursion, from_recursion}
use Rattle.fv_graph.proofs.Images.{in_flat_map, from_flat_map}

-- nothing stands in the lists before the i-th
abbrev NoneBefore : {X : Type 0} → List (List X) → ℕ → Type 0
NoneBefore {X} lists i = (j : ℕ) (xs : List X) (x : X) → j < i → slice_get lists j ≡ Some xs → IsIn xs x → ⊥

in_empty : {X : Type 0} (xs : List X) (x : X) → xs ≡ [] → IsIn xs x → ⊥
in_empty [] x e h = h
in_empty (y ∷ xs) x e h = cc

none_before : {X : Type 0} (xs : List X) (lists : List (List X)) (i : ℕ) → xs ≡ [] → NoneBefore lists i → NoneBefore (xs ∷ lists) (suc i)
none_before {X} xs lists i e n zero ys y less d h = (let q : xs ≡ ys = cc in in_empty ys y (sym q ∙ e) h)
none_before xs lists i e n (suc j) ys y less d h = n j ys y (omega arith) d h

is_empty : {X : Type 0} (xs : List X) → ((x : X) → IsIn xs x → ⊥) → xs ≡ []
is_empty [] h = refl
is_empty (x ∷ xs) h = absurd (h x (inl refl))

from_first : {X : Type 0} (lists : List (List X)) (x : X) → IsIn (first_some lists) x → (i : ℕ) × (xs : List X) × (slice_get lists i ≡ Some xs) × IsIn xs x × NoneBefore lists i
from_first [] x h = absurd h
from_first (xs ∷ lists) x h =
    elim (or_else_cases xs (first_some lists) x h) [
      | inl k ↦ (0, xs, refl, k, λ j ys y less d i. omega (arith, less))
      | inr k ↦ (let m = from_first lists x k.1 in (suc m.0, m.1, m.2, m.3, none_before xs lists m.0 k.0 m.4))
    ]

to_first : {X : Type 0} (lists : List (List X)) (i : ℕ) (xs : List X) (x : X) → slice_get lists i ≡ Some xs → IsIn xs x → NoneBefore lists i → IsIn (first_some lists) x
to_first [] i xs x e h n = cc
to_first {X} (ys ∷ lists) zero xs x e h n =
    let q : ys ≡ xs = cc in
    or_else_left ys (first_some lists) x (subst (λ (l : List X). IsIn l x) (sym q) h)
to_first {X} (ys ∷ lists) (suc i) xs x e h n =
    or_else_right ys (first_some lists) x (is_empty ys (λ (y : X) k. n 0 ys y (omega arith) refl k))
    (to_first lists i xs x e h (λ j zs z less d k. n (suc j) zs z (omega (arith, less)) d k))

some_first : {X : Type 0} (lists : List (List X)) (i : ℕ) (xs : List X) (x : X) → slice_get lists i ≡ Some xs → IsIn xs x → (y : X) × IsIn (first_some lists) y
some_first [] i xs x e h = cc
some_first {X} (ys ∷ lists) zero xs x e h =
    let q : ys ≡ xs = cc in
    (x, or_else_left ys (first_some lists) x (subst (λ (l : List X). IsIn l x) (sym q) h))
some_first (ys ∷ lists) (suc i) xs x e h =
    let k = some_first lists i xs x e h in
    or_else_some ys (first_some lists) k.0 k.1

-- two failures at the end
fails_apart : (f g : LocalFailure) → ShadowsByRecursion (Free (Fail f) ∷ []) (Free (Fail g) ∷ []) → ⊥
fails_apart f g (inl h) = h
fails_apart f g (inr h) = h.1

ranks_apart : (i j : ℕ) (f g : LocalFailure) → ShadowsByRecursion (Rank i ∷ Free (Fail f) ∷ []) (Rank j ∷ Free (Fail g) ∷ []) → i < j
ranks_apart i j f g (inl h) = h
ranks_apart i j f g (inr h) = absurd (fails_apart f g h.1)

-- none of a group's ends shadows these turns
abbrev pub IsFirst : Own → Turns → Type 0
IsFirst own turns = (other : Turns) → OwnEnds own other → ShadowsByRecursion other turns → ⊥

pub told_end : (own : Own) (f : LocalFailure) → IsIn (told_of_own own) f → (last : Turns) × (before : Turns) × OwnEnds own last × IsFirst own last × (last ≡ before ++ Free (Fail f) ∷ [])
told_end (Plain fails) f h = (
  Free (Fail f) ∷ [],
  [],
  (f, h, refl),
  λ other o s. fails_apart o.0 f (subst (λ (l : Turns). ShadowsByRecursion l (Free (Fail f) ∷ [])) o.2 s),
  refl,
)
told_end (InRanks lists) f h =
    let k = from_first lists f h in (
      Rank k.0 ∷ Free (Fail f) ∷ [],
      Rank k.0 ∷ [],
      (k.0, k.1, f, k.2, k.3, refl),
      λ other o s.
          (let less = ranks_apart o.0 k.0 o.2 f (subst (λ (l : Turns). ShadowsByRecursion l (Rank k.0 ∷ Free (Fail f) ∷ [])) o.5 s) in
          k.4 o.0 o.1 o.2 less o.3 o.4),
      refl,
    )

-- the failure at the end of two equal lists
pub last_fail : (xs ys : Turns) (f g : LocalFailure) → xs ++ Free (Fail f) ∷ [] ≡ ys ++ Free (Fail g) ∷ [] → f ≡ g
last_fail [] [] f g e = cc
last_fail [] (y ∷ []) f g e = cc
last_fail [] (y ∷ z ∷ ys) f g e = cc
last_fail (x ∷ []) [] f g e = cc
last_fail (x ∷ z ∷ xs) [] f g e = cc
last_fail (x ∷ xs) (y ∷ ys) f g e =
    let q : xs ++ Free (Fail f) ∷ [] ≡ ys ++ Free (Fail g) ∷ [] = cc in
    last_fail xs ys f g q

pub end_told : (own : Own) (f : LocalFailure) (last before : Turns) → OwnEnds own last → IsFirst own last → last ≡ before ++ Free (Fail f) ∷ [] → IsIn (told_of_own own) f
end_told (Plain fails) f last before o first e =
    subst (λ (g : LocalFailure). IsIn fails g) (last_fail [] before o.0 f (sym o.2 ∙ e)) o.1
end_told (InRanks lists) f last before o first e =
    subst (λ (g : LocalFailure). IsIn (first_some lists) g) (last_fail (Rank o.0 ∷ []) before o.2 f (sym o.5 ∙ e))
    (to_first lists o.0 o.1 o.2 o.3 o.4
    (λ j xs x less d h.
    first (Rank j ∷ Free (Fail x) ∷ []) (j, xs, x, d, h, refl) (subst (λ (l : Turns). ShadowsByRecursion (Rank j ∷ Free (Fail x) ∷ []) l) (sym o.5) (inl less))))

pub some_told : (own : Own) (last : Turns) → OwnEnds own last → (f : LocalFailure) × IsIn (told_of_own own) f
some_told (Plain fails) last o = (o.0, o.1)
some_told (InRanks lists) last o = some_first lists o.0 o.1 o.2 o.3 o.4

-- two ends of one object, of which the one shadows the other
same_group : (h g : ℕ) (l m : Turns) → ShadowsByRecursion (Free (Group h) ∷ l) (Free (Group g) ∷ m) → (h ≡ g) × ShadowsByRecursion l m
same_group h g l m (inl s) = absurd s
same_group h g l m (inr s) = (cc (s.0), s.1)

pub to_local_in : (hs : List ℕ) (own : ℕ → Own) (f : LocalFailure) → IsIn (told_in hs own) f → IsLocalIn hs own f
to_local_in hs own f h =
    let k = from_flat_map (λ h. told_of_own (own h)) hs f h in
    let t = told_end (own k.0) f k.2 in (
      Free (Group k.0) ∷ t.0,
      Free (Group k.0) ∷ t.1,
      (k.0, t.0, k.1, t.2, refl),
      λ other o s.
          (let m = same_group o.0 k.0 o.1 t.0 (subst (λ (l : Turns). ShadowsByRecursion l (Free (Group k.0) ∷ t.0)) o.4 (by_recursion other (Free (Group k.0) ∷ t.0) s)) in
          t.3 o.1 (subst (λ (g : ℕ). OwnEnds (own g) o.1) m.0 o.3) m.1),
      ap (λ (l : Turns). Free (Group k.0) ∷ l) t.4,
    )

pub to_local : (request : GraphRequest) (object carried : ℕ) (f : LocalFailure) → IsIn (local_failures request object carried) f → IsLocal request object carried f
to_local request object carried f h = to_local_in (request.below carried) (request.own object) f h

-- what stands behind the group
past_group : (h : ℕ) (last before : Turns) (f : LocalFailure) → Free (Group h) ∷ last ≡ before ++ Free (Fail f) ∷ [] → (rest : Turns) × (last ≡ rest ++ Free (Fail f) ∷ [])
past_group h last [] f e = cc
past_group h last (t ∷ before) f e = (before, cc)

pub from_local_in : (hs : List ℕ) (own : ℕ → Own) (f : LocalFailure) → IsLocalIn hs own f → IsIn (told_in hs own) f
from_local_in hs own f (r, before, (h, last, is_below, ends, r_is), alone, ends_in) =
    let p = past_group h last before f (sym r_is ∙ ends_in) in
    in_flat_map (λ h. told_of_own (own h)) hs h f is_below
    (end_told (own h) f last p.0 ends
    (λ other o s.
    alone (Free (Group h) ∷ other) (h, other, is_below, o, refl)
    (from_recursion (Free (Group h) ∷ other) r (subst (λ (l : Turns). ShadowsByRecursion (Free (Group h) ∷ other) l) (sym r_is) (inr (refl, s)))))
    p.1)

pub from_local : (request : GraphRequest) (object carried : ℕ) (f : LocalFailure) → IsLocal request object carried f → IsIn (local_failures request object carried) f
from_local request object carried f is = from_local_in (request.below carried) (request.own object) f is

-- where some end stands, something is told
pub some_local : (request : GraphRequest) (object carried : ℕ) (e : Turns) → IsOwnEnd request object carried e → (f : LocalFailure) × IsLocal request object carried f
some_local request object carried e (h, last, is_below, ends, e_is) =
    let k = some_told (request.own object h) last ends in
    (k.0, to_local request object carried k.0 (in_flat_map (λ h. told_of_own (request.own object h)) (request.below carried) h k.0 is_below k.1))
