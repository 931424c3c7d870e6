-- The uses that the table of reached uses names are there and can be asked, and what they tell is what fails.
use Rattle.std.proofs.Common.{◌≡◌, ◌<◌, ◌≤◌, ◌+◌, ◌++◌, inl, inr, ℕ, ℤ, zero, suc, List, [], ◌∷◌, map, length, Bool, true, Option, Some, None, slice_get, Result, Ok, Err, IfOk, Vec, Global, refl, sym, ap, subst, ◌∙◌, arith}
use Rattle.std.proofs.lemmas.List.{length-map, map-append}
use Rattle.std.proofs.lemmas.List.Elements.{All-from_recursion, recursion_from_All}
use Rattle.std.specs.List.{All, AllByRecursion, AllZip}
use Rattle.fv_declare_schema.specs.Declarations.{Placed, Declarations, count_nodes, AreNumbered}
use Rattle.fv_declare_schema.specs.Fits.{fits}
use Rattle.fv_declare_schema.specs.Ordered.{AreOrdered}
use Rattle.fv_declare_schema.specs.PlacedView.{placed_view}
use Rattle.fv_declare_schema.specs.declared.place.Placed as code_placed
use Rattle.fv_graph.specs.Graph.{IsIn}
use Rattle.fv_graph.proofs.Lists.{in_left, in_right, in_cases}
use Rattle.fv_bundle.specs.Bundles.{Thing}
use Rattle.fv_constraint_tree.specs.Trees.{size}
use Rattle.fv_local.specs.Below.{below}
use Rattle.fv_local.specs.Reached.{AreReached, AreOfRanks, IsRanked, plain_groups}
use Rattle.fv_local.specs.TableView.{lists_view}
use Rattle.fv_registry.specs.Meanings.{Meanings}
use Rattle.fv_registry.specs.Rules.{Known}
use Rattle.fv_walk_traces.specs.OneField.{own_of_field}
use Rattle.fv_walk_traces.specs.OneObject.{IsLocalIn}
use Rattle.fv_walk_traces.specs.Turns.{LocalFailure}
use Rattle.fv_bundle.specs.Types.{number_of_type}
use Rattle.fv_local.specs.FailureView.{failure_view, IsFoundIn}
use Rattle.fv_local.specs.Fields.{stands_in}
use Rattle.fv_local.specs.Own.{own_in}
use Rattle.fv_local.specs.Told.{Told, told_view, IsTold, IsToldFirst, IsToldIn, AreRanksIn, CanBeAsked}
use Rattle.fv_local.specs.declared.failure.LocalFailure as code
use Rattle.fv_local.proofs.Fitting.{each_fits}
use Rattle.fv_local.proofs.Fields.{own_of_field_is}
use Rattle.fv_local.proofs.Locals.{AreKept, AreKeptRanks, IsOfRank, own_is, all_local}

-- ---- uses that are there

few_each : (n : ℕ) (us : List Placed) → AreNumbered n us → n + count_nodes (map (λ u. u.tree) us) ≤ 1024 → AllByRecursion (λ u. u.number + size u.tree ≤ 1024) us
few_each n [] numbered few = tt
few_each n (u ∷ us) numbered few =
    let here : u.number ≡ n = numbered.0 in
    let le : n + (size u.tree + count_nodes (map (λ (v : Placed). v.tree) us)) ≤ 1024 = few in
    (omega (arith, here, le), few_each (n + size u.tree) us numbered.1 (omega arith))

pub can_ask : (k : Known) (ds : Declarations) (us : List Placed) → fits k ds ≡ true → AreOrdered ds → us ≡ ds.occurrences → CanBeAsked k us
can_ask k ds us fit ordered is = subst (CanBeAsked k) (sym is) (record { fit = each_fits k ds.occurrences fit; few = few_each 0 ds.occurrences ordered.numbered (let few = ordered.few in omega arith) })

get_less : (us : List Placed) (i : ℕ) (u : Placed) → slice_get us i ≡ Some u → i < length us
get_less [] i u e = absurd (cc)
get_less (v ∷ us) zero u e = omega arith
get_less (v ∷ us) (suc i) u e = let less : i < length us = get_less us i u e in omega arith

each_in : (P : ℕ → Type 0) (is : List ℕ) → ((i : ℕ) → IsIn is i → P i) → AllByRecursion P is
each_in P [] h = tt
each_in P (i ∷ is) h = (h i (inl refl), each_in P is (λ j k. h j (inr k)))

pub same_length : (us : List Placed) (os : List code_placed.Placed) → map placed_view os ≡ us → length us ≡ length os
same_length us os same = ap (λ (l : List Placed). length l) (sym same) ∙ length-map os placed_view

module _ (m : Meanings) (now : ℤ) (object : Thing) (ds : Declarations) (type : ℕ) (keep : Placed → Bool) where
  pub kept_within : (hs is : List ℕ) → AreKept m now object ds type keep hs is → All (λ i. i < length ds.occurrences) is
  kept_within hs is kept =
      All-from_recursion (λ i. i < length ds.occurrences) is (each_in (λ i. i < length ds.occurrences) is (λ i there. let u = (kept i).0 there in get_less ds.occurrences i u.0 u.1))

  pub ranks_within : (hs : List ℕ) (lists : List (Vec ℕ Global)) → AreKeptRanks m now object ds type keep hs (lists_view lists) → All (λ v. All (λ i. i < length ds.occurrences) v.items) lists
  ranks_within hs lists kept = All-from_recursion (λ v. All (λ i. i < length ds.occurrences) v.items) lists (elim kept [ inl r ↦ each r.0 lists r.3 | inr r ↦ none lists r.0 ])
    where
      each : (ranks : List ℕ) (vs : List (Vec ℕ Global)) → AllZip (IsOfRank m now object ds type keep) ranks (lists_view vs) → AllByRecursion (λ v. All (λ i. i < length ds.occurrences) v.items) vs
      each [] [] z = tt
      each [] (v ∷ vs) z = absurd z
      each (k ∷ ranks) [] z = tt
      each (k ∷ ranks) (v ∷ vs) z = (kept_within (below ds.groups k) v.items z.0, each ranks vs z.1)

      none : (vs : List (Vec ℕ Global)) → lists_view vs ≡ [] → AllByRecursion (λ v. All (λ i. i < length ds.occurrences) v.items) vs
      none [] e = tt
      none (v ∷ vs) e = absurd (cc)

-- ---- ranks, where the table has them

pub ranked_some : (ds : Declarations) (type : ℕ) (o : Option (List ℕ)) (p : Option (List (List ℕ))) (lists : List (List ℕ)) → Some lists ≡ p → IsRanked ds type o p → (ranks : List ℕ) × (o ≡ Some ranks) × AreOfRanks ds type ranks lists
ranked_some ds type None None lists e is = absurd (cc)
ranked_some ds type None (Some l) lists e is = absurd is
ranked_some ds type (Some ranks) None lists e is = absurd (cc)
ranked_some ds type (Some ranks) (Some l) lists e is = let same : lists ≡ l = cc in (ranks, refl, subst (AreOfRanks ds type ranks) (sym same) is)

-- ---- results

pub if_ok : {X E : Type 0} (P Q : X → Type 0) (r : Result X E) → ((x : X) → P x → Q x) → IfOk r P → IfOk r Q
if_ok P Q (Ok x) f p = f x p
if_ok P Q (Err e) f p = tt

-- a list has these failures and no others
abbrev pub HasAll : (LocalFailure → Type 0) → List code.LocalFailure → Type 0
HasAll P v = (f : LocalFailure) → (IsIn (map failure_view v) f → P f) × (P f → IsIn (map failure_view v) f)

module _ (m : Meanings) (ds : Declarations) (now : ℤ) (object : Thing) (type : ℕ) where
  -- a list has what is told of uses and of ranks, and nothing else
  abbrev pub HasTold : List ℕ → List (List ℕ) → List code.LocalFailure → Type 0
  HasTold is lists v = (x : Told) → (IsIn (map told_view v) x → IsToldIn m now object ds.occurrences is lists x) × (IsToldIn m now object ds.occurrences is lists x → IsIn (map told_view v) x)

  pub local_all : {E : Type 0} (g : ℕ) (is : List ℕ) (lists : List (List ℕ)) (r : Result (Vec code.LocalFailure Global) E) → number_of_type ds.types object.type_name ≡ Some type
      → AreReached ds type (plain_groups ds type g) is → AreRanksIn ds type (below ds.groups g) lists
      → IfOk r (λ v. HasTold is lists v.items) → IfOk r (λ v. HasAll (IsLocalIn (below ds.groups g) (own_in m ds now object)) v.items)
  local_all g is lists r typed plain ranked told =
      if_ok (λ v. HasTold is lists v.items) (λ v. HasAll (IsLocalIn (below ds.groups g) (own_in m ds now object)) v.items) r
      (λ v h. all_local m now object ds type (λ u. true) (own_in m ds now object) g is lists v.items (λ k. own_is m now object ds type k typed) plain ranked h) told

  pub field_all : {E : Type 0} (n g : ℕ) (is : List ℕ) (lists : List (List ℕ)) (r : Result (Vec code.LocalFailure Global) E) → number_of_type ds.types object.type_name ≡ Some type
      → AreKept m now object ds type (stands_in n) (plain_groups ds type g) is → AreKeptRanks m now object ds type (stands_in n) (below ds.groups g) lists
      → IfOk r (λ v. HasTold is lists v.items) → IfOk r (λ v. HasAll (IsLocalIn (below ds.groups g) (λ h. own_of_field n (own_in m ds now object h))) v.items)
  field_all n g is lists r typed plain ranked told =
      if_ok (λ v. HasTold is lists v.items) (λ v. HasAll (IsLocalIn (below ds.groups g) (λ h. own_of_field n (own_in m ds now object h))) v.items) r
      (λ v h. all_local m now object ds type (stands_in n) (λ k. own_of_field n (own_in m ds now object k)) g is lists v.items (λ k. own_of_field_is m now object n ds type k typed) plain ranked h) told

-- ---- two lists

all_end : {X : Type 0} (P : X → Type 0) (xs ys : List X) → AllByRecursion P xs → AllByRecursion P ys → AllByRecursion P (xs ++ ys)
all_end P [] ys h k = k
all_end P (x ∷ xs) ys h k = (h.0, all_end P xs ys h.1 k)

pub found_both : (object : Thing) (v w both : List code.LocalFailure) → both ≡ v ++ w → All (λ f. IsFoundIn object f.spot) v → All (λ f. IsFoundIn object f.spot) w → All (λ f. IsFoundIn object f.spot) both
found_both object v w both is one other =
    let P : code.LocalFailure → Type 0 = λ f. IsFoundIn object f.spot in
    subst (All P) (sym is) (All-from_recursion P (v ++ w) (all_end P v w (recursion_from_All P v one) (recursion_from_All P w other)))

-- what is told of uses and what is told of ranks, together
pub told_both : (m : Meanings) (now : ℤ) (object : Thing) (us : List Placed) (is : List ℕ) (lists : List (List ℕ)) (v w both : List code.LocalFailure) → both ≡ v ++ w
    → ((x : Told) → (IsIn (map told_view v) x → IsTold m now object us is x) × (IsTold m now object us is x → IsIn (map told_view v) x))
    → ((x : Told) → (IsIn (map told_view w) x → IsToldFirst m now object us lists x) × (IsToldFirst m now object us lists x → IsIn (map told_view w) x))
    → (x : Told) → (IsIn (map told_view both) x → IsToldIn m now object us is lists x) × (IsToldIn m now object us is lists x → IsIn (map told_view both) x)
told_both m now object us is lists v w both joined plain ranked x =
    let split : map told_view both ≡ map told_view v ++ map told_view w = ap (map told_view) joined ∙ map-append told_view v w in (
      λ h. elim (in_cases (map told_view v) (map told_view w) x (subst (λ (l : List Told). IsIn l x) split h)) [
        | inl k ↦ inl ((plain x).0 k)
        | inr k ↦ inr ((ranked x).0 k)
      ],
      λ t. subst (λ (l : List Told). IsIn l x) (sym split) (elim t [
        | inl k ↦ in_left (map told_view v) (map told_view w) x ((plain x).1 k)
        | inr k ↦ in_right (map told_view v) (map told_view w) x ((ranked x).1 k)
      ]),
    )
