-- What is told of an object is what fails in the groups that a group stands for.
use Rattle.std.proofs.Common.{◌≡◌, ◌<◌, ◌⊎◌, inl, inr, ℕ, ℤ, zero, suc, List, [], ◌∷◌, ◌++◌, map, filter, Bool, true, false, cond, not, ◌&&◌, ◌||◌, nat_eq, Option, Some, None, slice_get, refl, sym, ap, subst, ◌∙◌, true≢false, arith}
use Rattle.std.specs.Prelude.{is_some}
use Rattle.std.specs.List.{list_any, flat_map, AllZip}
use Rattle.std.specs.Option.{option_map_or}
use Rattle.fv_datum.specs.Data.{Data, null}
use Rattle.fv_declare_schema.specs.Declarations.{Placed, Declarations}
use Rattle.fv_extract.specs.Parts.{parts_at}
use Rattle.fv_extract.specs.Places as to
use Rattle.fv_graph.specs.Graph.{mem, IsIn}
use Rattle.fv_graph.proofs.Lists.{in_left, eq_of, eq_same}
use Rattle.fv_bundle.specs.Bundles.{Thing}
use Rattle.fv_constraint_tree.specs.Nodes.{Node}
use Rattle.fv_constraint_tree.specs.Reports.{violated}
use Rattle.fv_constraint_tree.specs.Says.{of_datum, of_object}
use Rattle.fv_local.specs.Below.{below}
use Rattle.fv_local.specs.Reached.{is_in, ranks_of, plain_groups}
use Rattle.fv_registry.specs.Meanings.{Meanings}
use Rattle.fv_walk_traces.specs.OneObject.{IsLocalIn, first_some, told_of_own, told_in}
use Rattle.fv_walk_traces.specs.Requests.{Own, Plain, InRanks}
use Rattle.fv_walk_traces.specs.Turns as turn
use Rattle.fv_walk_traces.specs.Turns.{LocalFailure}
use Rattle.fv_walk_traces.proofs.Ends.{to_local_in, from_local_in}
use Rattle.fv_graph.proofs.Images.{in_flat_map, from_flat_map, in_map, from_map, from_filter}
use Rattle.fv_walk_traces.proofs.Lists.{or_else_left, or_else_right, or_else_cases}
use Rattle.fv_bundle.specs.Types.{number_of_type}
use Rattle.fv_declare_schema.specs.Places.{Place, whole, field}
use Rattle.fv_local.specs.FailureView.{failure_view}
use Rattle.fv_local.specs.Failures.{Standing, standing_at, failures_of}
use Rattle.fv_local.specs.Standings.{part_at, failures_at}
use Rattle.fv_local.specs.Own.{own_at, own_in}
use Rattle.fv_local.specs.Told.{Told, datum_of, told_view, numbers_of, told_part, part_told, object_told, told_at, IsTold, IsToldFirst, IsToldIn}
use Rattle.fv_local.specs.declared.failure.LocalFailure as code
use Rattle.fv_local.proofs.Sets.{one_number, from_one}

-- ---- lists

pub to_filter : {X : Type 0} (test : X → Bool) (xs : List X) (x : X) → IsIn xs x → test x ≡ true → IsIn (filter test xs) x
to_filter test [] x h t = absurd h
to_filter {X} test (y ∷ xs) x h t = go (to_filter test xs x) (test y) refl h
  where
    go : (IsIn xs x → test x ≡ true → IsIn (filter test xs) x) → (b : Bool) → test y ≡ b → (y ≡ x) ⊎ IsIn xs x → IsIn (cond b (y ∷ filter test xs) (filter test xs)) x
    go ih true e (inl same) = inl same
    go ih true e (inr k) = inr (ih k t)
    go ih false e (inl same) = absurd (true≢false (sym t ∙ ap test (sym same) ∙ e))
    go ih false e (inr k) = ih k t

get_in : {X : Type 0} (xs : List X) (i : ℕ) (x : X) → slice_get xs i ≡ Some x → IsIn xs x
get_in [] i x e = absurd (cc)
get_in (y ∷ xs) zero x e = inl (cc)
get_in (y ∷ xs) (suc i) x e = inr (get_in xs i x e)

in_get : {X : Type 0} (xs : List X) (x : X) → IsIn xs x → (i : ℕ) × (slice_get xs i ≡ Some x)
in_get [] x h = absurd h
in_get (y ∷ xs) x (inl same) = (0, ap Some same)
in_get (y ∷ xs) x (inr k) = let r = in_get xs x k in (suc r.0, r.1)

pub and_both : (a b : Bool) → (a && b) ≡ true → (a ≡ true) × (b ≡ true)
and_both true b e = (refl, e)
and_both false b e = absurd (true≢false (sym e))

pub both_and : (a b : Bool) → a ≡ true → b ≡ true → (a && b) ≡ true
both_and true b one other = other
both_and false b one other = one

or_cases : (a b : Bool) → (a || b) ≡ true → (a ≡ true) ⊎ (b ≡ true)
or_cases true b e = inl e
or_cases false b e = inr e

or_one : (a b : Bool) → a ≡ true → (a || b) ≡ true
or_one true b e = e
or_one false b e = absurd (true≢false (sym e))

or_other : (a b : Bool) → b ≡ true → (a || b) ≡ true
or_other true b e = refl
or_other false b e = e

any_some : {X : Type 0} (test : X → Bool) (xs : List X) → list_any test xs ≡ true → (x : X) × IsIn xs x × (test x ≡ true)
any_some test [] e = absurd (true≢false (sym e))
any_some test (x ∷ xs) e = elim (or_cases (test x) (list_any test xs) e) [
  | inl k ↦ (x, inl refl, k)
  | inr k ↦ (let r = any_some test xs k in (r.0, inr r.1, r.2))
]

some_any : {X : Type 0} (test : X → Bool) (xs : List X) (x : X) → IsIn xs x → test x ≡ true → list_any test xs ≡ true
some_any test [] x h e = absurd h
some_any test (y ∷ xs) x (inl same) e = or_one (test y) (list_any test xs) (ap test same ∙ e)
some_any test (y ∷ xs) x (inr k) e = or_other (test y) (list_any test xs) (some_any test xs x k e)

mem_in : (xs : List ℕ) (i : ℕ) → mem xs i ≡ true → IsIn xs i
mem_in [] i e = absurd (true≢false (sym e))
mem_in (x ∷ xs) i e = elim (or_cases (nat_eq x i) (mem xs i) e) [ inl k ↦ inl (eq_of x i k) | inr k ↦ inr (mem_in xs i k) ]

in_mem : (xs : List ℕ) (i : ℕ) → IsIn xs i → mem xs i ≡ true
in_mem [] i h = absurd h
in_mem (x ∷ xs) i (inl same) = or_one (nat_eq x i) (mem xs i) (ap (nat_eq x) (sym same) ∙ eq_same x)
in_mem (x ∷ xs) i (inr k) = or_other (nat_eq x i) (mem xs i) (in_mem xs i k)

-- ---- uses in one of some groups

in_one_of : (type : ℕ) (hs : List ℕ) (u : Placed) → is_in type hs u ≡ true → (h : ℕ) × IsIn hs h × (is_in type (h ∷ []) u ≡ true)
in_one_of type hs u e =
    let p = and_both (nat_eq u.type type) (list_any (mem hs) u.groups) e in
    let r = any_some (mem hs) u.groups p.1 in
    (r.0, mem_in hs r.0 r.2, both_and (nat_eq u.type type) _ p.0 (some_any (mem (r.0 ∷ [])) u.groups r.0 r.1 (in_mem (r.0 ∷ []) r.0 (inl refl))))

in_all_of : (type : ℕ) (hs : List ℕ) (h : ℕ) (u : Placed) → IsIn hs h → is_in type (h ∷ []) u ≡ true → is_in type hs u ≡ true
in_all_of type hs h u there e =
    let p = and_both (nat_eq u.type type) (list_any (mem (h ∷ [])) u.groups) e in
    let r = any_some (mem (h ∷ [])) u.groups p.1 in
    let same : h ≡ r.0 = elim (mem_in (h ∷ []) r.0 r.2) [ inl k ↦ k | inr k ↦ absurd k ] in
    both_and (nat_eq u.type type) _ p.0 (some_any (mem hs) u.groups r.0 r.1 (in_mem hs r.0 (subst (λ (g : ℕ). IsIn hs g) same there)))

-- ---- failures and what is told

module _ (m : Meanings) (now : ℤ) (object : Thing) where
  failed_told : (u : Placed) (place : Place) (f : LocalFailure) → IsIn (flat_map (λ s. failures_at m now s u) (standing_at object place)) f → (d : Data) × IsIn (told_at m now (u ∷ []) object place) (f, d)
  failed_told u whole f h =
      let r = from_flat_map (λ (s : Standing). failures_at m now s u) (standing_at object whole) f h in
      let stands : (turn.of_object, of_object object) ≡ r.0 = elim r.1 [ inl e ↦ e | inr k ↦ absurd k ] in
      let q = from_map (λ (n : ℕ × Node). record { spot = r.0.0; node = n.0 }) (violated m now r.0.1 u.number u.tree) f r.2 in
      let listed : IsIn (violated m now (of_object object) u.number u.tree) q.0 = subst (λ (s : Standing). IsIn (violated m now s.1 u.number u.tree) q.0) (sym stands) q.2 in
      let number = one_number m now (of_object object) u q.0.0 (in_map (λ (n : ℕ × Node). n.0) (violated m now (of_object object) u.number u.tree) q.0 listed) in
      let is : record { spot = turn.of_object; node = q.0.0 } ≡ f = ap (λ (s : Standing). record { spot = s.0; node = q.0.0 }) stands ∙ sym q.1 in
      (null, subst (λ (g : LocalFailure). IsIn (object_told m now (u ∷ []) object) (g, null)) is (in_map _ (numbers_of m now (of_object object) (u ∷ [])) q.0.0 number))
  failed_told u (field number steps kind) f h =
      let place : to.FieldPlace = record { field = number; steps = steps } in
      let r = from_flat_map (λ (s : Standing). failures_at m now s u) (standing_at object (field number steps kind)) f h in
      let p = from_map (part_at place) (parts_at object place) r.0 r.1 in
      let q = from_map (λ (n : ℕ × Node). record { spot = r.0.0; node = n.0 }) (violated m now r.0.1 u.number u.tree) f r.2 in
      let listed : IsIn (violated m now (of_datum p.0.1) u.number u.tree) q.0 = subst (λ (s : Standing). IsIn (violated m now s.1 u.number u.tree) q.0) p.1 q.2 in
      let number = one_number m now (of_datum p.0.1) u q.0.0 (in_map (λ (n : ℕ × Node). n.0) (violated m now (of_datum p.0.1) u.number u.tree) q.0 listed) in
      let is : record { spot = turn.at place p.0.0; node = q.0.0 } ≡ f = ap (λ (s : Standing). record { spot = s.0; node = q.0.0 }) (sym p.1) ∙ sym q.1 in
      let part = in_map (told_part place p.0) (numbers_of m now (of_datum p.0.1) (u ∷ [])) q.0.0 number in
      (p.0.1, in_flat_map (part_told m now (u ∷ []) place) (parts_at object place) p.0 (f, p.0.1) p.2 (subst (λ (g : LocalFailure). IsIn (part_told m now (u ∷ []) place p.0) (g, p.0.1)) is part))

  told_failed : (u : Placed) (place : Place) (x : Told) → IsIn (told_at m now (u ∷ []) object place) x → IsIn (flat_map (λ s. failures_at m now s u) (standing_at object place)) x.0
  told_failed u whole x h =
      let r = from_map _ (numbers_of m now (of_object object) (u ∷ [])) x h in
      let v = from_map (λ (n : ℕ × Node). n.0) (violated m now (of_object object) u.number u.tree) r.0 (from_one m now (of_object object) u r.0 r.2) in
      let is : record { spot = turn.of_object; node = v.0.0 } ≡ x.0 = ap (λ (n : ℕ). record { spot = turn.of_object; node = n }) (sym v.1) ∙ sym (ap (λ (t : Told). t.0) r.1) in
      in_left _ [] x.0 (subst (λ (g : LocalFailure). IsIn (failures_at m now (turn.of_object, of_object object) u) g) is
      (in_map (λ (n : ℕ × Node). record { spot = turn.of_object; node = n.0 }) (violated m now (of_object object) u.number u.tree) v.0 v.2))
  told_failed u (field number steps kind) x h =
      let place : to.FieldPlace = record { field = number; steps = steps } in
      let p = from_flat_map (part_told m now (u ∷ []) place) (parts_at object place) x h in
      let r = from_map (told_part place p.0) (numbers_of m now (of_datum p.0.1) (u ∷ [])) x p.2 in
      let v = from_map (λ (n : ℕ × Node). n.0) (violated m now (of_datum p.0.1) u.number u.tree) r.0 (from_one m now (of_datum p.0.1) u r.0 r.2) in
      let is : record { spot = turn.at place p.0.0; node = v.0.0 } ≡ x.0 = ap (λ (n : ℕ). record { spot = turn.at place p.0.0; node = n }) (sym v.1) ∙ sym (ap (λ (t : Told). t.0) r.1) in
      in_flat_map (λ (s : Standing). failures_at m now s u) (standing_at object (field number steps kind)) (part_at place p.0) x.0 (in_map (part_at place) (parts_at object place) p.0 p.1)
      (subst (λ (g : LocalFailure). IsIn (failures_at m now (part_at place p.0) u) g) is
      (in_map (λ (n : ℕ × Node). record { spot = turn.at place p.0.0; node = n.0 }) (violated m now (of_datum p.0.1) u.number u.tree) v.0 v.2))

  module _ (ds : Declarations) (type : ℕ) (keep : Placed → Bool) where
    -- a use that is kept, at the type and in one of these groups
    abbrev is_kept : List ℕ → Placed → Bool
    is_kept hs u = keep u && is_in type hs u

    -- the use of that number is one of those
    abbrev IsKept : List ℕ → ℕ → Type 0
    IsKept hs i = (u : Placed) × (slice_get ds.occurrences i ≡ Some u) × (is_kept hs u ≡ true)

    -- the numbers of those uses
    abbrev pub AreKept : List ℕ → List ℕ → Type 0
    AreKept hs is = (i : ℕ) → (IsIn is i → IsKept hs i) × (IsKept hs i → IsIn is i)

    -- what fails of them
    abbrev pub kept_fails : List ℕ → List LocalFailure
    kept_fails hs = flat_map (failures_of m now object) (filter (is_kept hs) ds.occurrences)

    -- what is told of the uses that groups reach is what fails in those groups
    reached_fails : (hs is : List ℕ) (x : Told) → AreKept hs is → IsTold m now object ds.occurrences is x → IsIn (kept_fails hs) x.0
    reached_fails hs is x reached t =
        let r = (reached t.0).0 t.2 in
        let same : r.0 ≡ t.1 = let e : Some r.0 ≡ Some t.1 = sym r.1 ∙ t.3 in cc in
        let kept = to_filter (is_kept hs) ds.occurrences t.1 (get_in ds.occurrences t.0 t.1 t.3) (ap (is_kept hs) (sym same) ∙ r.2) in
        in_flat_map (failures_of m now object) (filter (is_kept hs) ds.occurrences) t.1 x.0 kept (told_failed t.1 t.1.place x t.4)

    fails_reached : (hs is : List ℕ) (f : LocalFailure) → AreKept hs is → IsIn (kept_fails hs) f → (d : Data) × IsTold m now object ds.occurrences is (f, d)
    fails_reached hs is f reached h =
        let r = from_flat_map (failures_of m now object) (filter (is_kept hs) ds.occurrences) f h in
        let k = from_filter (is_kept hs) ds.occurrences r.0 r.1 in
        let i = in_get ds.occurrences r.0 k.0 in
        let t = failed_told r.0 r.0.place f r.2 in
        (t.0, (i.0, r.0, (reached i.0).1 (r.0, i.1, k.1), i.1, t.1))

    -- ---- groups together

    fails_in_one : (hs : List ℕ) (f : LocalFailure) → IsIn (kept_fails hs) f → (h : ℕ) × IsIn hs h × IsIn (kept_fails (h ∷ [])) f
    fails_in_one hs f h =
        let r = from_flat_map (failures_of m now object) (filter (is_kept hs) ds.occurrences) f h in
        let k = from_filter (is_kept hs) ds.occurrences r.0 r.1 in
        let p = and_both (keep r.0) (is_in type hs r.0) k.1 in
        let o = in_one_of type hs r.0 p.1 in
        (o.0, o.1, in_flat_map (failures_of m now object) (filter (is_kept (o.0 ∷ [])) ds.occurrences) r.0 f (to_filter (is_kept (o.0 ∷ [])) ds.occurrences r.0 k.0 (both_and (keep r.0) _ p.0 o.2)) r.2)

    fails_in_all : (hs : List ℕ) (h : ℕ) (f : LocalFailure) → IsIn hs h → IsIn (kept_fails (h ∷ [])) f → IsIn (kept_fails hs) f
    fails_in_all hs h f there k =
        let r = from_flat_map (failures_of m now object) (filter (is_kept (h ∷ [])) ds.occurrences) f k in
        let q = from_filter (is_kept (h ∷ [])) ds.occurrences r.0 r.1 in
        let p = and_both (keep r.0) (is_in type (h ∷ []) r.0) q.1 in
        in_flat_map (failures_of m now object) (filter (is_kept hs) ds.occurrences) r.0 f (to_filter (is_kept hs) ds.occurrences r.0 q.0 (both_and (keep r.0) _ p.0 (in_all_of type hs h r.0 there p.1))) r.2

    -- ---- the first rank in which something fails

    first_told : (lists : List (List LocalFailure)) (f : LocalFailure) → IsIn (first_some lists) f
        → (k : ℕ) × (fs : List LocalFailure) × (slice_get lists k ≡ Some fs) × IsIn fs f × ((j : ℕ) (gs : List LocalFailure) (g : LocalFailure) → j < k → slice_get lists j ≡ Some gs → IsIn gs g → ⊥)
    first_told [] f h = absurd h
    first_told (fs ∷ lists) f h = elim (or_else_cases fs (first_some lists) f h) [
      | inl here ↦ (0, fs, refl, here, λ j gs g less e k. absurd (omega arith))
      | inr later ↦ (
          let r = first_told lists f later.1 in
          (suc r.0, r.1, r.2, r.3, none fs lists r.0 later.0 r.4)
          )
    ]
      where
        none : (fs : List LocalFailure) (lists : List (List LocalFailure)) (k : ℕ) → fs ≡ [] → ((j : ℕ) (gs : List LocalFailure) (g : LocalFailure) → j < k → slice_get lists j ≡ Some gs → IsIn gs g → ⊥)
            → (j : ℕ) (gs : List LocalFailure) (g : LocalFailure) → j < suc k → slice_get (fs ∷ lists) j ≡ Some gs → IsIn gs g → ⊥
        none fs lists k empty before zero gs g less e h = let same : gs ≡ [] = (let q : fs ≡ gs = cc in sym q) ∙ empty in subst (λ (l : List LocalFailure). IsIn l g) same h
        none fs lists k empty before (suc j) gs g less e h = before j gs g (omega arith) e h

    told_first : (lists : List (List LocalFailure)) (k : ℕ) (fs : List LocalFailure) (f : LocalFailure) → slice_get lists k ≡ Some fs → IsIn fs f
        → ((j : ℕ) (gs : List LocalFailure) (g : LocalFailure) → j < k → slice_get lists j ≡ Some gs → IsIn gs g → ⊥) → IsIn (first_some lists) f
    told_first [] k fs f e h none = absurd (cc)
    told_first (gs ∷ lists) zero fs f e h none = or_else_left gs (first_some lists) f (let same : gs ≡ fs = cc in subst (λ (l : List LocalFailure). IsIn l f) (sym same) h)
    told_first (gs ∷ lists) (suc k) fs f e h none =
        or_else_right gs (first_some lists) f (empty gs (λ g here. none 0 gs g (omega arith) refl here)) (told_first lists k fs f e h (λ j xs g less q there. none (suc j) xs g (omega arith) q there))
      where
        empty : (xs : List LocalFailure) → ((g : LocalFailure) → IsIn xs g → ⊥) → xs ≡ []
        empty [] never = refl
        empty (x ∷ xs) never = absurd (never x (inl refl))

    -- what fails in a rank
    abbrev pub fails_of_rank : ℕ → List LocalFailure
    fails_of_rank r = kept_fails (below ds.groups r)

    rank_at : (ranks : List ℕ) (k : ℕ) (fs : List LocalFailure) → slice_get (map fails_of_rank ranks) k ≡ Some fs → (r : ℕ) × (slice_get ranks k ≡ Some r) × (fs ≡ fails_of_rank r)
    rank_at [] k fs e = absurd (cc)
    rank_at (r ∷ ranks) zero fs e = (r, refl, cc)
    rank_at (r ∷ ranks) (suc k) fs e = rank_at ranks k fs e

    at_rank : (ranks : List ℕ) (k r : ℕ) → slice_get ranks k ≡ Some r → slice_get (map fails_of_rank ranks) k ≡ Some (fails_of_rank r)
    at_rank [] k r e = absurd (cc)
    at_rank (q ∷ ranks) zero r e = let same : q ≡ r = cc in ap (λ (i : ℕ). Some (fails_of_rank i)) same
    at_rank (q ∷ ranks) (suc k) r e = at_rank ranks k r e

    -- what is paired with one of two lists
    paired : {X Y : Type 0} (P : X → Y → Type 0) (xs : List X) (ys : List Y) (k : ℕ) (x : X) → AllZip P xs ys → slice_get xs k ≡ Some x → (y : Y) × (slice_get ys k ≡ Some y) × P x y
    paired P [] ys k x all e = absurd (cc)
    paired P (z ∷ xs) [] k x all e = absurd all
    paired P (z ∷ xs) (y ∷ ys) zero x all e = let same : z ≡ x = cc in (y, refl, subst (λ w. P w y) same all.0)
    paired P (z ∷ xs) (y ∷ ys) (suc k) x all e = paired P xs ys k x all.1 e

    paired_back : {X Y : Type 0} (P : X → Y → Type 0) (xs : List X) (ys : List Y) (k : ℕ) (y : Y) → AllZip P xs ys → slice_get ys k ≡ Some y → (x : X) × (slice_get xs k ≡ Some x) × P x y
    paired_back P xs [] k y all e = absurd (cc)
    paired_back P [] (z ∷ ys) k y all e = absurd all
    paired_back P (x ∷ xs) (z ∷ ys) zero y all e = let same : z ≡ y = cc in (x, refl, subst (λ w. P x w) same all.0)
    paired_back P (x ∷ xs) (z ∷ ys) (suc k) y all e = paired_back P xs ys k y all.1 e

    abbrev pub IsOfRank : ℕ → List ℕ → Type 0
    IsOfRank r is = AreKept (below ds.groups r) is

    first_fails : (ranks : List ℕ) (lists : List (List ℕ)) (x : Told) → AllZip IsOfRank ranks lists → IsToldFirst m now object ds.occurrences lists x → IsIn (first_some (map fails_of_rank ranks)) x.0
    first_fails ranks lists x of t =
        let r = paired_back IsOfRank ranks lists t.0 t.1 of t.2 in
        let here = reached_fails (below ds.groups r.0) t.1 x r.2 t.3 in
        told_first (map fails_of_rank ranks) t.0 (fails_of_rank r.0) x.0 (at_rank ranks t.0 r.0 r.1) here (λ j gs g less e h.
        let q = rank_at ranks j gs e in
        let is = paired IsOfRank ranks lists j q.0 of q.1 in
        let there = fails_reached (below ds.groups q.0) is.0 g is.2 (subst (λ (l : List LocalFailure). IsIn l g) q.2 h) in
        t.4 j is.0 (g, there.0) less is.1 there.1)

    fails_first : (ranks : List ℕ) (lists : List (List ℕ)) (f : LocalFailure) → AllZip IsOfRank ranks lists → IsIn (first_some (map fails_of_rank ranks)) f → (d : Data) × IsToldFirst m now object ds.occurrences lists (f, d)
    fails_first ranks lists f of h =
        let r = first_told (map fails_of_rank ranks) f h in
        let q = rank_at ranks r.0 r.1 r.2 in
        let is = paired IsOfRank ranks lists r.0 q.0 of q.1 in
        let t = fails_reached (below ds.groups q.0) is.0 f is.2 (subst (λ (l : List LocalFailure). IsIn l f) q.2 r.3) in (
          t.0,
          (
            r.0,
            is.0,
            is.1,
            t.1,
            λ j before y less e told.
                let p = paired_back IsOfRank ranks lists j before of e in
                r.4 j (fails_of_rank p.0) y.0 less (at_rank ranks j p.0 p.1) (reached_fails (below ds.groups p.0) before y p.2 told),
          ),
        )

    -- ---- all that is told

    -- what fails in ranks
    abbrev pub kept_ranked : List ℕ → Own
    kept_ranked ranks = InRanks (map fails_of_rank ranks)

    -- what fails in a group, where the type has these ranks or none
    abbrev pub own_by : Option (List ℕ) → ℕ → Own
    own_by o h =
        cond (nat_eq h 0) (option_map_or (kept_ranked) o (Plain (kept_fails (h ∷ [])))) (Plain (kept_fails (h ∷ [])))

    abbrev is_other : ℕ → Bool
    is_other h = not (nat_eq h 0)

    -- what fails in the first rank in which something does, where `Default` is among the groups
    abbrev InRanksOf : Option (List ℕ) → List ℕ → LocalFailure → Type 0
    InRanksOf o hs f = (ranks : List ℕ) × (o ≡ Some ranks) × IsIn hs 0 × IsIn (first_some (map fails_of_rank ranks)) f

    told_split : (o : Option (List ℕ)) (hs : List ℕ) (f : LocalFailure) → IsIn (told_in hs (own_by o)) f
        → IsIn (kept_fails (cond (is_some o) (filter is_other hs) hs)) f ⊎ InRanksOf o hs f
    told_split None hs f h =
        let r = from_flat_map (λ (k : ℕ). told_of_own (own_by None k)) hs f h in
        inl (fails_in_all hs r.0 f r.1 (go r.0 (nat_eq r.0 0) r.2))
      where
        go : (k : ℕ) (b : Bool) → IsIn (told_of_own (cond b (Plain (kept_fails (k ∷ []))) (Plain (kept_fails (k ∷ []))))) f → IsIn (kept_fails (k ∷ [])) f
        go k true i = i
        go k false i = i
    told_split (Some ranks) hs f h =
        let r = from_flat_map (λ (k : ℕ). told_of_own (own_by (Some ranks) k)) hs f h in
        go r.0 r.1 (nat_eq r.0 0) refl r.2
      where
        go : (k : ℕ) → IsIn hs k → (b : Bool) → nat_eq k 0 ≡ b → IsIn (told_of_own (cond b (kept_ranked ranks) (Plain (kept_fails (k ∷ []))))) f
            → IsIn (kept_fails (filter is_other hs)) f ⊎ InRanksOf (Some ranks) hs f
        go k there true e i = inr (ranks, refl, subst (λ (j : ℕ). IsIn hs j) (eq_of k 0 e) there, i)
        go k there false e i = inl (fails_in_all (filter is_other hs) k f (to_filter is_other hs k there (ap not e)) i)

    plain_join : (o : Option (List ℕ)) (hs : List ℕ) (f : LocalFailure) → IsIn (kept_fails (cond (is_some o) (filter is_other hs) hs)) f → IsIn (told_in hs (own_by o)) f
    plain_join None hs f h =
        let r = fails_in_one hs f h in
        in_flat_map (λ (k : ℕ). told_of_own (own_by None k)) hs r.0 f r.1 (go r.0 (nat_eq r.0 0) r.2)
      where
        go : (k : ℕ) (b : Bool) → IsIn (kept_fails (k ∷ [])) f → IsIn (told_of_own (cond b (Plain (kept_fails (k ∷ []))) (Plain (kept_fails (k ∷ []))))) f
        go k true i = i
        go k false i = i
    plain_join (Some ranks) hs f h =
        let r = fails_in_one (filter is_other hs) f h in
        let k = from_filter is_other hs r.0 r.1 in
        in_flat_map (λ (j : ℕ). told_of_own (own_by (Some ranks) j)) hs r.0 f k.0 (go r.0 (nat_eq r.0 0) refl k.1 r.2)
      where
        go : (k : ℕ) (b : Bool) → nat_eq k 0 ≡ b → not (nat_eq k 0) ≡ true → IsIn (kept_fails (k ∷ [])) f
            → IsIn (told_of_own (cond b (kept_ranked ranks) (Plain (kept_fails (k ∷ []))))) f
        go k true e other i = absurd (true≢false (sym other ∙ ap not e))
        go k false e other i = i

    ranks_join : (o : Option (List ℕ)) (hs : List ℕ) (f : LocalFailure) → InRanksOf o hs f → IsIn (told_in hs (own_by o)) f
    ranks_join None hs f h = absurd (let e = h.1 in cc)
    ranks_join (Some ranks) hs f h =
        let same : ranks ≡ h.0 = let e = h.1 in cc in
        in_flat_map (λ (j : ℕ). told_of_own (own_by (Some ranks) j)) hs 0 f h.2 (subst (λ (l : List ℕ). IsIn (first_some (map fails_of_rank l)) f) (sym same) h.3)

    -- ---- the ranks of the type's sequence

    -- these are the uses of each rank, where `Default` is among the groups; none where it isn't, or the type has no sequence
    abbrev pub AreKeptRanks : List ℕ → List (List ℕ) → Type 0
    AreKeptRanks hs lists =
        ((ranks : List ℕ) × (ranks_of ds type ≡ Some ranks) × IsIn hs 0 × AllZip IsOfRank ranks lists)
        ⊎ ((lists ≡ []) × ((ranks : List ℕ) → ranks_of ds type ≡ Some ranks → IsIn hs 0 → ⊥))

    told_ranks : (hs : List ℕ) (lists : List (List ℕ)) (x : Told) → AreKeptRanks hs lists → IsToldFirst m now object ds.occurrences lists x → InRanksOf (ranks_of ds type) hs x.0
    told_ranks hs lists x (inl r) t = (r.0, r.1, r.2, first_fails r.0 lists x r.3 t)
    told_ranks hs lists x (inr r) t = absurd (let e : slice_get [] t.0 ≡ Some t.1 = ap (λ (l : List (List ℕ)). slice_get l t.0) (sym r.0) ∙ t.2 in cc)

    ranks_told : (hs : List ℕ) (lists : List (List ℕ)) (f : LocalFailure) → AreKeptRanks hs lists → InRanksOf (ranks_of ds type) hs f → (d : Data) × IsToldFirst m now object ds.occurrences lists (f, d)
    ranks_told hs lists f (inl r) h =
        let same : Some h.0 ≡ Some r.0 = sym h.1 ∙ r.1 in
        let list : h.0 ≡ r.0 = cc in
        fails_first r.0 lists f r.3 (subst (λ (l : List ℕ). IsIn (first_some (map fails_of_rank l)) f) list h.3)
    ranks_told hs lists f (inr r) h = absurd (r.1 h.0 h.1 h.2)

    own_all : (own : ℕ → Own) → ((h : ℕ) → own h ≡ own_by (ranks_of ds type) h) → (hs : List ℕ) → told_in hs own ≡ told_in hs (own_by (ranks_of ds type))
    own_all own owns [] = refl
    own_all own owns (h ∷ hs) = ap (λ o. told_of_own o ++ told_in hs own) (owns h) ∙ ap (λ l. told_of_own (own_by (ranks_of ds type) h) ++ l) (own_all own owns hs)

    -- ---- lists of failures

    seen : (v : List code.LocalFailure) (f : LocalFailure) → IsIn (map failure_view v) f → (d : Data) × IsIn (map told_view v) (f, d)
    seen v f h =
        let k = from_map failure_view v f h in
        (datum_of k.0.spot, subst (λ (e : LocalFailure). IsIn (map told_view v) (e, datum_of k.0.spot)) (sym k.1) (in_map told_view v k.0 k.2))

    unseen : (v : List code.LocalFailure) (x : Told) → IsIn (map told_view v) x → IsIn (map failure_view v) x.0
    unseen v x h =
        let k = from_map told_view v x h in
        subst (λ (e : LocalFailure). IsIn (map failure_view v) e) (sym (ap (λ (t : Told). t.0) k.1)) (in_map failure_view v k.0 k.2)

    -- what is told of uses that groups reach, and of the ranks of the type's sequence, is what is local
    pub all_local : (own : ℕ → Own) (g : ℕ) (is : List ℕ) (lists : List (List ℕ)) (v : List code.LocalFailure) → ((h : ℕ) → own h ≡ own_by (ranks_of ds type) h)
        → AreKept (plain_groups ds type g) is → AreKeptRanks (below ds.groups g) lists
        → ((x : Told) → (IsIn (map told_view v) x → IsToldIn m now object ds.occurrences is lists x) × (IsToldIn m now object ds.occurrences is lists x → IsIn (map told_view v) x))
        → (f : LocalFailure) → (IsIn (map failure_view v) f → IsLocalIn (below ds.groups g) own f) × (IsLocalIn (below ds.groups g) own f → IsIn (map failure_view v) f)
    all_local own g is lists v owns plain ranked told f =
        let hs = below ds.groups g in
        let same = own_all own owns hs in (
          λ h.
              let x = seen v f h in
              let k : IsIn (told_in hs (own_by (ranks_of ds type))) f = elim ((told (f, x.0)).0 x.1) [
                | inl t ↦ plain_join (ranks_of ds type) hs f (reached_fails (plain_groups ds type g) is (f, x.0) plain t)
                | inr t ↦ ranks_join (ranks_of ds type) hs f (told_ranks hs lists (f, x.0) ranked t)
              ] in
              to_local_in hs own f (subst (λ (l : List LocalFailure). IsIn l f) (sym same) k),
          λ l.
              let k = subst (λ (xs : List LocalFailure). IsIn xs f) same (from_local_in hs own f l) in
              elim (told_split (ranks_of ds type) hs f k) [
                | inl h ↦ (let t = fails_reached (plain_groups ds type g) is f plain h in unseen v (f, t.0) ((told (f, t.0)).1 (inl t.1)))
                | inr h ↦ (let t = ranks_told hs lists f ranked h in unseen v (f, t.0) ((told (f, t.0)).1 (inr t.1)))
              ],
        )

  -- what fails by a type's own constraints, where every use is kept
  pub own_is : (ds : Declarations) (type h : ℕ) → number_of_type ds.types object.type_name ≡ Some type → own_in m ds now object h ≡ own_by ds type (λ u. true) (ranks_of ds type) h
  own_is ds type h typed = ap (λ o. option_map_or (λ t. own_at m ds now object t h) o (Plain [])) typed
