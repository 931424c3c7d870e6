-- What is told of uses, as a set.
use Rattle.std.proofs.Common.{◌≡◌, ◌⊎◌, inl, inr, ℕ, ℤ, List, [], ◌∷◌, ◌++◌, map, Option, Some, None, slice_get, refl, sym, ap, subst, ◌∙◌}
use Rattle.std.specs.List.{AllByRecursion, cons_option}
use Rattle.fv_datum.specs.Data.{Data}
use Rattle.fv_declare_schema.specs.Declarations.{Placed}
use Rattle.fv_extract.specs.Parts.{Locus, parts_at}
use Rattle.fv_extract.specs.Places as to
use Rattle.fv_graph.specs.Graph.{IsIn}
use Rattle.fv_graph.proofs.Lists.{in_left, in_right, in_cases}
use Rattle.fv_bundle.specs.Bundles.{Thing}
use Rattle.fv_constraint_tree.specs.Nodes.{Node}
use Rattle.fv_constraint_tree.specs.Reports.{violated}
use Rattle.fv_constraint_tree.specs.Says.{Subject, of_datum, of_object}
use Rattle.fv_registry.specs.Meanings.{Meanings}
use Rattle.fv_graph.proofs.Images.{in_flat_map, from_flat_map, in_map, from_map}
use Rattle.fv_declare_schema.specs.Places.{Place, whole, field}
use Rattle.fv_local.specs.Told.{Told, picked, numbers_of, told_part, part_told, field_told, object_told, told_at, IsTold, IsSamePlace}

-- ---- uses by their numbers

-- a use that is picked has one of the numbers
pub from_picked : (us : List Placed) (is : List ℕ) (u : Placed) → IsIn (picked us is) u → (i : ℕ) × IsIn is i × (slice_get us i ≡ Some u)
from_picked us [] u h = absurd h
from_picked us (i ∷ is) u h = go (slice_get us i) refl (from_picked us is u) h
  where
    go : (o : Option Placed) → slice_get us i ≡ o → (IsIn (picked us is) u → (j : ℕ) × IsIn is j × (slice_get us j ≡ Some u)) → IsIn (cons_option o (picked us is)) u
        → (j : ℕ) × IsIn (i ∷ is) j × (slice_get us j ≡ Some u)
    go None e rest k = let r = rest k in (r.0, inr r.1, r.2)
    go (Some v) e rest (inl same) = (i, inl refl, e ∙ ap Some same)
    go (Some v) e rest (inr k) = let r = rest k in (r.0, inr r.1, r.2)

pub in_picked : (us : List Placed) (is : List ℕ) (i : ℕ) (u : Placed) → IsIn is i → slice_get us i ≡ Some u → IsIn (picked us is) u
in_picked us [] i u h e = absurd h
in_picked us (j ∷ is) i u (inl same) e = subst (λ o. IsIn (cons_option o (picked us is)) u) (sym (ap (slice_get us) same ∙ e)) (inl refl)
in_picked us (j ∷ is) i u (inr k) e = go (slice_get us j) (in_picked us is i u k e)
  where
    go : (o : Option Placed) → IsIn (picked us is) u → IsIn (cons_option o (picked us is)) u
    go None rest = rest
    go (Some v) rest = inr rest

-- ---- what uses at one place tell, each by itself

module _ (m : Meanings) (now : ℤ) where
  pub one_number : (s : Subject) (u : Placed) (n : ℕ) → IsIn (map (λ (r : ℕ × Node). r.0) (violated m now s u.number u.tree)) n → IsIn (numbers_of m now s (u ∷ [])) n
  one_number s u n h = in_left _ [] n h

  pub from_one : (s : Subject) (u : Placed) (n : ℕ) → IsIn (numbers_of m now s (u ∷ [])) n → IsIn (map (λ (r : ℕ × Node). r.0) (violated m now s u.number u.tree)) n
  from_one s u n h = elim (in_cases (map (λ (r : ℕ × Node). r.0) (violated m now s u.number u.tree)) [] n h) [ inl k ↦ k | inr k ↦ absurd k ]

  numbers_split : (s : Subject) (us : List Placed) (n : ℕ) → IsIn (numbers_of m now s us) n → (u : Placed) × IsIn us u × IsIn (numbers_of m now s (u ∷ [])) n
  numbers_split s us n h = let r = from_flat_map (λ (u : Placed). map (λ (k : ℕ × Node). k.0) (violated m now s u.number u.tree)) us n h in (r.0, r.1, one_number s r.0 n r.2)

  numbers_join : (s : Subject) (us : List Placed) (u : Placed) (n : ℕ) → IsIn us u → IsIn (numbers_of m now s (u ∷ [])) n → IsIn (numbers_of m now s us) n
  numbers_join s us u n h k = in_flat_map (λ (v : Placed). map (λ (r : ℕ × Node). r.0) (violated m now s v.number v.tree)) us u n h (from_one s u n k)

  part_split : (us : List Placed) (place : to.FieldPlace) (p : Locus × Data) (x : Told) → IsIn (part_told m now us place p) x → (u : Placed) × IsIn us u × IsIn (part_told m now (u ∷ []) place p) x
  part_split us place p x h =
      let r = from_map (told_part place p) (numbers_of m now (of_datum p.1) us) x h in
      let s = numbers_split (of_datum p.1) us r.0 r.2 in
      (s.0, s.1, subst (λ (y : Told). IsIn (part_told m now (s.0 ∷ []) place p) y) (sym r.1) (in_map (told_part place p) (numbers_of m now (of_datum p.1) (s.0 ∷ [])) r.0 s.2))

  part_join : (us : List Placed) (place : to.FieldPlace) (p : Locus × Data) (u : Placed) (x : Told) → IsIn us u → IsIn (part_told m now (u ∷ []) place p) x → IsIn (part_told m now us place p) x
  part_join us place p u x h k =
      let r = from_map (told_part place p) (numbers_of m now (of_datum p.1) (u ∷ [])) x k in
      subst (λ (y : Told). IsIn (part_told m now us place p) y) (sym r.1) (in_map (told_part place p) (numbers_of m now (of_datum p.1) us) r.0 (numbers_join (of_datum p.1) us u r.0 h r.2))

  pub told_split : (us : List Placed) (object : Thing) (place : Place) (x : Told) → IsIn (told_at m now us object place) x → (u : Placed) × IsIn us u × IsIn (told_at m now (u ∷ []) object place) x
  told_split us object whole x h =
      let r = from_map _ (numbers_of m now (of_object object) us) x h in
      let s = numbers_split (of_object object) us r.0 r.2 in
      (s.0, s.1, subst (λ (y : Told). IsIn (object_told m now (s.0 ∷ []) object) y) (sym r.1) (in_map _ (numbers_of m now (of_object object) (s.0 ∷ [])) r.0 s.2))
  told_split us object (field number steps kind) x h =
      let place : to.FieldPlace = record { field = number; steps = steps } in
      let r = from_flat_map (part_told m now us place) (parts_at object place) x h in
      let s = part_split us place r.0 x r.2 in
      (s.0, s.1, in_flat_map (part_told m now (s.0 ∷ []) place) (parts_at object place) r.0 x r.1 s.2)

  pub told_join : (us : List Placed) (object : Thing) (place : Place) (u : Placed) (x : Told) → IsIn us u → IsIn (told_at m now (u ∷ []) object place) x → IsIn (told_at m now us object place) x
  told_join us object whole u x h k =
      let r = from_map _ (numbers_of m now (of_object object) (u ∷ [])) x k in
      subst (λ (y : Told). IsIn (object_told m now us object) y) (sym r.1) (in_map _ (numbers_of m now (of_object object) us) r.0 (numbers_join (of_object object) us u r.0 h r.2))
  told_join us object (field number steps kind) u x h k =
      let place : to.FieldPlace = record { field = number; steps = steps } in
      let r = from_flat_map (part_told m now (u ∷ []) place) (parts_at object place) x k in
      in_flat_map (part_told m now us place) (parts_at object place) r.0 x r.1 (part_join us place r.0 u x h r.2)

  -- at the same place the same is told
  pub same_told : (us : List Placed) (object : Thing) (a b : Place) → IsSamePlace a b → told_at m now us object a ≡ told_at m now us object b
  same_told us object whole whole same = refl
  same_told us object whole (field n steps kind) same = absurd same
  same_told us object (field n steps kind) whole same = absurd same
  same_told us object (field n steps kind) (field o others other) same =
      ap (λ (i : ℕ). field_told m now us object (record { field = i; steps = steps })) same.0
      ∙ ap (λ (l : List to.PlaceStep). field_told m now us object (record { field = o; steps = l })) same.1

  -- ---- runs

  module _ (object : Thing) (us : List Placed) where
    each_there : (P : Placed → Type 0) (vs : List Placed) (v : Placed) → AllByRecursion P vs → IsIn vs v → P v
    each_there P [] v all h = absurd h
    each_there P (w ∷ vs) v all (inl same) = subst P same all.0
    each_there P (w ∷ vs) v all (inr k) = each_there P vs v all.1 k

    -- what uses at one place tell is what is told of their numbers
    pub run_told : (is : List ℕ) (place : Place) (x : Told) → AllByRecursion (λ u. IsSamePlace u.place place) (picked us is) → IsIn (told_at m now (picked us is) object place) x → IsTold m now object us is x
    run_told is place x run h =
        let r = told_split (picked us is) object place x h in
        let s = from_picked us is r.0 r.1 in
        let same = each_there (λ u. IsSamePlace u.place place) (picked us is) r.0 run r.1 in
        (s.0, r.0, s.1, s.2, subst (λ (xs : List Told). IsIn xs x) (sym (same_told (r.0 ∷ []) object r.0.place place same)) r.2)

    pub told_run : (is : List ℕ) (place : Place) (x : Told) → AllByRecursion (λ u. IsSamePlace u.place place) (picked us is) → IsTold m now object us is x → IsIn (told_at m now (picked us is) object place) x
    told_run is place x run t =
        let there = in_picked us is t.0 t.1 t.2 t.3 in
        let same = each_there (λ u. IsSamePlace u.place place) (picked us is) t.1 run there in
        told_join (picked us is) object place t.1 x there (subst (λ (xs : List Told). IsIn xs x) (same_told (t.1 ∷ []) object t.1.place place same) t.4)

    -- what is told of some numbers and of others
    pub told_left : (is js : List ℕ) (x : Told) → IsTold m now object us is x → IsTold m now object us (is ++ js) x
    told_left is js x t = (t.0, t.1, in_left is js t.0 t.2, t.3, t.4)

    pub told_right : (is js : List ℕ) (x : Told) → IsTold m now object us js x → IsTold m now object us (is ++ js) x
    told_right is js x t = (t.0, t.1, in_right is js t.0 t.2, t.3, t.4)

    pub told_cases : (is js : List ℕ) (x : Told) → IsTold m now object us (is ++ js) x → IsTold m now object us is x ⊎ IsTold m now object us js x
    told_cases is js x t = elim (in_cases is js t.0 t.2) [
      | inl k ↦ inl (t.0, t.1, k, t.3, t.4)
      | inr k ↦ inr (t.0, t.1, k, t.3, t.4)
    ]

    -- one run more
    pub one_run : (done run : List ℕ) (place : Place) (before after : List Told) → AllByRecursion (λ u. IsSamePlace u.place place) (picked us run) → after ≡ before ++ told_at m now (picked us run) object place
        → ((x : Told) → (IsIn before x → IsTold m now object us done x) × (IsTold m now object us done x → IsIn before x))
        → (x : Told) → (IsIn after x → IsTold m now object us (done ++ run) x) × (IsTold m now object us (done ++ run) x → IsIn after x)
    one_run done run place before after same made old x = (
      λ h. elim (in_cases before (told_at m now (picked us run) object place) x (subst (λ (xs : List Told). IsIn xs x) made h)) [
        | inl k ↦ told_left done run x ((old x).0 k)
        | inr k ↦ told_right done run x (run_told run place x same k)
      ],
      λ t. subst (λ (xs : List Told). IsIn xs x) (sym made) (elim (told_cases done run x t) [
        | inl k ↦ in_left before (told_at m now (picked us run) object place) x ((old x).1 k)
        | inr k ↦ in_right before (told_at m now (picked us run) object place) x (told_run run place x same k)
      ]),
    )
