-- What is told of the uses in one field is what fails there.
use Rattle.std.proofs.Common.{◌≡◌, ◌<◌, ◌++◌, ◌+◌, ◌∷◌, [], ℕ, ℤ, suc, List, length, get_or, drop, filter, map, Bool, true, false, cond, ◌&&◌, nat_eq, Option, Some, None, inl, inr, drop-cons, append_assoc, refl, sym, ap, ap₂, subst, ◌∙◌, arith}
use Rattle.std.proofs.lemmas.List.Elements.{filter-append}
use Rattle.std.specs.List.{flat_map, AllZip}
use Rattle.std.specs.Option.{option_map_or}
use Rattle.fv_declare_schema.specs.Declarations.{Placed, Declarations}
use Rattle.fv_extract.specs.Parts.{parts_at}
use Rattle.fv_graph.specs.Graph.{IsIn}
use Rattle.fv_bundle.specs.Bundles.{Thing}
use Rattle.fv_constraint_tree.specs.Nodes.{Node}
use Rattle.fv_constraint_tree.specs.Reports.{violated}
use Rattle.fv_local.specs.Below.{below}
use Rattle.fv_local.specs.Reached.{is_in, ranks_of, AreReached}
use Rattle.fv_registry.specs.Meanings.{Meanings}
use Rattle.fv_walk_traces.specs.OneField.{is_in_field, own_of_field}
use Rattle.fv_walk_traces.specs.Requests.{Plain, InRanks}
use Rattle.fv_walk_traces.specs.Turns.{LocalFailure}
use Rattle.fv_graph.proofs.Images.{from_flat_map, from_map, from_filter}
use Rattle.fv_bundle.specs.Types.{number_of_type}
use Rattle.fv_declare_schema.specs.Places.{Place, whole, field}
use Rattle.fv_local.specs.Failures.{Standing, standing_at, failures_of}
use Rattle.fv_local.specs.Standings.{part_at, failures_at}
use Rattle.fv_local.specs.Fields.{is_at, stands_in, is_of_field}
use Rattle.fv_local.specs.Own.{own_in}
use Rattle.fv_local.specs.Told.{AreRanksIn}
use Rattle.fv_local.proofs.Locals.{to_filter, and_both, both_and, AreKept, AreKeptRanks, IsOfRank, kept_fails, fails_of_rank, own_by, own_is}

-- ---- lists

filter_map : {X : Type 0} (p q : X → Bool) (xs : List X) → filter p (filter q xs) ≡ filter (λ x. p x && q x) xs
filter_map p q [] = refl
filter_map {X} p q (x ∷ xs) = go (p x) refl (q x) refl (filter_map p q xs)
  where
    go : (a : Bool) → p x ≡ a → (b : Bool) → q x ≡ b → filter p (filter q xs) ≡ filter (λ y. p y && q y) xs
        → filter p (cond b (x ∷ filter q xs) (filter q xs)) ≡ cond (a && b) (x ∷ filter (λ y. p y && q y) xs) (filter (λ y. p y && q y) xs)
    go true e true d ih = ap (λ (c : Bool). cond c (x ∷ filter p (filter q xs)) (filter p (filter q xs))) e ∙ ap (λ (l : List X). x ∷ l) ih
    go true e false d ih = ih
    go false e true d ih = ap (λ (c : Bool). cond c (x ∷ filter p (filter q xs)) (filter p (filter q xs))) e ∙ ih
    go false e false d ih = ih

-- a test with one answer keeps all or nothing
filter_same : {X : Type 0} (p : X → Bool) (b : Bool) (xs : List X) → ((x : X) → IsIn xs x → p x ≡ b) → filter p xs ≡ cond b xs []
filter_same p true [] same = refl
filter_same p false [] same = refl
filter_same {X} p true (x ∷ xs) same = ap (λ (c : Bool). cond c (x ∷ filter p xs) (filter p xs)) (same x (inl refl)) ∙ ap (λ (l : List X). x ∷ l) (filter_same p true xs (λ y h. same y (inr h)))
filter_same p false (x ∷ xs) same = ap (λ (c : Bool). cond c (x ∷ filter p xs) (filter p xs)) (same x (inl refl)) ∙ filter_same p false xs (λ y h. same y (inr h))

-- one element more is kept or not
pub one_kept : (test : ℕ → Bool) (xs before after : List ℕ) (k i : ℕ) → k < length xs → i ≡ get_or xs k 0 → after ≡ before ++ filter test (i ∷ []) → after ++ filter test (drop (k + 1) xs) ≡ before ++ filter test (drop k xs)
one_kept test xs before after k i less at is =
    let next : k + 1 ≡ suc k = omega arith in
    let split : drop k xs ≡ i ∷ drop (k + 1) xs = drop-cons xs k 0 less ∙ ap₂ (λ (x : ℕ) (n : ℕ). x ∷ drop n xs) (sym at) (sym next) in
    ap (λ (l : List ℕ). l ++ filter test (drop (k + 1) xs)) is ∙ append_assoc before (filter test (i ∷ [])) (filter test (drop (k + 1) xs))
    ∙ ap (λ (l : List ℕ). before ++ l) (sym (filter-append test (i ∷ []) (drop (k + 1) xs)) ∙ ap (filter test) (sym split))

module _ (m : Meanings) (now : ℤ) (object : Thing) (n : ℕ) where
  -- ---- what fails of a use begins with the field where the use stands in it

  begins : (u : Placed) (place : Place) (f : LocalFailure) → IsIn (flat_map (λ s. failures_at m now s u) (standing_at object place)) f → is_in_field n f ≡ is_at n place
  begins u place f h =
      let r = from_flat_map (λ (s : Standing). failures_at m now s u) (standing_at object place) f h in
      let q = from_map (λ (k : ℕ × Node). record { spot = r.0.0; node = k.0 }) (violated m now r.0.1 u.number u.tree) f r.2 in
      ap (is_in_field n) q.1 ∙ at place r.0 q.0.0 r.1
    where
      at : (place : Place) (s : Standing) (k : ℕ) → IsIn (standing_at object place) s → is_in_field n (record { spot = s.0; node = k }) ≡ is_at n place
      at whole s k (inl e) = ap (λ (t : Standing). is_in_field n (record { spot = t.0; node = k })) (sym e)
      at whole s k (inr e) = absurd e
      at (field number steps kind) s k h =
          let p = from_map (part_at (record { field = number; steps = steps })) (parts_at object (record { field = number; steps = steps })) s h in
          ap (λ (t : Standing). is_in_field n (record { spot = t.0; node = k })) p.1

  field_fails : (us : List Placed) → filter (is_in_field n) (flat_map (failures_of m now object) us) ≡ flat_map (failures_of m now object) (filter (stands_in n) us)
  field_fails [] = refl
  field_fails (u ∷ us) =
      filter-append (is_in_field n) (failures_of m now object u) (flat_map (failures_of m now object) us)
      ∙ ap₂ (λ (l : List LocalFailure) (k : List LocalFailure). l ++ k) (filter_same (is_in_field n) (stands_in n u) (failures_of m now object u) (begins u u.place)) (field_fails us)
      ∙ go (stands_in n u)
    where
      go : (b : Bool) → cond b (failures_of m now object u) [] ++ flat_map (failures_of m now object) (filter (stands_in n) us)
          ≡ flat_map (failures_of m now object) (cond b (u ∷ filter (stands_in n) us) (filter (stands_in n) us))
      go true = refl
      go false = refl

  module _ (ds : Declarations) (type : ℕ) where
    abbrev all : Placed → Bool
    all u = true

    fails_in_field : (hs : List ℕ) → filter (is_in_field n) (kept_fails m now object ds type all hs) ≡ kept_fails m now object ds type (stands_in n) hs
    fails_in_field hs = field_fails (filter (is_in type hs) ds.occurrences) ∙ ap (flat_map (failures_of m now object)) (filter_map (stands_in n) (is_in type hs) ds.occurrences)

    ranks_in_field : (ranks : List ℕ) → map (filter (is_in_field n)) (map (fails_of_rank m now object ds type all) ranks) ≡ map (fails_of_rank m now object ds type (stands_in n)) ranks
    ranks_in_field [] = refl
    ranks_in_field (r ∷ ranks) = ap₂ (λ (l : List LocalFailure) (k : List (List LocalFailure)). l ∷ k) (fails_in_field (below ds.groups r)) (ranks_in_field ranks)

    own_in_field : (o : Option (List ℕ)) (h : ℕ) → own_of_field n (own_by m now object ds type all o h) ≡ own_by m now object ds type (stands_in n) o h
    own_in_field o h = go o (nat_eq h 0)
      where
        plain : own_of_field n (Plain (kept_fails m now object ds type all (h ∷ []))) ≡ Plain (kept_fails m now object ds type (stands_in n) (h ∷ []))
        plain = ap Plain (fails_in_field (h ∷ []))

        go : (o : Option (List ℕ)) (b : Bool)
            → own_of_field n (cond b (option_map_or (λ ranks. InRanks (map (fails_of_rank m now object ds type all) ranks)) o (Plain (kept_fails m now object ds type all (h ∷ [])))) (Plain (kept_fails m now object ds type all (h ∷ []))))
            ≡ cond b (option_map_or (λ ranks. InRanks (map (fails_of_rank m now object ds type (stands_in n)) ranks)) o (Plain (kept_fails m now object ds type (stands_in n) (h ∷ [])))) (Plain (kept_fails m now object ds type (stands_in n) (h ∷ [])))
        go o false = plain
        go None true = plain
        go (Some ranks) true = ap InRanks (ranks_in_field ranks)

    -- what fails by a type's own constraints in the field is what fails of the uses there
    pub own_of_field_is : (h : ℕ) → number_of_type ds.types object.type_name ≡ Some type → own_of_field n (own_in m ds now object h) ≡ own_by m now object ds type (stands_in n) (ranks_of ds type) h
    own_of_field_is h typed = ap (own_of_field n) (own_is m now object ds type h typed) ∙ own_in_field (ranks_of ds type) h

    -- ---- the uses in the field among those that groups reach

    pub reached_in_field : (hs is js : List ℕ) (us : List Placed) → us ≡ ds.occurrences → js ≡ filter (is_of_field us n) is → AreReached ds type hs is → AreKept m now object ds type (stands_in n) hs js
    reached_in_field hs is js us same made reached =
        subst (AreKept m now object ds type (stands_in n) hs) (sym (made ∙ ap (λ (l : List Placed). filter (is_of_field l n) is) same)) (λ i. (
          λ h.
              let k = from_filter (is_of_field ds.occurrences n) is i h in
              let r = (reached i).0 k.0 in
              (r.0, r.1, both_and (stands_in n r.0) _ (ap (λ o. option_map_or (stands_in n) o false) (sym r.1) ∙ k.1) r.2),
          λ r.
              let p = and_both (stands_in n r.0) _ r.2 in
              to_filter (is_of_field ds.occurrences n) is i ((reached i).1 (r.0, r.1, p.1)) (ap (λ o. option_map_or (stands_in n) o false) r.1 ∙ p.0),
        ))

    pub ranks_reached_in_field : (hs : List ℕ) (lists kept : List (List ℕ)) (us : List Placed) → us ≡ ds.occurrences → kept ≡ map (filter (is_of_field us n)) lists → AreRanksIn ds type hs lists
        → AreKeptRanks m now object ds type (stands_in n) hs kept
    ranks_reached_in_field hs lists kept us same made reached =
        subst (AreKeptRanks m now object ds type (stands_in n) hs) (sym made) (elim reached [
          | inl r ↦ inl (r.0, r.1, r.2, each r.0 lists r.3)
          | inr r ↦ inr (ap (map (filter (is_of_field us n))) r.0, r.1)
        ])
      where
        each : (ranks : List ℕ) (ls : List (List ℕ)) → AllZip (λ k is. AreReached ds type (below ds.groups k) is) ranks ls
            → AllZip (IsOfRank m now object ds type (stands_in n)) ranks (map (filter (is_of_field us n)) ls)
        each [] [] z = tt
        each [] (l ∷ ls) z = absurd z
        each (k ∷ ranks) [] z = absurd z
        each (k ∷ ranks) (l ∷ ls) z = (reached_in_field (below ds.groups k) l (filter (is_of_field us n) l) us same refl z.0, each ranks ls z.1)
