-- The uses of a draft rise by their types and places.
use Rattle.std.proofs.Common.{◌≡◌, ℕ, ◌+◌, ◌<◌, ◌≤◌, ◌⊎◌, inl, inr, List, [], ◌∷◌, ◌++◌, length, map, refl, sym, ◌∙◌, arith}
use Rattle.std.specs.List.{AllByRecursion, flat_map, enumerate_from}
use Rattle.fv_declare_draft.specs.Drafts.{FieldDraft, TypeDraft}
use Rattle.fv_declare_draft.specs.Places.{PlacedUse}
use Rattle.fv_declare_draft.specs.Uses.{UseDraft}
use Rattle.fv_datum.proofs.Lists.{each_of}
use Rattle.fv_declare_schema.specs.Places.{whole}
use Rattle.fv_declare_draft.specs.AllUses.{DraftUse, use_at, use_in, field_uses, type_uses}
use Rattle.fv_declare_schema.specs.Ordered.{place_number}
use Rattle.fv_declare_judging.proofs.Alls.{all_append, all_mapped}

-- ---- lists of uses

-- in an earlier type, or in the same type and at no later place
abbrev pub Before : DraftUse → DraftUse → Type 0
Before p q = (p.type < q.type) ⊎ ((p.type ≡ q.type) × (place_number p.place ≤ place_number q.place))

abbrev pub Rises : List DraftUse → Type 0
Rises [] = Unit {0}
Rises (p ∷ ps) = AllByRecursion (Before p) ps × Rises ps

rises_append : (ps qs : List DraftUse) → Rises ps → Rises qs → AllByRecursion (λ p. AllByRecursion (Before p) qs) ps → Rises (ps ++ qs)
rises_append [] qs h k cross = k
rises_append (p ∷ ps) qs h k cross = (all_append (Before p) ps qs h.0 cross.0, rises_append ps qs h.1 k cross.1)

-- in the type, from a place on and below an end
abbrev IsIn : ℕ → ℕ → ℕ → DraftUse → Type 0
IsIn type from end p = (p.type ≡ type) × (from ≤ place_number p.place) × (place_number p.place < end)

-- ---- at one place

-- in the type, at a place of this number
abbrev IsAt : ℕ → ℕ → DraftUse → Type 0
IsAt type number p = (p.type ≡ type) × (place_number p.place ≡ number)

at_whole : (type : ℕ) (us : List UseDraft) → AllByRecursion (IsAt type 0) (map (use_at type whole) us)
at_whole type us = all_mapped (IsAt type 0) (use_at type whole) us (λ u. (refl, refl))

at_field : (type number : ℕ) (us : List PlacedUse) → AllByRecursion (IsAt type (number + 1)) (map (use_in type number) us)
at_field type number us = all_mapped (IsAt type (number + 1)) (use_in type number) us (λ u. (refl, refl))

same_rises : (type number : ℕ) (ps : List DraftUse) → AllByRecursion (IsAt type number) ps → Rises ps
same_rises type number [] h = tt
same_rises type number (p ∷ ps) h = (
  each_of (IsAt type number) (Before p) ps (λ q k. let same : place_number p.place ≡ place_number q.place = h.0.1 ∙ sym k.1 in inr (h.0.0 ∙ sym k.0, omega arith)) h.1,
  same_rises type number ps h.1,
)

at_in : (type from end number : ℕ) (p : DraftUse) → from ≤ number → number < end → IsAt type number p → IsIn type from end p
at_in type from end number p low high h = (h.0, omega (arith, h.1), omega (arith, h.1))

-- ---- in one type

fields_in : (type from : ℕ) (fs : List FieldDraft) → AllByRecursion (IsIn type (from + 1) (from + 1 + length fs)) (flat_map (field_uses type) (enumerate_from from fs))
fields_in type from [] = tt
fields_in type from (f ∷ fs) =
    all_append (IsIn type (from + 1) (from + 1 + length (f ∷ fs))) (field_uses type (from, f)) _
    (each_of (IsAt type (from + 1)) (IsIn type (from + 1) (from + 1 + length (f ∷ fs))) (field_uses type (from, f)) (λ u h. at_in type _ _ (from + 1) u (omega arith) (omega arith) h) (at_field type from f.uses))
    (each_of (IsIn type (from + 1 + 1) (from + 1 + 1 + length fs)) (IsIn type (from + 1) (from + 1 + length (f ∷ fs))) _ (λ u h. (h.0, omega arith, omega arith)) (fields_in type (from + 1) fs))

fields_rise : (type from : ℕ) (fs : List FieldDraft) → Rises (flat_map (field_uses type) (enumerate_from from fs))
fields_rise type from [] = tt
fields_rise type from (f ∷ fs) =
    let here = at_field type from f.uses in
    let rest = flat_map (field_uses type) (enumerate_from (from + 1) fs) in
    rises_append (field_uses type (from, f)) rest (same_rises type (from + 1) (field_uses type (from, f)) here) (fields_rise type (from + 1) fs)
    (each_of (IsAt type (from + 1)) (λ u. AllByRecursion (Before u) rest) (field_uses type (from, f))
    (λ u h. each_of (IsIn type (from + 1 + 1) (from + 1 + 1 + length fs)) (Before u) rest (λ v k. inr (h.0 ∙ sym k.0, omega arith)) (fields_in type (from + 1) fs)) here)

type_in : (t : ℕ × TypeDraft) → AllByRecursion (IsIn t.0 0 (1 + length t.1.fields)) (type_uses t)
type_in t =
    all_append (IsIn t.0 0 (1 + length t.1.fields)) (map (use_at t.0 whole) t.1.uses) _
    (each_of (IsAt t.0 0) (IsIn t.0 0 (1 + length t.1.fields)) _ (λ u h. at_in t.0 _ _ 0 u (omega arith) (omega arith) h) (at_whole t.0 t.1.uses))
    (each_of (IsIn t.0 (0 + 1) (0 + 1 + length t.1.fields)) (IsIn t.0 0 (1 + length t.1.fields)) _ (λ u h. (h.0, omega arith, omega arith)) (fields_in t.0 0 t.1.fields))

type_rises : (t : ℕ × TypeDraft) → Rises (type_uses t)
type_rises t =
    let rest = flat_map (field_uses t.0) (enumerate_from 0 t.1.fields) in
    let here = at_whole t.0 t.1.uses in
    rises_append (map (use_at t.0 whole) t.1.uses) rest (same_rises t.0 0 _ here) (fields_rise t.0 0 t.1.fields)
    (each_of (IsAt t.0 0) (λ u. AllByRecursion (Before u) rest) _
    (λ u h. each_of (IsIn t.0 (0 + 1) (0 + 1 + length t.1.fields)) (Before u) rest (λ v k. inr (h.0 ∙ sym k.0, omega arith)) (fields_in t.0 0 t.1.fields)) here)

-- ---- in all types

types_from : (from : ℕ) (ts : List TypeDraft) → AllByRecursion (λ u. from ≤ u.type) (flat_map type_uses (enumerate_from from ts))
types_from from [] = tt
types_from from (t ∷ ts) =
    all_append (λ u. from ≤ u.type) (type_uses (from, t)) _
    (each_of (IsIn from 0 (1 + length t.fields)) (λ u. from ≤ u.type) (type_uses (from, t)) (λ u h. omega arith) (type_in (from, t)))
    (each_of (λ u. from + 1 ≤ u.type) (λ u. from ≤ u.type) _ (λ u h. omega arith) (types_from (from + 1) ts))

pub types_rise : (from : ℕ) (ts : List TypeDraft) → Rises (flat_map type_uses (enumerate_from from ts))
types_rise from [] = tt
types_rise from (t ∷ ts) =
    let rest = flat_map type_uses (enumerate_from (from + 1) ts) in
    rises_append (type_uses (from, t)) rest (type_rises (from, t)) (types_rise (from + 1) ts)
    (each_of (IsIn from 0 (1 + length t.fields)) (λ u. AllByRecursion (Before u) rest) (type_uses (from, t))
    (λ u h. each_of (λ v. from + 1 ≤ v.type) (Before u) rest (λ v k. inl (omega arith)) (types_from (from + 1) ts)) (type_in (from, t)))
