-- The places of a draft's uses and cascades are there.
use Rattle.std.proofs.Common.{◌≡◌, ℕ, suc, ◌+◌, List, [], ◌∷◌, map, slice_get, Some, option_map, refl, ap, ◌∙◌, arith}
use Rattle.std.specs.List.{AllByRecursion, flat_map, enumerate_from}
use Rattle.fv_declare_draft.specs.Drafts.{FieldDraft, TypeDraft}
use Rattle.fv_datum.proofs.Lists.{each_of}
use Rattle.fv_bundle.specs.Types.{DeclaredFields, Declared, kind_of}
use Rattle.fv_declare_draft.specs.AllCascades.{Cascade, cascade_in, field_cascades, type_cascades}
use Rattle.fv_declare_schema.specs.Places.{whole, field}
use Rattle.fv_declare_draft.specs.AllUses.{DraftUse, use_at, use_in, field_uses, type_uses}
use Rattle.fv_declare_judging.specs.Types.{field_declared, type_declared}
use Rattle.fv_declare_judging.specs.Judging.{IsLed}
use Rattle.fv_declare_schema.specs.Ordered.{held_inside, IsAmong}
use Rattle.fv_declare_judging.proofs.Alls.{all_append, all_mapped, all_mapped_by}

abbrev pub IsThere : Declared → DraftUse → Type 0
IsThere ts p = (t : List ℕ × DeclaredFields) × (slice_get ts p.type ≡ Some t) × IsAmong t.1 p.place

-- in the type of that number, at a place among these fields
abbrev IsOf : ℕ → DeclaredFields → DraftUse → Type 0
IsOf type fs p = (p.type ≡ type) × IsAmong fs p.place

fields_there : (type : ℕ) (all : DeclaredFields) (from : ℕ) (fs : List FieldDraft) → AllByRecursion IsLed fs → ((j : ℕ) → slice_get all (from + j) ≡ slice_get (map field_declared fs) j)
    → AllByRecursion (IsOf type all) (flat_map (field_uses type) (enumerate_from from fs))
fields_there type all from [] led same = tt
fields_there type all from (f ∷ fs) led same =
    let start : from ≡ from + 0 = omega arith in
    let found : slice_get all from ≡ Some (field_declared f) = ap (slice_get all) start ∙ same 0 in
    all_append (IsOf type all) (field_uses type (from, f)) _
    (all_mapped_by (λ u. option_map kind_of (held_inside u.steps f.type) ≡ Some u.kind) (IsOf type all) (use_in type from) f.uses (λ u k. (refl, (field_declared f, found, k))) led.0.0)
    (fields_there type all (from + 1) fs led.1 (λ j. let next : from + 1 + j ≡ from + suc j = omega arith in ap (slice_get all) next ∙ same (suc j)))

type_there : (t : ℕ × TypeDraft) → AllByRecursion IsLed t.1.fields → AllByRecursion (IsOf t.0 (type_declared t.1).1) (type_uses t)
type_there t led =
    let all = (type_declared t.1).1 in
    all_append (IsOf t.0 all) (map (use_at t.0 whole) t.1.uses) _
    (all_mapped (IsOf t.0 all) (use_at t.0 whole) t.1.uses (λ u. (refl, tt)))
    (fields_there t.0 all 0 t.1.fields led (λ j. let same : 0 + j ≡ j = omega arith in ap (slice_get all) same))

pub types_there : (all : Declared) (from : ℕ) (ts : List TypeDraft) → AllByRecursion (λ t. AllByRecursion IsLed t.fields) ts → ((j : ℕ) → slice_get all (from + j) ≡ slice_get (map type_declared ts) j)
    → AllByRecursion (IsThere all) (flat_map type_uses (enumerate_from from ts))
types_there all from [] led same = tt
types_there all from (t ∷ ts) led same =
    let start : from ≡ from + 0 = omega arith in
    let found : slice_get all from ≡ Some (type_declared t) = ap (slice_get all) start ∙ same 0 in
    all_append (IsThere all) (type_uses (from, t)) _
    (each_of (IsOf from (type_declared t).1) (IsThere all) (type_uses (from, t)) (λ u h. (type_declared t, ap (slice_get all) h.0 ∙ found, h.1)) (type_there (from, t) led.0))
    (types_there all (from + 1) ts led.1 (λ j. let next : from + 1 + j ≡ from + suc j = omega arith in ap (slice_get all) next ∙ same (suc j)))

-- ---- cascades

abbrev pub IsCascadeThere : Declared → Cascade → Type 0
IsCascadeThere ts c = (t : List ℕ × DeclaredFields) × (slice_get ts c.type ≡ Some t) × IsAmong t.1 (field c.field c.placed.steps c.placed.kind)

-- in the type of that number, at a place among these fields
abbrev IsCascadeOf : ℕ → DeclaredFields → Cascade → Type 0
IsCascadeOf type fs c = (c.type ≡ type) × IsAmong fs (field c.field c.placed.steps c.placed.kind)

cascades_of_fields : (type : ℕ) (all : DeclaredFields) (from : ℕ) (fs : List FieldDraft) → AllByRecursion IsLed fs → ((j : ℕ) → slice_get all (from + j) ≡ slice_get (map field_declared fs) j)
    → AllByRecursion (IsCascadeOf type all) (flat_map (field_cascades type) (enumerate_from from fs))
cascades_of_fields type all from [] led same = tt
cascades_of_fields type all from (f ∷ fs) led same =
    let start : from ≡ from + 0 = omega arith in
    let found : slice_get all from ≡ Some (field_declared f) = ap (slice_get all) start ∙ same 0 in
    all_append (IsCascadeOf type all) (field_cascades type (from, f)) _
    (all_mapped_by (λ c. option_map kind_of (held_inside c.steps f.type) ≡ Some c.kind) (IsCascadeOf type all) (cascade_in type from) f.cascades (λ c k. (refl, (field_declared f, found, k))) led.0.1)
    (cascades_of_fields type all (from + 1) fs led.1 (λ j. let next : from + 1 + j ≡ from + suc j = omega arith in ap (slice_get all) next ∙ same (suc j)))

pub cascades_there : (all : Declared) (from : ℕ) (ts : List TypeDraft) → AllByRecursion (λ t. AllByRecursion IsLed t.fields) ts → ((j : ℕ) → slice_get all (from + j) ≡ slice_get (map type_declared ts) j)
    → AllByRecursion (IsCascadeThere all) (flat_map type_cascades (enumerate_from from ts))
cascades_there all from [] led same = tt
cascades_there all from (t ∷ ts) led same =
    let start : from ≡ from + 0 = omega arith in
    let found : slice_get all from ≡ Some (type_declared t) = ap (slice_get all) start ∙ same 0 in
    let fields = (type_declared t).1 in
    all_append (IsCascadeThere all) (type_cascades (from, t)) _
    (each_of (IsCascadeOf from fields) (IsCascadeThere all) (type_cascades (from, t)) (λ c h. (type_declared t, ap (slice_get all) h.0 ∙ found, h.1))
    (cascades_of_fields from fields 0 t.fields led.0 (λ j. let here : 0 + j ≡ j = omega arith in ap (slice_get fields) here)))
    (cascades_there all (from + 1) ts led.1 (λ j. let next : from + 1 + j ≡ from + suc j = omega arith in ap (slice_get all) next ∙ same (suc j)))
