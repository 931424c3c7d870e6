-- The places whose objects are validated rise, as the cascades of a draft do.
use Rattle.std.proofs.Common.{◌≡◌, ℕ, ◌+◌, ◌<◌, List, [], ◌∷◌, length, map, Bool, true, false, Some, None, if◌then◌else◌, refl}
use Rattle.std.specs.List.{AllByRecursion, flat_map, enumerate_from, cons_option}
use Rattle.fv_declare_draft.specs.Drafts.{FieldDraft, TypeDraft}
use Rattle.fv_declare_draft.specs.Places.{PlacedCascade}
use Rattle.fv_extract.specs.Pairs.{Pairwise}
use Rattle.fv_declare_schema.specs.ValidPlaces.{ValidPlace}
use Rattle.fv_declare_groups.specs.Numbered.{valid_place, valid_places}
use Rattle.fv_declare_schema.specs.Groups.{Groups}
use Rattle.fv_declare_draft.specs.AllCascades.{Cascade, cascade_in, field_cascades, type_cascades, cascades_in}
use Rattle.fv_declare_judging.specs.Judging.{AreDeepening, IsLed}
use Rattle.fv_declare_schema.specs.Ordered.{PrecedesPlace, ArePlacesRising}
use Rattle.fv_declare_judging.proofs.Alls.{all_append, all_mapped, all_mapped_by}
use Rattle.fv_declare_judging.proofs.ByNumber.{ByNumber, made_rise}

-- ---- all cascades

-- fewer steps inside
abbrev IsLessDeep : Cascade → Cascade → Type 0
IsLessDeep c d = length c.placed.steps < length d.placed.steps

abbrev InField : Cascade → Cascade → Type 0
InField = ByNumber (λ c. c.field) IsLessDeep

abbrev pub InType : Cascade → Cascade → Type 0
InType = ByNumber (λ c. c.type) InField

field_deepens : (type number : ℕ) (cs : List PlacedCascade) → AreDeepening cs → Pairwise IsLessDeep (map (cascade_in type number) cs)
field_deepens type number [] h = tt
field_deepens type number (c ∷ cs) h = (
  all_mapped_by (λ d. length c.steps < length d.steps) (IsLessDeep (cascade_in type number c)) (cascade_in type number) cs (λ d k. k) h.0,
  field_deepens type number cs h.1,
)

fields_rise : (type : ℕ) (fs : List FieldDraft) → AllByRecursion IsLed fs → Pairwise InField (flat_map (field_cascades type) (enumerate_from 0 fs))
fields_rise type fs led =
    made_rise (λ c. c.field) IsLessDeep (field_cascades type) (λ f. all_mapped (λ c. c.field ≡ f.0) (cascade_in type f.0) f.1.cascades (λ c. refl))
    IsLed (λ n f h. field_deepens type n f.cascades h.2) 0 fs led

all_typed : (type from : ℕ) (fs : List FieldDraft) → AllByRecursion (λ c. c.type ≡ type) (flat_map (field_cascades type) (enumerate_from from fs))
all_typed type from [] = tt
all_typed type from (f ∷ fs) =
    all_append (λ c. c.type ≡ type) (field_cascades type (from, f)) _ (all_mapped (λ c. c.type ≡ type) (cascade_in type from) f.cascades (λ c. refl)) (all_typed type (from + 1) fs)

pub cascades_rise : (ts : List TypeDraft) → AllByRecursion (λ t. AllByRecursion IsLed t.fields) ts → Pairwise InType (cascades_in ts)
cascades_rise ts led =
    made_rise (λ c. c.type) InField type_cascades (λ t. all_typed t.0 0 t.1.fields) (λ t. AllByRecursion IsLed t.fields) (λ n t h. fields_rise n t.fields h) 0 ts led

-- ---- those whose objects are validated

module _ (gs : Groups) where
  all_placed : (P : ValidPlace → Type 0) (cs : List Cascade) → AllByRecursion (λ c. P (valid_place gs c)) cs → AllByRecursion P (valid_places gs cs)
  all_placed P [] all = tt
  all_placed P (c ∷ cs) all = go c.placed.cascade.valid (all_placed P cs all.1)
    where
      go : (b : Bool) → AllByRecursion P (valid_places gs cs) → AllByRecursion P (cons_option (if b then Some (valid_place gs c) else None) (valid_places gs cs))
      go true rest = (all.0, rest)
      go false rest = rest

  pub places_rise : (cs : List Cascade) → Pairwise InType cs → ArePlacesRising (valid_places gs cs)
  places_rise [] rise = tt
  places_rise (c ∷ cs) rise = go c.placed.cascade.valid (places_rise cs rise.1)
    where
      go : (b : Bool) → ArePlacesRising (valid_places gs cs) → ArePlacesRising (cons_option (if b then Some (valid_place gs c) else None) (valid_places gs cs))
      go true rest = (all_placed (PrecedesPlace (valid_place gs c)) cs rise.0, rest)
      go false rest = rest
