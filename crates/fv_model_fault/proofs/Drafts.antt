-- What the JSON of a bundle gives is what its draft has.
use Rattle.std.proofs.Common.{◌≡◌, ℕ, List, [], ◌∷◌, map, codes, Bool, true, false, cond, ◌||◌, Option, Some, None, option_map, option_and_then, unwrap_or, refl, sym, ap, ap₂, ◌∙◌}
use Rattle.std.specs.List.{list_any}
use Rattle.std.specs.Option.{option_map_or}
use Rattle.serde_json.specs.Data as json
use Rattle.serde_json.specs.Find.{as_str, as_object, get}
use Rattle.fv_datum.specs.Forms.{required, map2, each_member}
use Rattle.fv_datum.specs.Members.{pairs, each_some, has_only}
use Rattle.fv_datum.proofs.Lists.{both_some}
use Rattle.fv_model.specs.Draft.{ObjectDraft, object_draft, BundleDraft, bundle_draft_of}
use Rattle.fv_model_fault.specs.Given.{objects_in, root_in, type_in, fields_in}

-- ---- an object

-- a part of a draft has what its member gives
pub record IsRead (m : List ℕ × json.Data) (p : ObjectDraft) : Type 0 where
  pub name : p.name ≡ m.0
  pub type_name : p.type_name ≡ type_in m.1
  pub given : pairs p.given ≡ fields_in m.1

abbrev part : List ℕ → List ℕ → json.Members → ObjectDraft
part name type given = record { name = name; type_name = type; given = given }

-- the same by the parts of the member
record IsMade (named : List ℕ) (type : Option (List ℕ)) (fields : Option json.Data) (p : ObjectDraft) : Type 0 where
  name : p.name ≡ named
  type_name : p.type_name ≡ unwrap_or type []
  given : pairs p.given ≡ option_map_or pairs (option_and_then as_object fields) []

with_fields : (name type : List ℕ) (f : json.Data) (ms : Option json.Members) (p : ObjectDraft) → as_object f ≡ ms → option_map (part name type) ms ≡ Some p → IsMade name (Some type) (Some f) p
with_fields name type f (Some ms) p is e =
    let same : part name type ms ≡ p = cc in
    record {
      name = ap (λ (q : ObjectDraft). q.name) (sym same);
      type_name = ap (λ (q : ObjectDraft). q.type_name) (sym same);
      given = ap (λ (q : ObjectDraft). pairs q.given) (sym same) ∙ ap (λ o. option_map_or pairs o []) (sym is);
    }
with_fields name type f None p is e = cc

made : (b : Bool) (name : List ℕ) (type : Option (List ℕ)) (fields : Option json.Data) (p : ObjectDraft)
    → cond b (map2 (part name) type (option_map_or as_object fields (Some json.no_members))) None ≡ Some p → IsMade name type fields p
made false name type fields p e = cc
made true name None fields p e = cc
made true name (Some type) None p e =
    let same : part name type json.no_members ≡ p = cc in
    record {
      name = ap (λ (q : ObjectDraft). q.name) (sym same);
      type_name = ap (λ (q : ObjectDraft). q.type_name) (sym same);
      given = ap (λ (q : ObjectDraft). pairs q.given) (sym same);
    }
made true name (Some type) (Some f) p e = with_fields name type f (as_object f) p refl e

pub part_read : (m : List ℕ × json.Data) (p : ObjectDraft) → object_draft m ≡ Some p → IsRead m p
part_read m p e =
    let is = made (has_only (codes "type" ∷ codes "fields" ∷ []) m.1) m.0 (required as_str (codes "type") m.1) (get (codes "fields") m.1) p e in
    record { name = is.name; type_name = is.type_name; given = is.given }

-- ---- the bundle

-- a draft has what the JSON gives
pub record IsDrafted (j : json.Data) (d : BundleDraft) : Type 0 where
  pub root : d.root ≡ root_in j
  pub objects : each_some object_draft (objects_in j) ≡ Some d.objects

abbrev draft : List ℕ → List ObjectDraft → BundleDraft
draft root parts = record { root = root; objects = parts }

record IsMadeOf (named : Option (List ℕ)) (members : Option json.Members) (d : BundleDraft) : Type 0 where
  root : d.root ≡ unwrap_or named []
  objects : each_some object_draft (option_map_or pairs members []) ≡ Some d.objects

with_parts : (root : List ℕ) (ms : json.Members) (ps : Option (List ObjectDraft)) (d : BundleDraft) → each_some object_draft (pairs ms) ≡ ps → option_map (draft root) ps ≡ Some d → IsMadeOf (Some root) (Some ms) d
with_parts root ms (Some ps) d is e =
    let same : draft root ps ≡ d = cc in
    record {
      root = ap (λ (q : BundleDraft). q.root) (sym same);
      objects = is ∙ ap (λ (q : BundleDraft). Some q.objects) same;
    }
with_parts root ms None d is e = cc

with_objects : (root : List ℕ) (ms : Option json.Members) (d : BundleDraft) → option_map (draft root) (option_and_then (λ ms. each_some object_draft (pairs ms)) ms) ≡ Some d → IsMadeOf (Some root) ms d
with_objects root None d e = cc
with_objects root (Some ms) d e = with_parts root ms (each_some object_draft (pairs ms)) d refl e

drafted_at : (b : Bool) (root : Option (List ℕ)) (objects : Option json.Data) (d : BundleDraft) → cond b (map2 draft root (option_and_then (each_member object_draft) objects)) None ≡ Some d → IsMadeOf root (option_and_then as_object objects) d
drafted_at false root objects d e = cc
drafted_at true None objects d e = cc
drafted_at true (Some root) None d e = cc
drafted_at true (Some root) (Some o) d e = with_objects root (as_object o) d e

pub drafted : (j : json.Data) (d : BundleDraft) → bundle_draft_of j ≡ Some d → IsDrafted j d
drafted j d e =
    let is = drafted_at (has_only (codes "root" ∷ codes "objects" ∷ []) j) (required as_str (codes "root") j) (get (codes "objects") j) d e in
    record { root = is.root; objects = is.objects }

-- ---- what is read of each element of a list

module _ {X Y : Type 0} (f : X → Option Y) where
  pub any_read : (t : X → Bool) (s : Y → Bool) → ((x : X) (y : Y) → f x ≡ Some y → t x ≡ s y) → (xs : List X) (ys : List Y) → each_some f xs ≡ Some ys → list_any t xs ≡ list_any s ys
  any_read t s same [] ys is = let none : [] ≡ ys = cc in ap (list_any s) none
  any_read t s same (x ∷ xs) ys is =
      let found = both_some (f x) (each_some f xs) ys is in
      ap₂ (λ a b. a || b) (same x found.0 found.2) (any_read t s same xs found.1 found.3) ∙ ap (list_any s) found.4

  pub map_read : {Z : Type 0} (g : X → Z) (h : Y → Z) → ((x : X) (y : Y) → f x ≡ Some y → g x ≡ h y) → (xs : List X) (ys : List Y) → each_some f xs ≡ Some ys → map g xs ≡ map h ys
  map_read g h same [] ys is = let none : [] ≡ ys = cc in ap (map h) none
  map_read g h same (x ∷ xs) ys is =
      let found = both_some (f x) (each_some f xs) ys is in
      ap₂ (λ z zs. z ∷ zs) (same x found.0 found.2) (map_read g h same xs found.1 found.3) ∙ ap (map h) found.4
