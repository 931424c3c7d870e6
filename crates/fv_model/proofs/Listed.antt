-- Objects whose names are in order.
use Rattle.std.proofs.Common.{◌≡◌, ℕ, List, [], ◌∷◌, map, Bool, true, false, cond, Option, Some, None, refl, sym, ap, subst, ◌∙◌}
use Rattle.std.specs.Map.{keys_of}
use Rattle.serde_json.specs.Data as json
use Rattle.fv_datum.specs.Ascending.{IsAscending}
use Rattle.fv_datum.proofs.Lists.{both_some}
use Rattle.fv_datum.specs.Forms.{map2}
use Rattle.fv_datum.specs.Members.{each_some}
use Rattle.fv_model.specs.Draft.{ObjectDraft, object_draft}
use Rattle.fv_model.specs.Reading.{object_types, object_of}
use Rattle.fv_bundle.specs.Types.{Declared}

-- ---- the objects that are given

built : (b : Bool) (name : List ℕ) (type : Option (List ℕ)) (given : Option json.Members) (p : ObjectDraft)
    → cond b (map2 (λ t g. record { name = name; type_name = t; given = g }) type given) None ≡ Some p → p.name ≡ name
built true name (Some t) (Some g) p e =
    let same : record { name = name; type_name = t; given = g } ≡ p = cc in
    ap (λ (q : ObjectDraft). q.name) (sym same)
built true name (Some t) None p e = cc
built true name None given p e = cc
built false name type given p e = cc

part_named : (m : List ℕ × json.Data) (p : ObjectDraft) → object_draft m ≡ Some p → p.name ≡ m.0
part_named m p e = built _ m.0 _ _ p e

-- objects have the names of the members that they are read from
pub parts_named : (ms : List (List ℕ × json.Data)) (ps : List ObjectDraft) → each_some object_draft ms ≡ Some ps → keys_of (object_types ps) ≡ keys_of ms
parts_named [] ps e = let same : [] ≡ ps = cc in ap (λ (qs : List ObjectDraft). keys_of (object_types qs)) (sym same)
parts_named (m ∷ ms) ps e =
    let found = both_some (object_draft m) (each_some object_draft ms) ps e in
    ap (λ (qs : List ObjectDraft). keys_of (object_types qs)) (sym found.4) ∙ ap (λ n. n ∷ keys_of (object_types found.1)) (part_named m found.0 found.2) ∙ ap (λ ns. m.0 ∷ ns) (parts_named ms found.1 found.3)

-- members in order give objects in order
pub parts_ascend : (ms : List (List ℕ × json.Data)) (ps : List ObjectDraft) → IsAscending (keys_of ms) → Some ps ≡ each_some object_draft ms → IsAscending (keys_of (object_types ps))
parts_ascend ms ps ordered e = subst (λ (ns : List (List ℕ)). IsAscending ns) (sym (parts_named ms ps (sym e))) ordered

-- objects keep their names
pub objects_named : (ts : Declared) (ps : List ObjectDraft) → keys_of (map (object_of ts) ps) ≡ keys_of (object_types ps)
objects_named ts [] = refl
objects_named ts (p ∷ ps) = ap (λ ns. p.name ∷ ns) (objects_named ts ps)
