-- A bundle's JSON by its names, before any of them is judged.
use Rattle.std.specs.Prelude.{ℕ, List, [], ◌∷◌, Option, codes}
use Rattle.serde_json.specs.Data as json
use Rattle.serde_json.specs.Find.{as_str, as_object}
use Rattle.fv_datum.specs.Forms.{only, required, optional, each_member, map2}

-- an object's name, its type's name and the fields that are given
pub record ObjectDraft : Type 0 where
  pub name : List ℕ
  pub type_name : List ℕ
  pub given : json.Members

-- what is given of an object, as what is written of one stands
abbrev pub part_written : ObjectDraft → List ℕ × (List ℕ × json.Members)
part_written p = (p.name, (p.type_name, p.given))

-- the root's name, and the objects in the order of their names
pub record BundleDraft : Type 0 where
  pub root : List ℕ
  pub objects : List ObjectDraft

-- `{"type":TYPE,"fields":{..}}`, `fields` may be missing
abbrev pub object_draft : List ℕ × json.Data → Option ObjectDraft
object_draft m = only (codes "type" ∷ codes "fields" ∷ []) (λ j.
    map2 (λ type given. record { name = m.0; type_name = type; given = given })
    (required as_str (codes "type") j) (optional json.no_members as_object (codes "fields") j)) m.1

-- `{"root":NAME,"objects":{..}}`
abbrev pub bundle_draft_of : json.Data → Option BundleDraft
bundle_draft_of = only (codes "root" ∷ codes "objects" ∷ []) (λ j.
    map2 (λ root parts. record { root = root; objects = parts })
    (required as_str (codes "root") j) (required (each_member object_draft) (codes "objects") j))
