-- What the rows of a record of version 1 are in tables of version 2.
use Rattle.std.specs.Prelude.{◌≡◌, ◌+◌, ◌<◌, ◌^◌, ℕ, List, [], ◌∷◌, Option, Some, None, IsSome, codes, length, option_map, option_and_then, if◌then◌else◌}
use Rattle.std.specs.Option.{option_map_or}
use Rattle.serde_json.specs.Data as json
use Rattle.serde_json.specs.Find.{as_str, as_object}
use Rattle.serde_json.specs.Read.{read}
use Rattle.serde_json.specs.Written.{compact_text, has_float}
use Rattle.fv_datum.specs.Forms.{only, required, each_member, map2}
use Rattle.fv_store_tables.specs.Causes.{AreShort, IsShortHead}
use Rattle.fv_store_tables.specs.Changes.{NamedTexts, AllTexts}
use Rattle.fv_store_tables.specs.Olds.{AreOlds, Old, Olds}
use Rattle.fv_store_tables.specs.Stands.{Entry, TableEntries}

-- The text of an object's fields with no space, where each number in it, at any depth, is an integer from - 2 ^ 63 to 2 ^ 64 - 1, written
-- without a point or an exponent and not as `-0`. None where one isn't, since such numbers are floats, or where it is no object.
abbrev pub fields_in : json.Data → Option (List ℕ)
fields_in j = option_and_then (λ ms. if has_float (json.object ms) then None else Some (compact_text (json.object ms))) (as_object j)

-- an object by its form, `{"fields":{..},"type":TYPE}`: its name, its type's name and its fields' text
abbrev pub object_in : List ℕ × json.Data → Option NamedTexts
object_in m = only (codes "fields" ∷ codes "type" ∷ []) (λ j.
    map2 (λ kind fields. (m.0, record { kind = kind; fields = fields }))
    (required as_str (codes "type") j) (required fields_in (codes "fields") j)) m.1

-- a bundle by its form, `{"objects":{..},"root":NAME}`: the root's name, and the objects in the order of their names
abbrev pub bundle_in : json.Data → Option (List ℕ × AllTexts)
bundle_in = only (codes "objects" ∷ codes "root" ∷ []) (λ j.
    map2 (λ root objects. (root, objects))
    (required as_str (codes "root") j) (required (each_member object_in) (codes "objects") j))

-- a record of that form with the bundle
abbrev pub upgraded_entry : List ℕ → List ℕ × AllTexts → Entry
upgraded_entry form b = record { form = form; root = b.0; objects = b.1 }

-- the record that a row of version 1 is, where its text is JSON and a bundle by its form
abbrev pub entry_in : Old → Option Entry
entry_in o = option_map (λ b. record { form = o.form; root = b.0; objects = b.1 }) (option_and_then bundle_in (read o.bundle))

-- the records of version 2
abbrev pub upgraded : Olds → TableEntries
upgraded m id = option_and_then entry_in (m id)

-- each row of version 1 is a record
abbrev pub AllUpgrade : Olds → Type 0
AllUpgrade m = (id : List ℕ) (o : Old) → m id ≡ Some o → IsSome (entry_in o)

-- how many rows of version 2 a row of version 1 makes: one for the record and one for each of its objects
abbrev pub rows_in : Old → ℕ
rows_in o = option_map_or (λ (k : Entry). 1 + length k.objects) (entry_in o) 0

-- how many rows of version 2 these of version 1 make, each one for the record and one for each of its objects
abbrev pub rows_of : List (List ℕ × Old) → ℕ
rows_of [] = 0
rows_of (e ∷ es) = option_map_or (λ (k : Entry). 1 + length k.objects) (entry_in e.1) 0 + rows_of es

-- fewer than there are rowids
abbrev pub HasFew : Olds → Type 0
HasFew m = (es : List (List ℕ × Old)) → AreOlds es m → rows_of es < 2 ^ 63

-- no row of these records is too long for the database
abbrev pub AllShort : TableEntries → Type 0
AllShort m = (id : List ℕ) (k : Entry) → m id ≡ Some k → IsShortHead id (record { form = k.form; root = k.root }) × AreShort id k.objects
