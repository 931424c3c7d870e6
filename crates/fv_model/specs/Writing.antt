-- The JSON that a bundle is written as.
pub use Rattle.fv_bundle.specs.Writing.{IsWritten, datum_json}
use Rattle.std.specs.Prelude.{ℕ, List, codes, map, if◌then◌else◌}
use Rattle.std.specs.List.{fold}
use Rattle.serde_json.specs.Data as json
use Rattle.fv_datum.specs.Data.{Data}
use Rattle.fv_datum.specs.Written.{is_null}
use Rattle.fv_bundle.specs.Bundles.{Thing, Bundled}

-- the members of the fields that aren't null, in the order of their names
abbrev pub fields_json : List (List ℕ × Data) → json.Members
fields_json = fold (λ ms f. if is_null f.1 then ms else json.put f.0 (datum_json f.1) ms) json.no_members

-- an object's JSON: its fields that aren't null, and its type
abbrev pub thing_json : Thing → json.Data
thing_json t = json.object (json.member (codes "fields") (json.object (fields_json t.fields))
    (json.member (codes "type") (json.string t.type_name) json.no_members))

-- a bundle's JSON: its objects, in the order of their names, and its root's name
abbrev pub bundle_json : Bundled → json.Data
bundle_json b = json.object (json.member (codes "objects") (json.object (fold (λ ms o. json.put o.0 (thing_json o.1) ms) json.no_members b.objects))
    (json.member (codes "root") (json.string b.root) json.no_members))

-- ---- the same, by its parts

-- what is written of an object: its name, its type's name, and its fields that aren't null
abbrev pub named_written : List ℕ × Thing → List ℕ × (List ℕ × json.Members)
named_written o = (o.0, (o.1.type_name, fields_json o.1.fields))

-- what is written of a bundle: its root's name, and its objects by their names
abbrev pub bundle_written : Bundled → List ℕ × List (List ℕ × (List ℕ × json.Members))
bundle_written b = (b.root, map named_written b.objects)
