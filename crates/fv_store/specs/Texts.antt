-- The text of a bundle, and how it is put together from what its rows keep.
use Rattle.std.specs.Prelude.{ℕ, List, [], ◌∷◌, ◌++◌, codes}
use Rattle.json.specs.Print.{quoted}
use Rattle.serde_json.specs.Written.{compact_text}
use Rattle.fv_bundle.specs.Bundles.{Bundled}
use Rattle.fv_model.specs.Writing.{bundle_json}
use Rattle.fv_store_tables.specs.Changes.{NamedTexts, AllTexts}

-- a bundle's JSON with no space
unfoldable pub bundle_text : Bundled → List ℕ
bundle_text b = compact_text (bundle_json b)

-- an object, behind its name: its fields' text and its type's name
abbrev pub object_text : NamedTexts → List ℕ
object_text o = quoted o.0 ++ (codes ":{\"fields\":" ++ (o.1.fields ++ (codes ",\"type\":" ++ (quoted o.1.kind ++ codes "}"))))

-- objects, the first behind these bytes, each other behind a comma
abbrev pub objects_text : List ℕ → AllTexts → List ℕ
objects_text front [] = []
objects_text front (o ∷ os) = front ++ (object_text o ++ objects_text (codes ",") os)

-- a bundle of these objects with a root of this name
abbrev pub rows_text : List ℕ → AllTexts → List ℕ
rows_text root os = codes "{\"objects\":{" ++ (objects_text [] os ++ (codes "},\"root\":" ++ (quoted root ++ codes "}")))
