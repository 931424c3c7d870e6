-- A bundle with another datum in one field.
use Rattle.std.specs.Prelude.{ℕ, List, [], ◌∷◌, if◌then◌else◌}
use Rattle.std.specs.Str.{bytes_eq}
use Rattle.fv_datum.specs.Data.{Data}
use Rattle.fv_bundle.specs.Bundles.{Thing, Bundled}

-- the entries with what stands at a name changed so; the same where nothing stands there
abbrev pub changed_at : {X : Type 0} → List ℕ → (X → X) → List (List ℕ × X) → List (List ℕ × X)
changed_at name change [] = []
changed_at name change (e ∷ es) = if bytes_eq name e.0 then (e.0, change e.1) ∷ es else e ∷ changed_at name change es

-- the object with this datum in the field of that name
abbrev pub thing_with : List ℕ → Data → Thing → Thing
thing_with field d t = record { type_name = t.type_name; fields = changed_at field (λ _. d) t.fields }

-- the bundle with this datum in that field of the object of that name
abbrev pub bundle_with : List ℕ → List ℕ → Data → Bundled → Bundled
bundle_with object field d b = record { root = b.root; objects = changed_at object (thing_with field d) b.objects }
