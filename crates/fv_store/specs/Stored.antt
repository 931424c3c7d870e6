-- What rows keep, as it is handed out.
use Rattle.std.specs.Prelude.{ℕ, ℤ, List, Option, Some, string_bytes}
use Rattle.serde_json.specs.Data as json
use Rattle.serde_json.specs.Read.{read}
use Rattle.fv_bundle.specs.Views.{bundle_view}
use Rattle.fv_model.specs.Writing.{bundle_json}
use Rattle.fv_store.specs.declared.about.About.{About}
use Rattle.fv_store.specs.declared.stored.Stored.{Stored}
use Rattle.fv_store.specs.declared.written.Written.{Written}
use Rattle.fv_store.specs.Records.{Kept}
use Rattle.fv_store.specs.Texts.{bundle_text}

-- the record that it is
abbrev pub stored_view : Stored → Kept
stored_view s = record { form = string_bytes s.form; bundle = bundle_view s.bundle }

-- the form and the JSON that it is
abbrev pub written_view : Written → List ℕ × Option json.Data
written_view w = (string_bytes w.form, read (string_bytes w.bundle))

-- what is handed out of a record without types: its form, and its bundle's JSON
abbrev pub untyped : Kept → List ℕ × Option json.Data
untyped k = (k.form, Some (bundle_json k.bundle))

-- the same as text: its form, and its bundle's JSON with no space
abbrev pub text_of : Kept → List ℕ × List ℕ
text_of k = (k.form, bundle_text k.bundle)

-- as it is handed out
abbrev pub text_view : Written → List ℕ × List ℕ
text_view w = (string_bytes w.form, string_bytes w.bundle)

-- a version of the tables, and declarations
abbrev pub Told : Type 0
Told = ℤ × List ℕ

-- as the row of `about` tells them
abbrev pub told : ℤ → List ℕ → Told
told version declarations = (version, declarations)

-- as the code has them
abbrev pub about_view : About → Told
about_view a = (a.version, a.declarations.items)
