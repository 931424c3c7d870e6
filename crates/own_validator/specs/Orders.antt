-- What the rules of this program mean.
use Rattle.std.specs.Prelude.{ℕ, ◌==◌, Bool, true, false, if◌then◌else◌}
use Rattle.std.specs.Char.{is_ascii_uppercase}
use Rattle.std.specs.List.{list_all}
use Rattle.fv_datum.specs.Attributes.{Attributes}
use Rattle.fv_datum.specs.Data.{Data, null, text}
use Rattle.fv_bundle.specs.Bundles.{Thing}

-- null, or a text of capital letters alone
abbrev pub capitals : Data → Bool
capitals null = true
capitals (text s) = list_all is_ascii_uppercase s
capitals _ = false

-- rule 7 is of capital letters; no other rule is asked
abbrev pub decides : ℕ → Data → Attributes → Bool
decides rule d attributes = if rule == 7 then capitals d else true

-- no rule of objects is asked
abbrev pub decides_object : ℕ → Thing → Attributes → Bool
decides_object rule o attributes = true
