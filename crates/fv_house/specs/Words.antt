-- A text that is one of the words of a list.
use Rattle.std.specs.Prelude.{ℕ, List, Bool, true, false, Option, Some, codes}
use Rattle.std.specs.List.{list_any}
use Rattle.std.specs.Str.{bytes_eq}
use Rattle.fv_datum.specs.Attributes.{AttributeValue, Attributes, texts}
use Rattle.fv_datum.specs.Data.{Data, null, text}
use Rattle.fv_datum.specs.Lookup.{at_name}

-- the text is one of the words
abbrev pub is_among : List ℕ → List (List ℕ) → Bool
is_among t = list_any (bytes_eq t)

-- the same for an attribute: none but a list of texts has words
abbrev pub has_word : List ℕ → Option AttributeValue → Bool
has_word t (Some (texts ws)) = is_among t ws
has_word t _ = false

-- null, or a text that is one of the attribute `words`
abbrev pub one_of : Data → Attributes → Bool
one_of null attrs = true
one_of (text t) attrs = has_word t (at_name (codes "words") attrs)
one_of _ attrs = false
