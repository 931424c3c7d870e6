-- The data of a type use that are within the limits.
use Rattle.std.specs.Prelude.{◌≡◌, ◌⊎◌, ◌≤◌, ℕ, List, length, true}
use Rattle.std.specs.List.{AllByRecursion}
use Rattle.std.specs.Map.{keys_of}
use Rattle.fv_datum.specs.Data.{Data, null, text, reference, optional}
use Rattle.fv_datum.specs.Kinds.{IsOfKind}
use Rattle.fv_datum.specs.Name.{names}
use Rattle.fv_bundle.specs.TypeLimits.{longest_text, most_entries}
use Rattle.fv_datum.specs.Ascending.{IsAscending}
use Rattle.fv_bundle.specs.Spelled.{list_of, map_of}
use Rattle.fv_bundle.specs.Types.{TypeUse, texts, references, lists, maps, optionals, kind_of}

-- which names references to objects of a type may be
abbrev pub Referring : Type 1
Referring = List ℕ → List ℕ → Type 0

-- null, or as said
abbrev pub OrNull : (Data → Type 0) → Data → Type 0
OrNull P d = (d ≡ null) ⊎ P d

-- a datum of the type use other than null: a text or a key has at most 65,536 bytes, a list or a map at most 65,536 entries,
-- the keys of a map ascend, and a reference is one of the names
abbrev pub IsOfUse : Referring → TypeUse → Data → Type 0
IsOfUse Named texts d = (s : List ℕ) × (length s ≤ longest_text) × (d ≡ text s)
IsOfUse Named (references type) d = (name : List ℕ) × (names name ≡ true) × Named type name × (d ≡ reference name)
IsOfUse Named (lists held) d =
    (ds : List Data) × (length ds ≤ most_entries) × AllByRecursion (OrNull (IsOfUse Named held)) ds × (d ≡ list_of ds)
IsOfUse Named (maps held) d = (es : List (List ℕ × Data)) × (length es ≤ most_entries) × IsAscending (keys_of es)
    × AllByRecursion (λ e. (length e.0 ≤ longest_text) × OrNull (IsOfUse Named held) e.1) es × (d ≡ map_of es)
IsOfUse Named (optionals held) d = (held_datum : Data) × OrNull (IsOfUse Named held) held_datum × (d ≡ optional held_datum)
IsOfUse Named type_use d = IsOfKind (kind_of type_use) d

-- null, or such a datum
abbrev pub Fits : Referring → TypeUse → Data → Type 0
Fits Named type_use = OrNull (IsOfUse Named type_use)
