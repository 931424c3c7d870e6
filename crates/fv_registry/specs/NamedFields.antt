-- What a rule of objects needs of the fields that attributes name.
use Rattle.std.specs.Prelude.{◌≡◌, ℕ, List, Bool, true, false, Option, Some, option_and_then}
use Rattle.std.specs.List.{AllByRecursion}
use Rattle.fv_datum.specs.Attributes.{text_in, Attributes}
use Rattle.fv_datum.specs.Data.{Data, text, integer, decimal, boolean, date, instant, reference, list, map, optional}
use Rattle.fv_datum.specs.Lookup.{at_name}
use Rattle.fv_datum.specs.declared.kind.Kind.{Kind}
use Rattle.fv_datum.specs.declared.kind.Kind.TheVariants.{Text, Integer, Decimal, Boolean, Date, Instant, Ref, List as list_kind, Map, Optional}
use Rattle.fv_bundle.specs.Bundles.{Thing}
use denote.Ref.{Bor}

-- the datum of the field that the attribute names
abbrev pub named : Thing → Attributes → List ℕ → Option Data
named o attrs key = option_and_then (λ t. at_name t o.fields) (option_and_then text_in (at_name key attrs))

-- a datum of the kind; null is of none
abbrev pub holds_kind : Kind → Data → Bool
holds_kind Text (text s) = true
holds_kind Integer (integer n) = true
holds_kind Decimal (decimal s) = true
holds_kind Boolean (boolean b) = true
holds_kind Date (date s) = true
holds_kind Instant (instant n) = true
holds_kind Ref (reference s) = true
holds_kind list_kind (list ds) = true
holds_kind Map (map es) = true
holds_kind Optional (optional d) = true
holds_kind _ _ = false

-- an object is refused only where the attribute names a field of it that holds a datum of the kind
abbrev pub Needs : (Thing → Attributes → Bool) → List ℕ → Kind → Type 0
Needs decides attribute kind =
    (o : Thing) (attrs : Attributes) → decides o attrs ≡ false → (d : Data) × (named o attrs attribute ≡ Some d) × (holds_kind kind d ≡ true)

-- the same of each of these attributes, which has a kind of its own
abbrev pub NeedsAll : (Thing → Attributes → Bool) → List (Bor (List ℕ) × Kind) → Type 0
NeedsAll decides = AllByRecursion (λ n. Needs decides n.0.now n.1)
