-- The rules of the house, by their numbers.
use Rattle.std.specs.Prelude.{ℕ, Bool, true, if◌then◌else◌, ◌==◌, [], ◌∷◌}
use Rattle.fv_datum.specs.Attributes.{Attributes}
use Rattle.fv_datum.specs.Data.{Data}
use Rattle.fv_datum.specs.declared.kind.Kind.TheVariants.{Text}
use Rattle.fv_bundle.specs.Bundles.{Thing}
use Rattle.fv_house.specs.Luhn.{luhn}
use Rattle.fv_house.specs.Objects.{not_after, sum_is}
use Rattle.fv_house.specs.Words.{one_of}
use Rattle.fv_registry.specs.Rules.{Known}

-- rules of data; a number without a rule asks nothing
abbrev pub decides : ℕ → Data → Attributes → Bool
decides rule d attrs = if rule == 1 then luhn d else (if rule == 2 then one_of d attrs else true)

-- rules of objects, likewise
abbrev pub decides_object : ℕ → Thing → Attributes → Bool
decides_object rule o attrs = if rule == 3 then not_after o attrs else (if rule == 4 then sum_is o attrs else true)

-- the rules that are there: two of texts, and two of objects
abbrev pub house_rules : Known
house_rules = record { fields = (1, Text ∷ []) ∷ (2, Text ∷ []) ∷ []; objects = 3 ∷ 4 ∷ [] }
