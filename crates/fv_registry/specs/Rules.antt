-- The rules of a registry.
use Rattle.std.specs.Prelude.{◌≡◌, ◌==◌, ◌||◌, ℕ, Bool, false, List, [], ◌∷◌, length, map, Option, Some, None, Result, Ok, Err, if◌then◌else◌, nat_lt}
use Rattle.std.specs.List.{list_any}
use Rattle.fv_datum.specs.declared.kind.Kind.{Kind}
use Rattle.fv_registry.specs.SameKind.{same_kind}
use Rattle.fv_registry.specs.declared.fault.RegistryFault.{RegistryFault}
use Rattle.fv_registry.specs.declared.fault.RegistryFault.TheVariants.{DuplicateRule, TooMany, Memory}

-- the rules that are registered: of data, each with the kinds that it takes, and of objects
pub record Known : Type 0 where
  pub fields : List (ℕ × List Kind)
  pub objects : List ℕ

-- a rule is among them
abbrev pub has_rule : ℕ → List ℕ → Bool
has_rule rule = list_any (λ r. r == rule)

-- the rule of that number is registered for data
abbrev pub knows_field : ℕ → Known → Bool
knows_field rule k = has_rule rule (map (λ v. v.0) k.fields)

-- the rule of that number is registered for objects
abbrev pub knows_object : ℕ → Known → Bool
knows_object rule k = has_rule rule k.objects

-- whether the rule of that number lists the kind
abbrev pub lists_kind : ℕ → Kind → List (ℕ × List Kind) → Bool
lists_kind rule kind [] = false
lists_kind rule kind (v ∷ vs) = if v.0 == rule then list_any (λ k. same_kind k kind) v.1 else lists_kind rule kind vs

-- the rule of that number is registered for data and lists the kind
abbrev pub rule_takes_kind : ℕ → Kind → Known → Bool
rule_takes_kind rule kind k = lists_kind rule kind k.fields

-- ---- why a registry is refused

-- a number stands twice
abbrev pub has_twice : List ℕ → Bool
has_twice [] = false
has_twice (r ∷ rs) = has_rule r rs || has_twice rs

-- why a registry of these rules is refused, apart from memory
abbrev pub refused : List ℕ → Option RegistryFault
refused rules = if has_twice rules then Some DuplicateRule else (if nat_lt 256 (length rules) then Some TooMany else None)

-- a call refuses by this fault, or memory ran out
abbrev pub Refuses : {X : Type 0} → Result X RegistryFault → Option RegistryFault → Type 0
Refuses (Ok x) o = o ≡ None
Refuses (Err Memory) o = Unit {0}
Refuses (Err DuplicateRule) o = o ≡ Some DuplicateRule
Refuses (Err TooMany) o = o ≡ Some TooMany
