-- The conditions of faults and what is written, by names.
use Rattle.std.proofs.Common.{ℕ, ◌||◌, List, map, length, take, drop, if◌then◌else◌, Bool, false, not, nat_lt, Option, None, Result, Err, is_some}
use Rattle.std.specs.List.{list_any, fold}
use Rattle.std.specs.Option.{option_map_or}
use Rattle.serde_json.specs.Data as json
use Rattle.fv_datum.specs.Data.{Data}
use Rattle.fv_datum.specs.Lookup.{at_name}
use Rattle.fv_datum.specs.Name.{names}
use Rattle.fv_datum.specs.Outcomes.{first, unless_fault}
use Rattle.fv_datum.specs.Written.{is_null}
use Rattle.fv_bundle.specs.Flaws.{Flaw, undeclared, misfits, dangles, strays, is_large, is_other}
use Rattle.fv_bundle.specs.Names.{ObjectTypes}
use Rattle.fv_bundle.specs.Types.{DeclaredFields, Declared}
use Rattle.fv_bundle.specs.Bundles.{Thing, Things, Bundled}
use Rattle.fv_model.specs.Draft.{ObjectDraft, BundleDraft}
use Rattle.fv_model.specs.Reading.{object_types, has_flaw, bundle_conditions, bundle_of}
use Rattle.fv_model.specs.Writing.{datum_json, thing_json}
use Rattle.fv_model.specs.declared.fault.BundleFault.{BundleFault}
use Rattle.fv_model.specs.declared.fault.BundleFault.TheVariants.{Shape}

abbrev pub bad_name : List ObjectDraft → Bool
bad_name = list_any (λ p. not (names p.name))

abbrev pub root_missing : List ℕ → List ObjectDraft → Bool
root_missing root ps = not (is_some (at_name root (object_types ps)))

abbrev pub unknown_type : Declared → List ObjectDraft → Bool
unknown_type ts = list_any (λ p. not (is_some (at_name p.type_name ts)))

-- one of the data that are given for the fields of a type has the flaw
abbrev pub flaw_among : Flaw → DeclaredFields → List (List ℕ × json.Data) → Bool
flaw_among flaw fields = list_any (λ g. flaw (at_name g.0 fields) g.1)

-- the same, of one of the objects
abbrev pub some_flawed : Flaw → Declared → List ObjectDraft → Bool
some_flawed flaw ts = list_any (has_flaw flaw ts)

abbrev pub unknown_field : Declared → List ObjectDraft → Bool
unknown_field = some_flawed undeclared

abbrev pub wrong_kind : Declared → List ObjectDraft → Bool
wrong_kind = some_flawed misfits

abbrev pub dangling_ref : Declared → List ObjectDraft → Bool
dangling_ref ts ps = some_flawed (dangles (object_types ps)) ts ps

abbrev pub ref_type : Declared → List ObjectDraft → Bool
ref_type ts ps = some_flawed (strays (object_types ps)) ts ps

abbrev pub large_datum : Declared → List ObjectDraft → Bool
large_datum = some_flawed is_large

abbrev pub too_large : Declared → List ObjectDraft → Bool
too_large ts ps = nat_lt 256 (length ps) || large_datum ts ps

abbrev pub root_type : Option (List ℕ) → List ℕ → List ObjectDraft → Bool
root_type asked root ps = option_map_or (λ type. is_other type (at_name root (object_types ps))) asked false

-- what can be wrong with names and types
abbrev pub name_conditions : Declared → BundleDraft → List (Bool × BundleFault)
name_conditions ts d = take 3 (bundle_conditions ts None d)

-- what else can be wrong where each field is declared, and each datum of its kind
abbrev pub late_conditions : Declared → Option (List ℕ) → BundleDraft → List (Bool × BundleFault)
late_conditions ts asked d = drop 5 (bundle_conditions ts asked d)

-- the first fault of a draft
abbrev pub draft_fault : Declared → Option (List ℕ) → BundleDraft → Option BundleFault
draft_fault ts asked d = first (bundle_conditions ts asked d)

-- the bundle that a draft is, or its first fault
abbrev pub judged : Declared → Option (List ℕ) → Option BundleDraft → Result Bundled BundleFault
judged ts asked o = option_map_or (λ d. unless_fault (draft_fault ts asked d) (bundle_of ts d)) o (Err Shape)

-- the names of objects, each with the name of its type
abbrev pub types_of : Things → ObjectTypes
types_of = map (λ o. (o.0, o.1.type_name))

-- the members with each field that isn't null put in
abbrev pub added : json.Members → List (List ℕ × Data) → json.Members
added = fold (λ ms f. if is_null f.1 then ms else json.put f.0 (datum_json f.1) ms)

-- the members with each object put in
abbrev pub objects_added : json.Members → List (List ℕ × Thing) → json.Members
objects_added = fold (λ ms o. json.put o.0 (thing_json o.1) ms)
