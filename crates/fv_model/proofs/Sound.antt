-- A datum in which nothing is wrong fits its field.
use Rattle.std.proofs.Common.{◌≡◌, ℕ, List, [], ◌∷◌, Bool, true, false, not, Option, Some, None, Ok, Err, bytes_eq, is_some, inl, inr, refl, sym, ap, ◌∙◌}
use Rattle.std.specs.Option.{option_map_or}
use Rattle.std.proofs.lemmas.Slice.Eq.{bytes_eq-Decides}
use Rattle.serde_json.specs.Data as json
use Rattle.serde_json.specs.Find.{as_str}
use Rattle.fv_datum.specs.Data.{Data}
use Rattle.fv_datum.specs.Lookup.{at_name}
use Rattle.fv_datum.specs.Outcomes.{first, unless_fault}
use Rattle.fv_bundle.specs.Flaws.{misfits, referring, dangles, is_other, strays, is_large}
use Rattle.fv_bundle.specs.Names.{ObjectTypes}
use Rattle.fv_bundle.specs.Spelled.{datum_of}
use Rattle.fv_bundle.specs.Types.{TypeUse, Declared}
use Rattle.fv_bundle.specs.Writing.{IsWritten}
use Rattle.fv_datum.proofs.Bools.{not_false}
use Rattle.fv_bundle.proofs.Fitted.{IsFree, spelled_fits}
use Rattle.fv_bundle.specs.Bundles.{Thing, Things, Bundled}
use Rattle.fv_model.specs.Fitting.{unless_wrong}
use Rattle.fv_model.specs.Reading.{datum_at}
use Rattle.fv_bundle.specs.WellTyped.{NamesObject, FitsUse}
use Rattle.fv_model.proofs.Typed.{chosen}
use Rattle.fv_model.proofs.Wrong.{right}
use Rattle.fv_model.specs.declared.fault.BundleFault.{BundleFault}
use Rattle.fv_model.specs.declared.fault.BundleFault.TheVariants.{UnknownField, WrongKind, DanglingRef, RefType, TooLarge, NoObject}
use Rattle.fv_model.specs.Setting.{field_use_of, set_conditions, datum_for, datum_given, datum_in_use}
use Rattle.fv_model.proofs.Conditions.{types_of}

some_of : {X : Type 0} (o : Option X) → not (is_some o) ≡ false → (x : X) × (o ≡ Some x)
some_of (Some x) e = (x, refl)
some_of None e = cc

-- ---- references

-- where a name stands among the names of types, an object of that type has it
named_object : (os : Things) (name type : List ℕ) → at_name name (types_of os) ≡ Some type → NamesObject os type name
named_object [] name type e = cc
named_object (o ∷ os) name type e = elim (chosen (bytes_eq name o.0) o.1.type_name (at_name name (types_of os)) type e) [
  | inl here ↦ (o.1, rw here.0 refl, here.1)
  | inr more ↦ (let found = named_object os name type more.1 in (found.0, rw more.0 found.1, found.2))
]

same_name : (x y : List ℕ) → not (bytes_eq x y) ≡ false → x ≡ y
same_name x y e = (bytes_eq-Decides x y).0 (not_false (bytes_eq x y) e)

-- the references that the tests of references find
abbrev missing : ObjectTypes → TypeUse → json.Data → Bool
missing types = referring (λ type name. not (is_some (at_name name types)))

abbrev other : ObjectTypes → TypeUse → json.Data → Bool
other types = referring (λ type name. is_other type (at_name name types))

refers_at : (os : Things) (type name : List ℕ) (o : Option (List ℕ)) → o ≡ Some name → option_map_or (λ n. not (is_some (at_name n (types_of os)))) o false ≡ false → option_map_or (λ n. is_other type (at_name n (types_of os))) o false ≡ false → NamesObject os type name
refers_at os type name None is there own = cc
refers_at os type name (Some n) is there own =
    let same : n ≡ name = cc in
    let found = some_of (at_name n (types_of os)) there in
    let of_type : not (bytes_eq type found.0) ≡ false = rw found.1 at own in
    named_object os name type (ap (λ x. at_name x (types_of os)) (sym same) ∙ found.1 ∙ ap (λ t. Some t) (sym (same_name type found.0 of_type)))

-- ---- the datum

-- a datum that fits a field of an object that is there
pub record Is (ts : Declared) (os : Things) (field : List ℕ) (there : Option Thing) (d : Data) : Type 0 where
  pub object : Thing
  pub is_there : there ≡ Some object
  pub holds : TypeUse
  pub declared : field_use_of ts field object ≡ Some holds
  pub fits : FitsUse os holds d

parts : (a b c e : Bool) (x y : Data) → unless_fault (first ((a, WrongKind) ∷ (b, DanglingRef) ∷ (c, RefType) ∷ (e, TooLarge) ∷ (false, NoObject) ∷ [])) x ≡ Ok y → (a ≡ false) × (b ≡ false) × (c ≡ false) × (e ≡ false) × (x ≡ y)
parts true b c e x y is = cc
parts false true c e x y is = cc
parts false false true e x y is = cc
parts false false false true x y is = cc
parts false false false false x y is = (refl, refl, refl, refl, cc)

fits_use : (os : Things) (u : TypeUse) (j : json.Data) (d : Data) → IsWritten d
    → unless_fault (first ((misfits (Some u) j, WrongKind) ∷ (dangles (types_of os) (Some u) j, DanglingRef) ∷ (strays (types_of os) (Some u) j, RefType) ∷ (is_large (Some u) j, TooLarge) ∷ (false, NoObject) ∷ [])) (datum_at u (Some j)) ≡ Ok d → FitsUse os u d
fits_use os u j d can is =
    let none = parts (misfits (Some u) j) (dangles (types_of os) (Some u) j) (strays (types_of os) (Some u) j) (is_large (Some u) j) (datum_at u (Some j)) d is in
    let spelled = some_of (datum_of u j) none.0 in
    let same : spelled.0 ≡ d = rw spelled.1 at none.4 in
    let free : IsFree (missing (types_of os)) (other (types_of os)) u j = record { first = none.1; second = none.2; small = none.3 } in
    spelled_fits (NamesObject os) (missing (types_of os)) (other (types_of os)) u j d (λ type name k of there own. refers_at os type name (as_str k) of there own) (spelled.1 ∙ ap (λ x. Some x) same) can free

at_use : (ts : Declared) (os : Things) (field : List ℕ) (j : json.Data) (t : Thing) (d : Data) (o : Option TypeUse) → field_use_of ts field t ≡ o → IsWritten d
    → unless_fault (first (set_conditions ts (types_of os) field j (Some t))) (datum_for ts field j (Some t)) ≡ Ok d → Is ts os field (Some t) d
at_use ts os field j t d None holds can is =
    let never : Err UnknownField ≡ Ok d = rw holds at is in
    cc
at_use ts os field j t d (Some u) holds can is = record {
  object = t;
  is_there = refl;
  holds = u;
  declared = holds;
  fits = fits_use os u j d can (rw holds at is);
}

sound : (ts : Declared) (os : Things) (field : List ℕ) (j : json.Data) (there : Option Thing) (d : Data) → IsWritten d
    → unless_fault (first (set_conditions ts (types_of os) field j there)) (datum_for ts field j there) ≡ Ok d → Is ts os field there d
sound ts os field j None d can is = cc
sound ts os field j (Some t) d can is = at_use ts os field j t d (field_use_of ts field t) refl can is

-- the datum that is given for a field, where nothing is wrong with it
pub sound_given : (ts : Declared) (b : Bundled) (object field : List ℕ) (j : json.Data) (d : Data) → IsWritten d → datum_given ts b object field j ≡ Ok d → Is ts b.objects field (at_name object b.objects) d
sound_given ts b object field j d can is = sound ts b.objects field j (at_name object b.objects) d can is

-- ---- the datum of a type use, by what is told of it

pub use_told : (types : ObjectTypes) (u : TypeUse) (j : json.Data) (d : Data) (dangling stray large : Bool) (o : Option BundleFault) → unless_wrong (misfits (Some u) j) (datum_at u (Some j)) ≡ Ok d → dangling ≡ dangles types (Some u) j → stray ≡ strays types (Some u) j
    → large ≡ is_large (Some u) j → o ≡ first ((dangling, DanglingRef) ∷ (stray, RefType) ∷ (large, TooLarge) ∷ []) → datum_in_use types u j ≡ unless_fault o d
use_told types u j d dangling stray large o spelled dangles_is strays_is large_is fault =
    let found = right (misfits (Some u) j) (datum_at u (Some j)) d spelled in
    rw (found.0, found.1, ← dangles_is, ← strays_is, ← large_is, fault) refl
