-- What is told of a command is where it names what isn't there.
use Rattle.std.proofs.Common.{◌≡◌, ℕ, List, if◌then◌else◌, Option, Some, None, IfSome, is_some, option_map, refl, sym, ap, subst, ◌∙◌}
use Rattle.std.specs.Option.{option_map_or}
use Rattle.fv_bundle.specs.Bundles.{Bundled, Thing}
use Rattle.fv_command_fault.specs.Named.{IsStored, field_in}
use Rattle.fv_command_fault.specs.Whereabouts.{IsAt}
use Rattle.fv_command_fault.specs.declared.place.Absence.TheVariants as absence
use Rattle.fv_command_fault.specs.declared.place.CommandPlace.{CommandPlace}
use Rattle.fv_command_fault.specs.declared.place.CommandPlace.TheVariants.{Object, Field}
use Rattle.fv_datum.specs.Lookup.{at_name}
use Rattle.fv_declare_schema.specs.Declarations.{Declarations}
use Rattle.fv_engine_command.specs.Commands.{Request, check_field}
use Rattle.fv_bundle.specs.Types.{Declared, TypeUse}
use Rattle.fv_store.specs.Records.{Kept, Records}

-- ---- an object, or a field of it

module _ (ds : Declarations) (m : Records) (id object field : List ℕ) (names : List (List ℕ)) (b : Bundled) (is : option_map (λ k. k.bundle) (m id) ≡ Some b) where
  abbrev asks : Request
  asks = check_field id object field names

  kept_at : (o : Option Kept) → option_map (λ k. k.bundle) o ≡ Some b → (k : Kept) × (o ≡ Some k) × (k.bundle ≡ b)
  kept_at None e = cc
  kept_at (Some k) e = let same : k.bundle ≡ b = cc in (k, refl, same)

  kept : (k : Kept) × (m id ≡ Some k) × (k.bundle ≡ b)
  kept = kept_at (m id) is

  -- the record's object of that name is that of the bundle
  same_object : (o : Option Thing) → at_name object b.objects ≡ o → at_name object kept.0.bundle.objects ≡ o
  same_object o at = ap (λ (c : Bundled). at_name object c.objects) kept.2 ∙ at

  without : (t : Thing) (u : Option TypeUse) → at_name object b.objects ≡ Some t → field_in ds.types t.type_name field ≡ u
      → IfSome (if is_some u then None else Some Field) (IsAt ds m asks absence.Field)
  without t None at lacks = (kept.0, t, kept.1, same_object (Some t) at, lacks)
  without t (Some u) at lacks = tt

  by_object : (o : Option Thing) → at_name object b.objects ≡ o
      → IfSome (option_map_or (λ t. if is_some (field_in ds.types t.type_name field) then None else Some Field) o (Some Object)) (IsAt ds m asks absence.Field)
  by_object None at = (kept.0, kept.1, same_object None at)
  by_object (Some t) at = without t (field_in ds.types t.type_name field) at refl

-- what is told of a checkfield whose record is there is where it stands
pub checked_told : (ds : Declarations) (m : Records) (r : Request) (ts : Declared) → ts ≡ ds.types → (res : Option CommandPlace) (id object field : List ℕ) (names : List (List ℕ))
    → (stored : Option Bundled) (b : Bundled) → r ≡ check_field id object field names → stored ≡ Some b
    → res ≡ option_map_or (λ o. if is_some (field_in ts o.type_name field) then None else Some Field) (at_name object b.objects) (Some Object)
    → IsStored m r stored → IfSome res (IsAt ds m r absence.Field)
checked_told ds m r ts types res id object field names stored b asks has is kept =
    let found : option_map (λ k. k.bundle) (m id) ≡ Some b = subst (λ (q : Request). IsStored m q stored) asks kept ∙ has in
    let result = is ∙ ap (λ (t : Declared). option_map_or (λ (o : Thing). if is_some (field_in t o.type_name field) then None else Some Field) (at_name object b.objects) (Some Object)) types in
    let told = by_object ds m id object field names b found (at_name object b.objects) refl in
    subst (λ (q : Request). IfSome res (IsAt ds m q absence.Field)) (sym asks)
    (subst (λ (o : Option CommandPlace). IfSome o (IsAt ds m (check_field id object field names) absence.Field)) (sym result) told)
