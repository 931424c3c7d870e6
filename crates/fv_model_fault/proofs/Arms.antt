-- What is found for a fault is a place that has it.
use Rattle.std.proofs.Common.{◌≡◌, ◌≢◌, ◌⊎◌, inl, inr, ℕ, List, Bool, false, Option, Some, None, Result, Ok, Err, IfOk, IfSome, IsSome, is_some, option_map, find, refl, sym, ap, ap₂, subst, ◌∙◌}
use Rattle.std.specs.List.{list_any}
use Rattle.std.specs.Option.{option_map_or}
use Rattle.serde_json.specs.Data as json
use Rattle.fv_datum.specs.Lookup.{at_name}
use Rattle.fv_model.specs.Reading.{bundle_read}
use Rattle.fv_model.specs.declared.fault.BundleFault.{BundleFault}
use Rattle.fv_model.specs.declared.fault.BundleFault.TheVariants.{Shape, UnknownField, WrongKind, DanglingRef, RefType}
use Rattle.fv_bundle.specs.Flaws.{Flaw}
use Rattle.fv_bundle.specs.Names.{ObjectTypes}
use Rattle.fv_bundle.specs.Types.{DeclaredFields, Declared}
use Rattle.fv_model_fault.specs.Faults.{is_flawed, has_flawed, IsFirstObject, IsInFirst, IsFirstFlaw, HasFault}
use Rattle.fv_model_fault.specs.Given.{objects_in, type_in, fields_in, types_in}
use Rattle.fv_model_fault.specs.Places.{Place, of_object}
use Rattle.fv_model_fault.specs.Sought.{flaw_of}
use Rattle.fv_model_fault.specs.Told.{any_flawed, has_fault}
use Rattle.fv_model_fault.proofs.Finds.{seen_some, told_of}
use Rattle.fv_model_fault.proofs.Firsts.{refused}

-- a datum of an object has the flaw exactly where one is found
pub field_told : {X : Type 0} (view : X → List ℕ × json.Data) (flaw : Flaw) (ts : Declared) (o : List ℕ × json.Data) (fields : DeclaredFields) (gs : List (List ℕ × json.Data)) (r : Option X)
    → at_name (type_in o.1) ts ≡ Some fields → fields_in o.1 ≡ gs → option_map view r ≡ find (is_flawed flaw fields) gs → is_some r ≡ has_flawed flaw ts o
field_told view flaw ts o fields gs r declared given found =
    told_of view (is_flawed flaw fields) gs gs r refl found
    ∙ sym (ap₂ (λ (ms : List (List ℕ × json.Data)) (ds : Option DeclaredFields). option_map_or (λ f. list_any (is_flawed flaw f) ms) ds false) given declared)

module _ {X Y : Type 0} (view : X → List ℕ × json.Data) (seen : Y → Place) (test : List ℕ × json.Data → Bool) (j : json.Data) (os : List (List ℕ × json.Data)) (same : objects_in j ≡ os) where
  -- an object passes a test exactly where there is a place
  pub object_told : (found : Option X) (r : Option Y) → option_map view found ≡ find test os → option_map seen r ≡ option_map (λ m. of_object (view m)) found → is_some r ≡ list_any test (objects_in j)
  object_told found r is made =
      sym (seen_some seen r) ∙ ap is_some made ∙ seen_some (λ m. of_object (view m)) found ∙ told_of view test (objects_in j) os found same is

  -- the place is that of the first
  pub object_placed : (found : Option X) (r : Option Y) → option_map view found ≡ find test os → option_map seen r ≡ option_map (λ m. of_object (view m)) found → IfSome r (λ p. IsFirstObject test j (seen p))
  object_placed found None is made = tt
  object_placed None (Some p) is made = cc
  object_placed (Some m) (Some p) is made =
      let place : seen p ≡ of_object (view m) = cc in
      (view m, ap (find test) same ∙ sym is, place)

-- ---- flaws of data

-- a fault that is a flaw of a datum and no matter of size
abbrev IsOfDatum : BundleFault → Type 0
IsOfDatum fault = (fault ≡ UnknownField) ⊎ ((fault ≡ WrongKind) ⊎ ((fault ≡ DanglingRef) ⊎ (fault ≡ RefType)))

by_fault : (P : BundleFault → Type 0) (fault : BundleFault) → IsOfDatum fault → P UnknownField → P WrongKind → P DanglingRef → P RefType → P fault
by_fault P fault (inl e) unknown wrong dangling stray = subst P (sym e) unknown
by_fault P fault (inr (inl e)) unknown wrong dangling stray = subst P (sym e) wrong
by_fault P fault (inr (inr (inl e))) unknown wrong dangling stray = subst P (sym e) dangling
by_fault P fault (inr (inr (inr e))) unknown wrong dangling stray = subst P (sym e) stray

module _ (ts : Declared) (asked : Option (List ℕ)) (j : json.Data) (os : List (List ℕ × json.Data)) (types : ObjectTypes) (same : objects_in j ≡ os) (typed : types_in j ≡ types) where
  any_told : (fault : BundleFault) → list_any (has_flawed (flaw_of fault types) ts) os ≡ any_flawed ts j fault
  any_told fault = ap₂ (λ (xs : List (List ℕ × json.Data)) (t : ObjectTypes). list_any (has_flawed (flaw_of fault t) ts) xs) (sym same) (sym typed)

  flaw_told : (fault : BundleFault) → IsOfDatum fault → list_any (has_flawed (flaw_of fault types) ts) os ≡ has_fault ts asked j fault
  flaw_told fault is =
      by_fault (λ f. list_any (has_flawed (flaw_of f types) ts) os ≡ has_fault ts asked j f) fault is (any_told UnknownField) (any_told WrongKind) (any_told DanglingRef) (any_told RefType)

  first_flaw : (fault : BundleFault) (p : Place) → IsInFirst (flaw_of fault types) ts os p → IsFirstFlaw fault ts j p
  first_flaw fault p h =
      subst (λ (xs : List (List ℕ × json.Data)). IsInFirst (flaw_of fault (types_in j)) ts xs p) (sym same) (subst (λ (t : ObjectTypes). IsInFirst (flaw_of fault t) ts os p) (sym typed) h)

  flaw_placed : (fault : BundleFault) (p : Place) → IsOfDatum fault → IsInFirst (flaw_of fault types) ts os p → HasFault ts asked j fault p
  flaw_placed fault p is =
      by_fault (λ f. IsInFirst (flaw_of f types) ts os p → HasFault ts asked j f p) fault is (first_flaw UnknownField p) (first_flaw WrongKind p) (first_flaw DanglingRef p) (first_flaw RefType p)

  -- a datum has the flaw exactly where there is a place
  pub datum_told : {Y E : Type 0} (r : Result (Option Y) E) (fault : BundleFault) → IsOfDatum fault → IfOk r (λ o. is_some o ≡ list_any (has_flawed (flaw_of fault types) ts) os) → IfOk r (λ o. is_some o ≡ has_fault ts asked j fault)
  datum_told (Ok o) fault is told = told ∙ flaw_told fault is
  datum_told (Err e) fault is told = tt

  -- and the place has it
  pub datum_placed : {Y E : Type 0} (seen : Y → Place) (r : Result (Option Y) E) (fault : BundleFault) → IsOfDatum fault → IfOk r (λ o. IfSome o (λ p. IsInFirst (flaw_of fault types) ts os (seen p)))
      → IfOk r (λ o. IfSome o (λ p. HasFault ts asked j fault (seen p)))
  datum_placed seen (Ok None) fault is placed = tt
  datum_placed seen (Ok (Some p)) fault is placed = flaw_placed fault (seen p) is placed
  datum_placed seen (Err e) fault is placed = tt

-- ---- a bundle that is refused

-- there is a place for the fault by which a bundle is refused
pub found_of : {X E : Type 0} (r : Result (Option X) E) (ts : Declared) (asked : Option (List ℕ)) (j : json.Data) (fault : BundleFault)
    → IfOk r (λ o. is_some o ≡ has_fault ts asked j fault) → IfOk r (λ o. bundle_read ts asked j ≡ Err fault → fault ≢ Shape → IsSome o)
found_of (Ok o) ts asked j fault told = λ is other. told ∙ (refused ts asked j fault is other).2
found_of (Err e) ts asked j fault told = tt
