-- A bundle that is refused by a fault has it.
use Rattle.std.proofs.Common.{◌≡◌, ◌≢◌, ℕ, List, [], ◌∷◌, length, Bool, true, false, cond, not, ◌||◌, nat_lt, Option, Some, None, Err, is_some, refl, sym, ap, ap₂, ◌∙◌}
use Rattle.std.specs.List.{list_any, AllByRecursion}
use Rattle.std.specs.Option.{option_map_or}
use Rattle.serde_json.specs.Data as json
use Rattle.fv_datum.specs.Lookup.{at_name}
use Rattle.fv_datum.specs.Name.{names}
use Rattle.fv_datum.specs.Outcomes.{first, unless_fault}
use Rattle.fv_datum.proofs.Lists.{length_read}
use Rattle.fv_model.specs.Draft.{ObjectDraft, object_draft, BundleDraft, bundle_draft_of}
use Rattle.fv_bundle.specs.Limits.{most_objects}
use Rattle.fv_model.specs.Reading.{bundle_conditions, has_flaw, object_types, bundle_of, bundle_read}
use Rattle.fv_model.specs.declared.fault.BundleFault.{BundleFault}
use Rattle.fv_model.specs.declared.fault.BundleFault.TheVariants.{Shape, TooLarge}
use Rattle.fv_bundle.specs.Flaws.{Flaw, undeclared, misfits, dangles, strays, is_large, is_other}
use Rattle.fv_bundle.specs.Names.{ObjectTypes}
use Rattle.fv_bundle.specs.Types.{Declared}
use Rattle.fv_model_fault.specs.Faults.{is_badly_named, is_untyped, has_flawed, lacks_root, has_other_root}
use Rattle.fv_model_fault.specs.Given.{objects_in, type_in, types_in}
use Rattle.fv_model_fault.specs.Told.{has_fault}
use Rattle.fv_model_fault.proofs.Drafts.{IsDrafted, part_read, drafted, any_read, map_read}

-- ---- the first fault is one of those whose conditions hold

chosen : {E : Type 0} (test : E → Bool) (b : Bool) (e f : E) (o : Option E) → test e ≡ b → (o ≡ Some f → test f ≡ true) → cond b (Some e) o ≡ Some f → test f ≡ true
chosen test true e f o is more found = let same : e ≡ f = cc in rw (← same) is
chosen test false e f o is more found = more found

pub holds : {E : Type 0} (test : E → Bool) (cs : List (Bool × E)) (e : E) → AllByRecursion (λ c. test c.1 ≡ c.0) cs → first cs ≡ Some e → test e ≡ true
holds test [] e all is = cc
holds test (c ∷ cs) e all is = chosen test c.0 c.1 e (first cs) all.0 (holds test cs e all.1) is

-- ---- the conditions, of the JSON and of its draft

flaw_same : (flaw : Flaw) (ts : Declared) (m : List ℕ × json.Data) (p : ObjectDraft) → object_draft m ≡ Some p → has_flawed flaw ts m ≡ has_flaw flaw ts p
unfolding has_flaw
flaw_same flaw ts m p e =
    let is = part_read m p e in
    ap₂ (λ (gs : List (List ℕ × json.Data)) (type : List ℕ). option_map_or (λ fields. list_any (λ g. flaw (at_name g.0 fields) g.1) gs) (at_name type ts) false) (sym is.given) (sym is.type_name)

module _ (ts : Declared) (asked : Option (List ℕ)) (j : json.Data) (d : BundleDraft) (is : IsDrafted j d) where
  types_same : types_in j ≡ object_types d.objects
  types_same = map_read object_draft (λ o. (o.0, type_in o.1)) (λ p. (p.name, p.type_name))
      (λ m p e. ap₂ (λ (n t : List ℕ). (n, t)) (sym (part_read m p e).name) (sym (part_read m p e).type_name)) (objects_in j) d.objects is.objects

  any_same : (flaw : Flaw) → list_any (has_flawed flaw ts) (objects_in j) ≡ list_any (has_flaw flaw ts) d.objects
  any_same flaw = any_read object_draft (has_flawed flaw ts) (has_flaw flaw ts) (flaw_same flaw ts) (objects_in j) d.objects is.objects

  among_same : (flaw : ObjectTypes → Flaw) → list_any (has_flawed (flaw (types_in j)) ts) (objects_in j) ≡ list_any (has_flaw (flaw (object_types d.objects)) ts) d.objects
  among_same flaw = any_same (flaw (types_in j)) ∙ ap (λ types. list_any (has_flaw (flaw types) ts) d.objects) types_same

  named_same : list_any is_badly_named (objects_in j) ≡ list_any (λ p. not (names p.name)) d.objects
  named_same = any_read object_draft is_badly_named (λ p. not (names p.name)) (λ m p e. ap (λ n. not (names n)) (sym (part_read m p e).name)) (objects_in j) d.objects is.objects

  typed_same : list_any (is_untyped ts) (objects_in j) ≡ list_any (λ p. not (is_some (at_name p.type_name ts))) d.objects
  typed_same = any_read object_draft (is_untyped ts) (λ p. not (is_some (at_name p.type_name ts)))
      (λ m p e. ap (λ t. not (is_some (at_name t ts))) (sym (part_read m p e).type_name)) (objects_in j) d.objects is.objects

  rooted_same : lacks_root j ≡ not (is_some (at_name d.root (object_types d.objects)))
  rooted_same = ap₂ (λ (root : List ℕ) (types : ObjectTypes). not (is_some (at_name root types))) (sym is.root) types_same

  other_same : has_other_root asked j ≡ option_map_or (λ type. is_other type (at_name d.root (object_types d.objects))) asked false
  other_same = ap₂ (λ (root : List ℕ) (types : ObjectTypes). option_map_or (λ type. is_other type (at_name root types)) asked false) (sym is.root) types_same

  large_same : has_fault ts asked j TooLarge ≡ (nat_lt most_objects (length d.objects) || list_any (has_flaw is_large ts) d.objects)
  large_same = ap₂ (λ (n : ℕ) (b : Bool). nat_lt most_objects n || b) (sym (length_read object_draft (objects_in j) d.objects is.objects)) (any_same is_large)

  all_told : AllByRecursion (λ c. has_fault ts asked j c.1 ≡ c.0) (bundle_conditions ts asked d)
  all_told = (named_same, (rooted_same, (typed_same, (any_same undeclared, (any_same misfits, (among_same dangles, (among_same strays, (large_same, (other_same, tt)))))))))

  first_told : (fault : BundleFault) → first (bundle_conditions ts asked d) ≡ Some fault → has_fault ts asked j fault ≡ true
  first_told fault e = holds (has_fault ts asked j) (bundle_conditions ts asked d) fault all_told e

-- ---- a bundle that is refused

pub fault_of : {E Y : Type 0} (o : Option E) (y : Y) (e : E) → unless_fault o y ≡ Err e → o ≡ Some e
fault_of None y e is = cc
fault_of (Some f) y e is = ap (λ g. Some g) cc

refused_at : (ts : Declared) (asked : Option (List ℕ)) (o : Option BundleDraft) (fault : BundleFault)
    → option_map_or (λ d. unless_fault (first (bundle_conditions ts asked d)) (bundle_of ts d)) o (Err Shape) ≡ Err fault → fault ≢ Shape → (d : BundleDraft) × (o ≡ Some d) × (first (bundle_conditions ts asked d) ≡ Some fault)
refused_at ts asked None fault is other = absurd (other cc)
refused_at ts asked (Some d) fault is other = (d, refl, fault_of (first (bundle_conditions ts asked d)) (bundle_of ts d) fault is)

-- its objects are given, and it has the fault
pub refused : (ts : Declared) (asked : Option (List ℕ)) (j : json.Data) (fault : BundleFault) → bundle_read ts asked j ≡ Err fault → fault ≢ Shape
    → (d : BundleDraft) × IsDrafted j d × (has_fault ts asked j fault ≡ true)
refused ts asked j fault is other =
    let found = refused_at ts asked (bundle_draft_of j) fault is other in
    let drafted = drafted j found.0 found.1 in
    (found.0, drafted, first_told ts asked j found.0 drafted fault found.2)
