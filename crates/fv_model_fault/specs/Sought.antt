-- Where a given datum has a flaw.
use Rattle.std.specs.Prelude.{◌≡◌, List, [], ◌∷◌, Bool, true, false, Option, Some, None, find, slice_get}
use Rattle.std.specs.List.{list_any}
use Rattle.serde_json.specs.Data as json
use Rattle.fv_first.specs.First.{first_where}
use Rattle.fv_model.specs.declared.fault.BundleFault.{BundleFault}
use Rattle.fv_model.specs.declared.fault.BundleFault.TheVariants.{UnknownField, WrongKind, DanglingRef, RefType, TooLarge}
use Rattle.fv_bundle.specs.Flaws.{Flaw, undeclared, misfits, dangles, strays, is_large, items_in, members_in}
use Rattle.fv_bundle.specs.Held.{values}
use Rattle.fv_bundle.specs.Names.{ObjectTypes}
use Rattle.fv_bundle.specs.Types.{TypeUse, lists, maps, optionals}
use Rattle.fv_model_fault.specs.Places.{Inner, item, member, Place, item_use}

-- the flaw of a given datum that a fault is, among objects of these types: none has it where the fault is no flaw of a datum
abbrev pub flaw_of : BundleFault → ObjectTypes → Flaw
flaw_of UnknownField types = undeclared
flaw_of WrongKind types = misfits
flaw_of DanglingRef types = dangles types
flaw_of RefType types = strays types
flaw_of TooLarge types = is_large
flaw_of _ types = λ type_use j. false

-- one of the values that stand one step inside a value has the flaw
abbrev pub has_inside : Flaw → Option TypeUse → json.Data → Bool
has_inside flaw (Some (lists held)) j = list_any (flaw (Some held)) (items_in j)
has_inside flaw (Some (maps held)) j = list_any (λ m. flaw (Some held) m.1) (members_in j)
has_inside flaw (Some (optionals held)) j = list_any (flaw (Some held)) (items_in j)
has_inside flaw _ j = false

-- a value of a type use stands one step inside another, and is the first there that has the flaw: the first such item of a list's or
-- an optional's array, or the first such member of a map's object
abbrev pub IsFirstInside : Flaw → Inner → TypeUse → json.Data → TypeUse → json.Data → Type 0
IsFirstInside flaw (item i) u j held k =
    (item_use u ≡ Some held) × (first_where (flaw (Some held)) (items_in j) ≡ Some i) × (slice_get (items_in j) i ≡ Some k)
IsFirstInside flaw (member name) u j held k = (values u ≡ Some held) × (find (λ m. flaw (Some held) m.1) (members_in j) ≡ Some (name, k))

-- steps lead from a value and its type use to another, each to the first inside that has the flaw; none leads on from a value with no
-- type use
abbrev pub LeadsTo : Flaw → Option TypeUse → json.Data → List Inner → Option TypeUse → json.Data → Type 0
LeadsTo flaw u j [] v k = (v ≡ u) × (k ≡ j)
LeadsTo flaw None j (s ∷ ss) v k = ⊥
LeadsTo flaw (Some u) j (s ∷ ss) v k =
    (held : TypeUse) × (value : json.Data) × IsFirstInside flaw s u j held value × LeadsTo flaw (Some held) value ss v k

-- a place in a datum that is given for a type use has the flaw: the steps lead there, each to the first that has it, what stands there
-- has it, and nothing that stands further inside
pub record HasFlaw (flaw : Flaw) (type_use : Option TypeUse) (j : json.Data) (p : Place) : Type 0 where
  pub led : LeadsTo flaw type_use j p.steps p.type_use p.value
  pub flawed : flaw p.type_use p.value ≡ true
  pub innermost : has_inside flaw p.type_use p.value ≡ false
