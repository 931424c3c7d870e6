-- What changes are added to those that were found; for private clauses.
use Rattle.std.specs.Prelude.{◌≡◌, ℕ, List, Some, None, IsSome, map, ◌⊎◌, String, string_bytes}
use Rattle.std.specs.BTreeMap.{BTreeMap}
use Rattle.std.specs.declared.alloc.Global.{Global}
use Rattle.serde_json.specs.Data.{Data, Members, no_members, member}
use Rattle.fv_datum.specs.Lookup.{at_name}
use Rattle.serde_json.specs.Find.{get_member}
use Rattle.fv_explain_over.specs.Changes.{Changes, Only, MemberChange}
use Rattle.fv_explain_over.specs.Places.{inside}
use Rattle.fv_explain_over.specs.declared.differing.Change.{Change}
use Rattle.fv_explain_over.specs.declared.differing.Change.TheVariants.{Added}

-- the changes that are found, by their places
abbrev pub found_view : BTreeMap (String Global) Change → List (List ℕ × Change)
found_view m = map (λ e. (string_bytes e.0, e.1)) m.entries

-- changes are added: what is found now was found, or is one of them; what was found is so still, and each of them
pub record Adds (old new : List (List ℕ × Change)) (Some_of : Changes) : Type 0 where
  pub sound : (place : List ℕ) (change : Change) → at_name place new ≡ Some change → (at_name place old ≡ Some change) ⊎ Some_of place change
  pub kept : (place : List ℕ) → IsSome (at_name place old) → IsSome (at_name place new)
  pub complete : (place : List ℕ) (change : Change) → Some_of place change → IsSome (at_name place new)

-- of one of the members
abbrev pub SomeMember : (List ℕ → Data → Changes) → Members → Changes
SomeMember Of no_members place is = ⊥
SomeMember Of (member k d ms) place is = Of k d place is ⊎ SomeMember Of ms place is

-- of a member that an object has, at a place, over another object
abbrev pub OldChange : (List ℕ → Data → Data → Changes) → List ℕ → Members → List ℕ → Data → Changes
OldChange Below at ns name d = MemberChange Below (inside at name) (Some d) (get_member name ns)

-- of a member that the other object may have
abbrev pub NewChange : List ℕ → Members → List ℕ → Data → Changes
NewChange at ms name e place change = (get_member name ms ≡ None) × Only (inside at name) Added place change
