-- Data in which the names of members ascend.
use Rattle.std.specs.Prelude.{map}
use Rattle.serde_json.specs.Data.{Data, null, boolean, number, string, array, object, Items, no_items, item, Members, no_members, member}
use Rattle.fv_datum.specs.Ascending.{IsAscending}
use Rattle.fv_datum.specs.Members.{pairs}

-- the members of each object in it ascend by their names
abbrev mutual
  pub IsOrdered : Data → Type 0
  IsOrdered null = Unit {0}
  IsOrdered (boolean b) = Unit {0}
  IsOrdered (number n) = Unit {0}
  IsOrdered (string s) = Unit {0}
  IsOrdered (array ds) = AreItemsOrdered ds
  IsOrdered (object ms) = IsAscending (map (λ m. m.0) (pairs ms)) × AreValuesOrdered ms

  pub AreItemsOrdered : Items → Type 0
  AreItemsOrdered no_items = Unit {0}
  AreItemsOrdered (item d ds) = IsOrdered d × AreItemsOrdered ds

  pub AreValuesOrdered : Members → Type 0
  AreValuesOrdered no_members = Unit {0}
  AreValuesOrdered (member k d ms) = IsOrdered d × AreValuesOrdered ms

-- members that ascend by their names, and so do those in their values
abbrev pub AreOrdered : Members → Type 0
AreOrdered ms = IsOrdered (object ms)
