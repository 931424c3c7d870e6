-- The values of what a draft is made of.
pub use Rattle.fv_bundle.specs.Names.{object_types_view}
use Rattle.std.specs.Prelude.{String, Option, Some, None}
use Rattle.std.specs.Borrow.{Bor}
use Rattle.std.specs.BTreeMap.{BTreeMap}
use Rattle.std.specs.declared.alloc.Global.{Global}
use Rattle.serde_json.specs.Data as json
use Rattle.serde_json.specs.View.{members_view}
use Rattle.serde_json.specs.declared.value.Value.{Value}
use Rattle.fv_model.specs.Draft as spec
use Rattle.fv_model.specs.declared.parts.Part.{Part}

-- the fields that are given: none where there is no such member
abbrev pub given_view : Option (Bor (BTreeMap (String Global) Value)) → json.Members
given_view None = json.no_members
given_view (Some m) = members_view m.now.entries

-- an object of a draft
abbrev pub part_view : Part → spec.ObjectDraft
part_view p = record { name = p.name.now; type_name = p.type_name.now; given = given_view p.given }
