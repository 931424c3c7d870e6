-- The groups that contracts see.
use Rattle.std.specs.Prelude.{ℕ, List, map, String, string_bytes}
use Rattle.std.specs.HashMap.{HashMap}
use Rattle.std.specs.declared.alloc.Global.{Global}
use Rattle.std.specs.declared.hash.FoldHasher.{FoldHasher}
use Rattle.std.specs.declared.hash.BuildHasherDefault.{BuildHasherDefault}
use Rattle.fv_declare_schema.specs.Groups.{Form, inherits, sequence, Groups}
use Rattle.fv_declare_schema.specs.declared.draft.GroupDraft.{GroupDraft}
use Rattle.fv_declare_schema.specs.declared.draft.GroupDraft.TheVariants.{Inherits, Sequence}

-- the names of a list of texts
abbrev pub names_view : List (String Global) → List (List ℕ)
names_view texts = map string_bytes texts

-- what a group is
abbrev pub form_view : GroupDraft → Form
form_view (Inherits names) = inherits (names_view names.items)
form_view (Sequence names) = sequence (names_view names.items)

-- a group with its name
abbrev pub group_view : String Global × GroupDraft → List ℕ × Form
group_view e = (string_bytes e.0, form_view e.1)

-- the groups that a map has
abbrev pub declared_view : HashMap (String Global) GroupDraft (BuildHasherDefault FoldHasher) → Groups
declared_view m = map group_view m.entries
