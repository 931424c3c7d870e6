-- What a type use holds or refers to.
use Rattle.std.specs.Prelude.{ℕ, List, Option, Some, None}
use Rattle.fv_bundle.specs.Types.{TypeUse, references, lists, maps, optionals}

-- the type whose objects a type use refers to
abbrev pub target : TypeUse → Option (List ℕ)
target (references type) = Some type
target _ = None

-- what the lists of a type use hold
abbrev pub items : TypeUse → Option TypeUse
items (lists held) = Some held
items _ = None

-- what the maps of a type use lead to
abbrev pub values : TypeUse → Option TypeUse
values (maps held) = Some held
values _ = None

-- what the optionals of a type use hold
abbrev pub content : TypeUse → Option TypeUse
content (optionals held) = Some held
content _ = None
