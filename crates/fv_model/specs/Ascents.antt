-- Given data whose names are in order.
use Rattle.std.specs.Prelude.{Option, Some, None}
use Rattle.std.specs.Map.{keys_of}
use Rattle.serde_json.specs.Data as json
use Rattle.fv_datum.specs.Lookup.{at_name}
use Rattle.fv_datum.specs.Members.{pairs}
use Rattle.fv_datum.specs.Ascending.{IsAscending}
use Rattle.fv_bundle.specs.Types.{DeclaredFields, Declared}
use Rattle.fv_model.specs.Draft.{ObjectDraft}

-- members of which each is below those after it, where there are fields for them
abbrev pub AscendsFor : Option DeclaredFields → json.Members → Type 0
AscendsFor None given = Unit {0}
AscendsFor (Some fields) given = IsAscending (keys_of (pairs given))

-- the same, of what an object of a declared type gives
abbrev pub Ascends : Declared → ObjectDraft → Type 0
Ascends ts p = AscendsFor (at_name p.type_name ts) p.given
