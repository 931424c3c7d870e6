-- What a search looks for, and what it finds one step inside a value.
use Rattle.std.specs.Prelude.{◌≡◌, true, Some}
use Rattle.std.specs.Borrow.{Bor}
use Rattle.serde_json.specs.Data as json
use Rattle.serde_json.specs.View.{view as json_view}
use Rattle.serde_json.specs.declared.value.Value.{Value}
use Rattle.fv_bundle.specs.Flaws.{Flaw}
use Rattle.fv_bundle.specs.Names.{object_types_view}
use Rattle.fv_bundle.specs.Types.{TypeUse, type_use_view}
use Rattle.fv_bundle.specs.declared.type_use.TypeUse as code
use Rattle.fv_model_fault.specs.Sought.{IsFirstInside, flaw_of}
use Rattle.fv_model_fault.specs.Views.{inner_view}
use Rattle.fv_model_fault.specs.declared.place.Inner.{Inner}
use Rattle.fv_model_fault.specs.declared.search.Search.{Search}

-- the flaw that is looked for
abbrev pub sought : Search → Flaw
sought s = flaw_of s.fault (object_types_view s.type_names.now)

-- the first value that has the flaw of those that stand one step inside another, with its type use
abbrev pub IsNext : Flaw → TypeUse → json.Data → Inner × Bor code.TypeUse × Bor Value → Type 0
IsNext flaw u j n =
    IsFirstInside flaw (inner_view n.0) u j (type_use_view n.1.now) (json_view n.2.now)
    × (flaw (Some (type_use_view n.1.now)) (json_view n.2.now) ≡ true)
