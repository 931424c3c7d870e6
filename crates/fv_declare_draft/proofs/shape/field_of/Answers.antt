use Rattle.std.proofs.Common.{◌≡◌, [], Some, None, option_map, rules}
use Rattle.serde_json.specs.View.{view as json_view}
use Rattle.fv_declare_draft.specs.DraftViews.{held_view}
use Rattle.fv_declare_draft.specs.Gathering.{gathered}
use Rattle.fv_declare_draft.specs.Places.{place_of}
use Rattle.fv_declare_draft.proofs.Gathered.{field_gathered}
use Rattle.fv_declare_draft.proofs.shape.field_of.Goals as goal

pub returns-in-None-clause-exact : goal.returns-in-None-clause-exact
returns-in-None-clause-exact c =
    let found = place_of (json_view c.args.value.now) in
    let none : None ≡ option_map (gathered []) found = search rules in
    field_gathered c.args.name.now None found none

pub returns-in-Some-clause-exact : goal.returns-in-Some-clause-exact
returns-in-Some-clause-exact c =
    let found = place_of (json_view c.args.value.now) in
    let held : Some (held_view c.in-Some.field-0) ≡ option_map (gathered []) found = search rules in
    field_gathered c.args.name.now (Some (held_view c.in-Some.field-0)) found held
