use Rattle.std.proofs.Common.{map, sym}
use Rattle.fv_datum.specs.View.{view}
use Rattle.fv_extract.specs.Views.{step_view}
use Rattle.fv_walk.proofs.Tellings.{part_there}
use Rattle.fv_walk.proofs.telling.push_part.Goals as goal

pub push_spot-requires-clause-named : goal.push_spot-requires-clause-named
push_spot-requires-clause-named c = c.requires.sound.named c.args.field (c.in-Some.name.now, view c.in-Some.field-0-1.now) (sym c.in-Some.ensures)

pub push_spot-requires-clause-leads : goal.push_spot-requires-clause-leads
push_spot-requires-clause-leads c = (part_there _ (record { field = c.args.field; steps = map step_view c.args.steps.now }) _ c.requires.sound c.requires.there.1).led

pub push_spot-requires-clause-room : goal.push_spot-requires-clause-room
push_spot-requires-clause-room c =
    c.requires.room c.in-Some.name.now (c.requires.sound.named c.args.field (c.in-Some.name.now, view c.in-Some.field-0-1.now) (sym c.in-Some.ensures))
