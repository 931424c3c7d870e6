use Rattle.std.proofs.Common.{map, ap, subst, ◌∙◌, arith}
use Rattle.std.proofs.lemmas.List.{length-map}
use Rattle.sqlite.specs.Held.{state}
use Rattle.sqlite.specs.State.{ExecutesInside}
use Rattle.sqlite.specs.Values.{bound}
use Rattle.fv_store_tables.specs.Changes.{found_view, objects_view}
use Rattle.fv_store_tables.proofs.NewObjects.{texts_of}
use Rattle.fv_store_tables.proofs.RangeCauses.{range_cause}
use Rattle.fv_store_tables.proofs.RangeEdits.{range_step}
use Rattle.fv_store_tables.proofs.RangePlaces.{same_length}
use Rattle.fv_store_tables.proofs.RangeTexts.{range_text}
use Rattle.fv_store_tables.proofs.Steps.{inside_frame, inside_keeps}
use Rattle.fv_store_tables.proofs.updating.update_range.Goals as goal

pub bounds-objects-0 : goal.bounds-objects-0
bounds-objects-0 g c = omega (arith, c.requires.some, length-map c.args.rows.now found_view, same_length c.requires.follow.0 c.args.rows.now c.args.objects.now c.requires.follow.1)

pub returns-clause-done : goal.returns-clause-done
returns-clause-done g c clean inside =
    range_step (state g.S.Store c.args.tx.now.conn.now) (state g.S.Store c.execute.new.self.conn.now) c.args.id.now (map found_view c.args.rows.now) (objects_view c.args.objects.now) c.requires
    (texts_of c.args.id.now c.utf8.id c.args.objects.now) c.execute.result
    (subst (λ params. ExecutesInside 0 range_text params (state g.S.Store c.args.tx.now.conn.now) (state g.S.Store c.execute.new.self.conn.now) c.execute.result) (ap bound c.deref.ensures.value ∙ c.in_ok-values.ensures) (c.execute.ensures.runs clean inside))

pub returns-clause-kept : goal.returns-clause-kept
returns-clause-kept g c clean inside = inside_keeps _ _ (state g.S.Store c.args.tx.now.conn.now) (state g.S.Store c.execute.new.self.conn.now) c.execute.result (c.execute.ensures.runs clean inside)

pub returns-clause-frame : goal.returns-clause-frame
returns-clause-frame g c = inside_frame g.S.Store c.args.tx.now.conn.now c.execute.new.self.conn.now _ _ c.execute.result c.execute.ensures.survives c.execute.ensures.ended c.execute.ensures.runs

pub returns-clause-cause : goal.returns-clause-cause
returns-clause-cause g c clean inside none =
    range_cause (state g.S.Store c.args.tx.now.conn.now) (state g.S.Store c.execute.new.self.conn.now) none c.args.id.now (map found_view c.args.rows.now) (objects_view c.args.objects.now) c.requires
    (texts_of c.args.id.now c.utf8.id c.args.objects.now) c.execute.result
    (subst (λ params. ExecutesInside 0 range_text params (state g.S.Store c.args.tx.now.conn.now) (state g.S.Store c.execute.new.self.conn.now) c.execute.result) (ap bound c.deref.ensures.value ∙ c.in_ok-values.ensures) (c.execute.ensures.runs clean inside))
