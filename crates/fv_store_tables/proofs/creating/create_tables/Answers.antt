use Rattle.std.proofs.Common.{[], ◌∙◌}
use Rattle.sqlite.specs.Held.{state}
use Rattle.fv_store_tables.specs.Creating.{IsBlank, IsMade, IsEmpty}
use Rattle.fv_store_tables.proofs.Steps.{next_step, frame_then, failed_then}
use Rattle.fv_store_tables.proofs.Refusals.{handed_on}
use Rattle.fv_store_tables.proofs.Creates.{blank_then, blank_half_then, led_on}
use Rattle.fv_store_tables.proofs.creating.create_tables.Goals as goal

pub returns-clause-done : goal.returns-clause-done
returns-clause-done g c clean inside =
    let begin = state g.S.Store c.args.tx.now.conn.now in
    let one = state g.S.Store c.create_about.new.tx.conn.now in
    let two = state g.S.Store c.create_record.new.tx.conn.now in
    let three = state g.S.Store c.create_object.new.tx.conn.now in
    let end = state g.S.Store c.insert_about.new.tx.conn.now in
    let clean3 = c.insert_about.ensures.frame.clean clean in
    let clean2 = c.create_object.ensures.frame.clean clean3 in
    let clean1 = c.create_record.ensures.frame.clean clean2 in
    let first = c.in_ok-create_about.ensures.done clean1 inside in
    let second = next_step begin one two blank_then first (c.in_ok-create_record.ensures.done clean2 first.mode) in
    let third = next_step begin two three blank_half_then second (c.in_ok-create_object.ensures.done clean3 second.mode) in
    next_step begin three end (led_on IsBlank (IsMade []) (IsEmpty c.args.declarations.now)) third (c.in_ok-insert_about.ensures.done clean third.mode)

pub returns-in_err-create_about-clause-cause : goal.returns-in_err-create_about-clause-cause
returns-in_err-create_about-clause-cause g c clean inside none =
    handed_on _ c.from_residual.result c.in_err-create_about.field-0.0 c.from_residual.ensures.1 (λ blank _. c.in_err-create_about.ensures.cause clean inside none blank)

pub returns-in_err-create_record-clause-cause : goal.returns-in_err-create_record-clause-cause
returns-in_err-create_record-clause-cause g c clean inside none =
    let begin = state g.S.Store c.args.tx.now.conn.now in
    let one = state g.S.Store c.create_about.new.tx.conn.now in
    let two = state g.S.Store c.create_record.new.tx.conn.now in
    let early = c.create_record.ensures.frame.clean clean in
    let first = c.in_ok-create_about.ensures.done early inside in
    handed_on _ c.from_residual-in_err-create_record.result c.in_err-create_record.field-0.0 c.from_residual-in_err-create_record.ensures.1
    (λ blank _ refused. failed_then begin one two early c.create_about.ensures.frame c.create_record.ensures.frame.counts
    (c.in_err-create_record.ensures.cause clean first.mode (c.create_about.ensures.limit ∙ none) [] (first.change blank) refused))

pub returns-in_err-create_object-clause-cause : goal.returns-in_err-create_object-clause-cause
returns-in_err-create_object-clause-cause g c clean inside none =
    let begin = state g.S.Store c.args.tx.now.conn.now in
    let one = state g.S.Store c.create_about.new.tx.conn.now in
    let two = state g.S.Store c.create_record.new.tx.conn.now in
    let three = state g.S.Store c.create_object.new.tx.conn.now in
    let clean2 = c.create_object.ensures.frame.clean clean in
    let first = c.in_ok-create_about.ensures.done (c.create_record.ensures.frame.clean clean2) inside in
    let second = next_step begin one two blank_then first (c.in_ok-create_record.ensures.done clean2 first.mode) in
    handed_on _ c.from_residual-in_err-create_object.result c.in_err-create_object.field-0.0 c.from_residual-in_err-create_object.ensures.1
    (λ blank _ refused. failed_then begin two three clean2 (frame_then begin one two c.create_about.ensures.frame c.create_record.ensures.frame) c.create_object.ensures.frame.counts
    (c.in_err-create_object.ensures.cause clean second.mode (c.create_record.ensures.limit ∙ c.create_about.ensures.limit ∙ none) [] (second.change blank) refused))

pub returns-in_err-insert_about-clause-cause : goal.returns-in_err-insert_about-clause-cause
returns-in_err-insert_about-clause-cause g c clean inside none =
    let begin = state g.S.Store c.args.tx.now.conn.now in
    let one = state g.S.Store c.create_about.new.tx.conn.now in
    let two = state g.S.Store c.create_record.new.tx.conn.now in
    let three = state g.S.Store c.create_object.new.tx.conn.now in
    let end = state g.S.Store c.insert_about.new.tx.conn.now in
    let clean3 = c.insert_about.ensures.frame.clean clean in
    let clean2 = c.create_object.ensures.frame.clean clean3 in
    let first = c.in_ok-create_about.ensures.done (c.create_record.ensures.frame.clean clean2) inside in
    let second = next_step begin one two blank_then first (c.in_ok-create_record.ensures.done clean2 first.mode) in
    let third = next_step begin two three blank_half_then second (c.in_ok-create_object.ensures.done clean3 second.mode) in
    let frames = frame_then begin two three (frame_then begin one two c.create_about.ensures.frame c.create_record.ensures.frame) c.create_object.ensures.frame in
    handed_on _ c.from_residual-in_err-insert_about.result c.in_err-insert_about.field-0.0 c.from_residual-in_err-insert_about.ensures.1
    (λ blank short refused. failed_then begin three end clean3 frames c.insert_about.ensures.frame.counts
    (c.in_err-insert_about.ensures.cause clean third.mode (c.create_object.ensures.limit ∙ c.create_record.ensures.limit ∙ c.create_about.ensures.limit ∙ none) (third.change blank) short refused))
