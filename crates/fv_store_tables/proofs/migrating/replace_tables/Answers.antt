use Rattle.std.proofs.Common.{[], ◌∷◌, ◌∙◌}
use Rattle.sqlite.specs.Held.{state}
use Rattle.fv_store_tables.specs.Creating.{IsBare, IsHalf, IsMade}
use Rattle.fv_store_tables.specs.Olds.{IsOld}
use Rattle.fv_store_tables.specs.Stands.{about_row}
use Rattle.fv_store_tables.proofs.Steps.{next_step, frame_then, failed_then}
use Rattle.fv_store_tables.proofs.Refusals.{handed_on}
use Rattle.fv_store_tables.proofs.Creates.{built_on}
use Rattle.fv_store_tables.proofs.Migrates.{renewed_then}
use Rattle.fv_store_tables.proofs.migrating.replace_tables.Goals as goal

pub returns-clause-done : goal.returns-clause-done
returns-clause-done g c clean inside =
    let begin = state g.S.Store c.args.tx.now.conn.now in
    let one = state g.S.Store c.drop_record.new.tx.conn.now in
    let two = state g.S.Store c.create_record.new.tx.conn.now in
    let three = state g.S.Store c.create_object.new.tx.conn.now in
    let end = state g.S.Store c.set_version.new.tx.conn.now in
    let clean3 = c.set_version.ensures.frame.clean clean in
    let clean2 = c.create_object.ensures.frame.clean clean3 in
    let first = c.in_ok-drop_record.ensures.done (c.create_record.ensures.frame.clean clean2) inside in
    let second = next_step begin one two (built_on IsOld IsBare IsHalf) first (c.in_ok-create_record.ensures.done clean2 first.mode) in
    let third = next_step begin two three (built_on IsOld IsHalf IsMade) second (c.in_ok-create_object.ensures.done clean3 second.mode) in
    next_step begin three end renewed_then third (c.in_ok-set_version.ensures.done clean third.mode)

pub returns-in_err-create_record-clause-cause : goal.returns-in_err-create_record-clause-cause
returns-in_err-create_record-clause-cause g c clean inside none =
    let begin = state g.S.Store c.args.tx.now.conn.now in
    let one = state g.S.Store c.drop_record.new.tx.conn.now in
    let two = state g.S.Store c.create_record.new.tx.conn.now in
    let early = c.create_record.ensures.frame.clean clean in
    let first = c.in_ok-drop_record.ensures.done early inside in
    handed_on _ c.from_residual-in_err-create_record.result c.in_err-create_record.field-0.0 c.from_residual-in_err-create_record.ensures.1
    (λ d has _ refused. failed_then begin one two early c.drop_record.ensures.frame c.create_record.ensures.frame.counts
    (c.in_err-create_record.ensures.cause clean first.mode (c.drop_record.ensures.limit ∙ none) (about_row 1 d ∷ []) (first.change (about_row 1 d ∷ []) has) refused))

pub returns-in_err-create_object-clause-cause : goal.returns-in_err-create_object-clause-cause
returns-in_err-create_object-clause-cause g c clean inside none =
    let begin = state g.S.Store c.args.tx.now.conn.now in
    let one = state g.S.Store c.drop_record.new.tx.conn.now in
    let two = state g.S.Store c.create_record.new.tx.conn.now in
    let three = state g.S.Store c.create_object.new.tx.conn.now in
    let clean2 = c.create_object.ensures.frame.clean clean in
    let first = c.in_ok-drop_record.ensures.done (c.create_record.ensures.frame.clean clean2) inside in
    let second = next_step begin one two (built_on IsOld IsBare IsHalf) first (c.in_ok-create_record.ensures.done clean2 first.mode) in
    handed_on _ c.from_residual-in_err-create_object.result c.in_err-create_object.field-0.0 c.from_residual-in_err-create_object.ensures.1
    (λ d has _ refused. failed_then begin two three clean2 (frame_then begin one two c.drop_record.ensures.frame c.create_record.ensures.frame) c.create_object.ensures.frame.counts
    (c.in_err-create_object.ensures.cause clean second.mode (c.create_record.ensures.limit ∙ c.drop_record.ensures.limit ∙ none) (about_row 1 d ∷ []) (second.change (about_row 1 d ∷ []) has) refused))

pub returns-in_err-set_version-clause-cause : goal.returns-in_err-set_version-clause-cause
returns-in_err-set_version-clause-cause g c clean inside none =
    let begin = state g.S.Store c.args.tx.now.conn.now in
    let one = state g.S.Store c.drop_record.new.tx.conn.now in
    let two = state g.S.Store c.create_record.new.tx.conn.now in
    let three = state g.S.Store c.create_object.new.tx.conn.now in
    let end = state g.S.Store c.set_version.new.tx.conn.now in
    let clean3 = c.set_version.ensures.frame.clean clean in
    let clean2 = c.create_object.ensures.frame.clean clean3 in
    let first = c.in_ok-drop_record.ensures.done (c.create_record.ensures.frame.clean clean2) inside in
    let second = next_step begin one two (built_on IsOld IsBare IsHalf) first (c.in_ok-create_record.ensures.done clean2 first.mode) in
    let third = next_step begin two three (built_on IsOld IsHalf IsMade) second (c.in_ok-create_object.ensures.done clean3 second.mode) in
    let frames = frame_then begin two three (frame_then begin one two c.drop_record.ensures.frame c.create_record.ensures.frame) c.create_object.ensures.frame in
    handed_on _ c.from_residual-in_err-set_version.result c.in_err-set_version.field-0.0 c.from_residual-in_err-set_version.ensures.1
    (λ d has short refused. failed_then begin three end clean3 frames c.set_version.ensures.frame.counts
    (c.in_err-set_version.ensures.cause clean third.mode (c.create_object.ensures.limit ∙ c.create_record.ensures.limit ∙ c.drop_record.ensures.limit ∙ none) d (third.change (about_row 1 d ∷ []) has) short refused))
