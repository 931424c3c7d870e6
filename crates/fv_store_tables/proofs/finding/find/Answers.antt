use Rattle.std.proofs.Common.{◌≡◌, ◌<◌, arith, length, ◌∙◌}
use Rattle.std.proofs.lemmas.Grind.{common_steps}
use Rattle.sqlite.specs.Held.{state}
use Rattle.fv_store_tables.proofs.Queries.{none_shown, some_shown, stays_then, texts_kept}
use Rattle.fv_store_tables.proofs.Refusals.{handed_on}
use Rattle.fv_store_tables.proofs.Steps.{failed_then}
use Rattle.fv_store_tables.proofs.finding.find.Goals as goal

pub returns-in_err-objects-clause-stays : goal.returns-in_err-objects-clause-stays
returns-in_err-objects-clause-stays g c d m keeps = c.find_objects.ensures.stays d m (c.find_record.ensures.stays d m keeps)

pub returns-clause-stays : goal.returns-clause-stays
returns-clause-stays g c d m keeps = c.find_objects.ensures.stays d m (c.find_record.ensures.stays d m keeps)

pub returns-in_err-objects-clause-untouched : goal.returns-in_err-objects-clause-untouched
returns-in_err-objects-clause-untouched g c settled d m keeps =
    stays_then (state g.S.Store c.args.conn.now) (state g.S.Store c.find_record.new.conn) (state g.S.Store c.find_objects.new.conn) c.find_objects.ensures.frame settled
    (c.find_record.ensures.untouched settled d m keeps) (λ still. c.find_objects.ensures.untouched still d m (c.find_record.ensures.stays d m keeps))

pub returns-clause-untouched : goal.returns-clause-untouched
returns-clause-untouched g c settled d m keeps =
    stays_then (state g.S.Store c.args.conn.now) (state g.S.Store c.find_record.new.conn) (state g.S.Store c.find_objects.new.conn) c.find_objects.ensures.frame settled
    (c.find_record.ensures.untouched settled d m keeps) (λ still. c.find_objects.ensures.untouched still d m (c.find_record.ensures.stays d m keeps))

pub returns-clause-same : goal.returns-clause-same
returns-clause-same g c clean d m keeps =
    c.in_ok-objects.ensures.same clean d m (c.find_record.ensures.stays d m keeps) ∙ c.in_ok-head.ensures.same (c.find_objects.ensures.frame.clean clean) d m keeps

pub returns-then-is_empty-clause-found : goal.returns-then-is_empty-clause-found
returns-then-is_empty-clause-found g c clean =
    let shown = c.in_ok-head.ensures.shown clean in
    let empty : length c.in_ok-head.head.items ≡ 0 = grind (arith, common_steps, c.if-is_empty.ensures, c.in_ok-head.head.ok) in
    (shown.0, λ d m keeps named. (shown.1 d m keeps, λ k has. absurd (none_shown c.in_ok-head.head.items (m c.args.id.now) k empty (shown.1 d m keeps) has), λ none. c.new-objects.ensures.items))

pub returns-clause-found : goal.returns-clause-found
returns-clause-found g c clean =
    let mid = c.find_objects.ensures.frame.clean clean in
    let shown = c.in_ok-head.ensures.shown mid in
    let some : 0 < length c.in_ok-head.head.items = grind (arith, common_steps, c.if-is_empty.ensures, c.is_empty.ensures, c.in_ok-head.head.ok) in (
      shown.0,
      λ d m keeps named. (
        shown.1 d m keeps,
        λ k has. (
          c.in_ok-objects.ensures.shown clean d m (c.find_record.ensures.stays d m keeps) k has (named c.args.id.now k has),
          texts_kept (state g.S.Store c.args.conn.now).now d m c.args.id.now k (keeps (c.find_record.ensures.frame.clean mid) shown.0).0 has (named c.args.id.now k has),
        ),
        λ none. absurd (some_shown c.in_ok-head.head.items (m c.args.id.now) some (shown.1 d m keeps) none),
      ),
    )

pub returns-in_err-head-clause-cause : goal.returns-in_err-head-clause-cause
returns-in_err-head-clause-cause g c clean none =
    handed_on _ c.from_residual.result c.in_err-head.field-0.0 c.from_residual.ensures.1 (λ d m keeps. c.in_err-head.ensures.cause clean none d m keeps)

pub returns-in_err-objects-clause-cause : goal.returns-in_err-objects-clause-cause
returns-in_err-objects-clause-cause g c clean none =
    let mid = c.find_objects.ensures.frame.clean clean in
    handed_on _ c.from_residual-in_err-objects.result c.in_err-objects.field-0.0 c.from_residual-in_err-objects.ensures.1
    (λ d m keeps refused.
    failed_then (state g.S.Store c.args.conn.now) (state g.S.Store c.find_record.new.conn) (state g.S.Store c.find_objects.new.conn) mid c.find_record.ensures.frame c.find_objects.ensures.frame.counts
    (c.in_err-objects.ensures.cause clean (c.find_record.ensures.limit ∙ none) d m (c.find_record.ensures.stays d m keeps) refused))

pub returns-then-is_empty-clause-none : goal.returns-then-is_empty-clause-none
returns-then-is_empty-clause-none g c clean = c.in_ok-head.ensures.none clean

pub returns-clause-none : goal.returns-clause-none
returns-clause-none g c clean = c.in_ok-head.ensures.none (c.find_objects.ensures.frame.clean clean)
