use Rattle.std.proofs.Common.{true≢false, sym, ◌∙◌}
use Rattle.sqlite.specs.Held.{state}
use Rattle.fv_store.specs.Faults.{open_fault_of}
use Rattle.fv_store.proofs.Migrations.{fails_blank, fails_filled, given_more, if_filled}
use Rattle.fv_store.proofs.Openings.{is_refusal}
use Rattle.fv_store.proofs.Refusals.{handed_on}
use Rattle.fv_store.proofs.opening.settle.Goals as goal

pub returns-in_err-create-clause-store : goal.returns-in_err-create-clause-store
returns-in_err-create-clause-store g c clean outside none =
    let old = state g.S.Store c.args.conn.now in
    let blank = c.is_blank.ensures.0 c.if-is_blank.true in
    handed_on _ c.from_residual-in_err-create.result (open_fault_of c.in_err-create.field-0.0) c.from_residual-in_err-create.ensures.1
    (λ able is. fails_blank old (state g.S.Store c.create.new.conn) c.args.declarations.now (c.create.ensures.frame.clean clean) blank
    (λ short. c.in_err-create.ensures.cause clean none blank short (is_refusal c.in_err-create.field-0.0 is)) able)

pub returns-then-is_blank-clause-fresh : goal.returns-then-is_blank-clause-fresh
returns-then-is_blank-clause-fresh g c blank = (c.in_ok-text.ensures.items_if_clones_equal (λ x y e. e), c.in_ok-create.ensures.done blank)

pub returns-clause-still : goal.returns-clause-still
returns-clause-still g c = given_more _ _ c.kept.result c.kept.ensures.still

pub returns-clause-store : goal.returns-clause-store
returns-clause-store g c clean outside none =
    fails_filled (state g.S.Store c.args.conn.now) (state g.S.Store c.kept.new.conn) c.args.declarations.now c.kept.result
    (λ blank. true≢false (sym (c.is_blank.ensures.1 blank) ∙ c.if-is_blank.false)) (c.kept.ensures.store_known clean none) (c.kept.ensures.store_first clean none)

pub returns-clause-unread : goal.returns-clause-unread
returns-clause-unread g c clean outside = if_filled _ _ c.kept.result (c.kept.ensures.unread clean)
