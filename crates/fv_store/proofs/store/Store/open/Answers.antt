use Rattle.std.proofs.Common.{refl, sym, ◌∙◌}
use Rattle.sqlite.specs.Held.{state}
use Rattle.fv_store.specs.declared.fault.OpenStoreFault.TheVariants.{OtherVersion}
use Rattle.fv_store.proofs.Openings.{caused_unlimited, causes_store, either_taken, no_version, still_unlimited, taken_unlimited, unlimited, opens_ok, opens_err, opens_text, opens_version}
use Rattle.fv_store.proofs.store.Store.open.Goals as goal

pub returns-in-Ok-clause-frame : goal.returns-in-Ok-clause-frame
returns-in-Ok-clause-frame g c = unlimited (state g.S.Store c.args.connection) (state g.S.Store c.settle.new.conn) (rw c.set_step_limit.ensures at c.settle.ensures.frame)

pub returns-in-Err-clause-frame : goal.returns-in-Err-clause-frame
returns-in-Err-clause-frame g c = unlimited (state g.S.Store c.args.connection) (state g.S.Store c.settle.new.conn) (rw c.set_step_limit.ensures at c.settle.ensures.frame)

pub returns-in-Ok-clause-opened : goal.returns-in-Ok-clause-opened
returns-in-Ok-clause-opened g c k shallow opens =
    let is = c.set_step_limit.ensures in
    let old = state g.S.Store c.args.connection in
    let new = state g.S.Store c.settle.new.conn in
    opens_ok old new (unlimited old new (rw is at c.settle.ensures.frame)) c.args.declarations.now c.in-Ok.declarations.items (rw is at c.in-Ok.ensures.fresh) (still_unlimited old new (rw is at c.in-Ok.ensures.still)) (rw is at c.in-Ok.ensures.upgraded) k shallow opens

pub returns-in-Ok-clause-in_force : goal.returns-in-Ok-clause-in_force
returns-in-Ok-clause-in_force g c clean k opens =
    let is = c.set_step_limit.ensures in
    let old = state g.S.Store c.args.connection in
    let frame = unlimited old (state g.S.Store c.settle.new.conn) (rw is at c.settle.ensures.frame) in
    let fresh = rw is at c.in-Ok.ensures.fresh in
    opens_text old c.args.declarations.now c.in-Ok.declarations.items (frame.clean clean) (frame.was_open clean (c.in-Ok.ensures.open clean)) (λ blank. (fresh blank).0) (rw is at (c.in-Ok.ensures.taken clean)) k opens

pub returns-in-Ok-clause-taken : goal.returns-in-Ok-clause-taken
returns-in-Ok-clause-taken g c clean = rw c.set_step_limit.ensures at (c.in-Ok.ensures.taken clean)

pub returns-in-Err-clause-refused : goal.returns-in-Err-clause-refused
returns-in-Err-clause-refused g c is clean =
    let it = caused_unlimited (state g.S.Store c.args.connection) OtherVersion (rw is at (rw c.set_step_limit.ensures at (c.in-Err.ensures.cause clean))) tt in
    (it.2, λ version d tells either. no_version (sym (either_taken version either) ∙ it.3 version d tells))

pub returns-in-Err-clause-other_version : goal.returns-in-Err-clause-other_version
returns-in-Err-clause-other_version g c is clean k =
    let same = c.set_step_limit.ensures in
    opens_version (state g.S.Store c.args.connection) c.args.declarations.now k ((rw same at c.settle.ensures.frame).clean clean)
    (caused_unlimited (state g.S.Store c.args.connection) OtherVersion (rw is at (rw same at (c.in-Err.ensures.cause clean))))

pub returns-in-Err-clause-untouched : goal.returns-in-Err-clause-untouched
returns-in-Err-clause-untouched g c = rw c.set_step_limit.ensures at c.in-Err.ensures.untouched

pub returns-in-Err-clause-stays : goal.returns-in-Err-clause-stays
returns-in-Err-clause-stays g c =
    let is = c.set_step_limit.ensures in
    opens_err (state g.S.Store c.args.connection) (state g.S.Store c.settle.new.conn) (unlimited _ _ (rw is at c.settle.ensures.frame)) (rw is at c.in-Err.ensures.untouched) c.args.declarations.now

pub returns-in-Err-clause-store : goal.returns-in-Err-clause-store
returns-in-Err-clause-store g c is clean outside =
    let same = c.set_step_limit.ensures in
    causes_store (state g.S.Store c.args.connection) (state g.S.Store c.settle.new.conn) c.args.declarations.now
    (λ able. (rw same at (c.in-Err.ensures.store clean)) outside refl able is) ((rw same at (c.in-Err.ensures.unread clean)) outside is)

pub returns-in-Ok-clause-upgraded : goal.returns-in-Ok-clause-upgraded
returns-in-Ok-clause-upgraded g c = rw c.set_step_limit.ensures at c.in-Ok.ensures.upgraded

pub returns-in-Ok-clause-fresh : goal.returns-in-Ok-clause-fresh
returns-in-Ok-clause-fresh g c blank = ((rw c.set_step_limit.ensures at c.in-Ok.ensures.fresh) blank).0

pub returns-in-Ok-clause-still : goal.returns-in-Ok-clause-still
returns-in-Ok-clause-still g c = still_unlimited (state g.S.Store c.args.connection) (state g.S.Store c.settle.new.conn) (rw c.set_step_limit.ensures at c.in-Ok.ensures.still)

pub returns-in-Ok-clause-kept : goal.returns-in-Ok-clause-kept
returns-in-Ok-clause-kept g c clean filled =
    taken_unlimited (state g.S.Store c.args.connection) c.in-Ok.declarations.items ((rw c.set_step_limit.ensures at (c.in-Ok.ensures.kept clean)) filled)
