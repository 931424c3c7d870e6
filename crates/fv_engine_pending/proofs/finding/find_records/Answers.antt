use Rattle.std.proofs.Common.{◌≡◌, ◌+◌, ◌≤◌, ◌∷◌, [], ◌++◌, IsTrue, map, length, take, sym, ap, subst, ◌∙◌}
use Rattle.std.specs.List.{AllByRecursion, list_any}
use Rattle.std.proofs.lemmas.List.{take_more, map-append}
use Rattle.std.proofs.lemmas.Result.{err_from_is_err_and}
use Rattle.fv_engine_command.specs.CommandView.{part_view}
use Rattle.fv_engine_pending.specs.Fits.{AreNeeded, Covers}
use Rattle.fv_engine_pending.specs.Touched.{needs_record, count_needed}
use Rattle.fv_engine_pending.specs.Ways.{pending_view}
use Rattle.fv_engine_pending.proofs.Found.{covers_more, needed_more, live_more, count_more, any_item, stays_then}
use Rattle.fv_store.proofs.Steps.{frame_then, failed_then}
use Rattle.fv_store.specs.Stands.{IsLive}
use Rattle.fv_store.specs.Stock.{stock_state as state}
use Rattle.fv_engine_pending.proofs.finding.find_records.Goals as goal

pub loop-part-preserved : goal.loop-part-preserved
loop-part-preserved g c =
    let l = c.loop-part in
    let was = l.invariant in
    let made = c.in_ok-find_for.ensures in
    let begin = state g.S.Store c.args.store.now in
    let mid = state g.S.Store l.store in
    let now = state g.S.Store c.find_for.new.store in
    let parts = c.args.parts.now in
    let done = map part_view (take l.part-index parts) in
    let part = c.part-item.result in
    let old = pending_view l.pending in
    let new = pending_view c.find_for.new.pending in
    let more : map part_view (take (l.part-index + 1) parts) ≡ done ++ part_view part ∷ [] =
    ap (map part_view) (take_more parts l.part-index part c.loop-part-test.true ∙ ap (λ p. take l.part-index parts ++ p ∷ []) (sym c.part-item.is))
    ∙ map-append part_view (take l.part-index parts) (part ∷ []) in
    record {
      frame = frame_then begin mid now was.frame made.frame;
      text = made.text ∙ was.text;
      found = λ clean k types holds. made.found clean k types (was.stays k holds) (was.found (made.frame.clean clean) k types holds);
      covers = subst (AllByRecursion (Covers new)) (sym more) (covers_more done (part_view part) old new made.keeps made.covers was.covers);
      needed = subst (λ ps. AreNeeded ps new) (sym more) (needed_more done (part_view part) old new made.only was.needed);
      typed = made.typed was.typed;
      live = subst (λ ps. IsTrue (list_any needs_record ps) → IsLive now) (sym more) (live_more done (part_view part) old new (IsLive mid) (IsLive now) made.live was.needed was.live);
      count = subst (λ ps. length new ≤ count_needed ps) (sym more) (count_more done (part_view part) old new made.count was.count);
      stays = λ k holds. made.stays k (was.stays k holds);
      untouched = λ k holds. stays_then begin mid now (was.untouched k holds) (made.untouched k (was.stays k holds));
      same = λ clean k holds. made.same clean k (was.stays k holds) ∙ was.same (made.frame.clean clean) k holds;
    }

pub returns-in_err-find_for-clause-cause : goal.returns-in_err-find_for-clause-cause
returns-in_err-find_for-clause-cause g c clean =
    let was = c.loop-part.invariant in
    let asked = c.in_err-find_for.ensures in
    let handed = err_from_is_err_and c.from_residual.result c.from_residual.ensures.1 in
    rw (handed.1, handed.2)
    (λ is k types holds. failed_then (state g.S.Store c.args.store.now) (state g.S.Store c.loop-part.store) (state g.S.Store c.find_for.new.store) (asked.frame.clean clean) was.frame asked.frame.counts
    (asked.cause clean is k types (was.stays k holds)))

pub returns-in_err-find_for-clause-asked : goal.returns-in_err-find_for-clause-asked
returns-in_err-find_for-clause-asked g c =
    let handed = err_from_is_err_and c.from_residual.result c.from_residual.ensures.1 in
    rw (handed.1, handed.2)
    (λ is. any_item needs_record part_view c.args.parts.now c.loop-part.part-index c.part-item.result c.loop-part-test.true
    (ap (λ p. needs_record (part_view p)) (sym c.part-item.is) ∙ c.in_err-find_for.ensures.asked))

pub returns-in_err-find_for-clause-stays : goal.returns-in_err-find_for-clause-stays
returns-in_err-find_for-clause-stays g c k holds = c.find_for.ensures.stays k (c.loop-part.invariant.stays k holds)

pub returns-in_err-find_for-clause-untouched : goal.returns-in_err-find_for-clause-untouched
returns-in_err-find_for-clause-untouched g c k holds =
    let was = c.loop-part.invariant in
    stays_then (state g.S.Store c.args.store.now) (state g.S.Store c.loop-part.store) (state g.S.Store c.find_for.new.store) (was.untouched k holds) (c.find_for.ensures.untouched k (was.stays k holds))
