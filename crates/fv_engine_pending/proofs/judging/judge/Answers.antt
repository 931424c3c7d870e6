use Rattle.std.proofs.Common.{◌≡◌, map, sym, ap, subst, ◌∙◌}
use Rattle.std.specs.Map.{keys_of}
use Rattle.std.proofs.lemmas.Int.{to_z-of_z}
use Rattle.std.proofs.lemmas.Result.{err_from_is_err_and}
use mir.Syntax.{w64}
use Rattle.fv_engine_pending.proofs.Listings.{listings, one_over}
use Rattle.fv_engine_pending.proofs.Judged.{Judging, judging_first, judging_last, judging_none, judging_typed, judging_some, judging_over, entries_ascend}
use Rattle.fv_engine_pending.specs.Ways.{pending_view, way_entry}
use Rattle.fv_validate.specs.ViolationView.{judged_view}
use Rattle.fv_datum.specs.Ascending.{IsAscending}
use Rattle.fv_engine_pending.proofs.judging.judge.Goals as goal

pub loop-id-init : goal.loop-id-init
loop-id-init g c =
    let same : map way_entry c.into_iter-id-iterator.result ≡ pending_view c.args.pending.now =
    ap (map way_entry) (c.into_iter-id-iterator.ensures.into_iter_gives ∙ c.iter-id-items.ensures.rest) ∙ c.records.ensures in
    rw c.new-judged.ensures.items (judging_first g.R.RuleSet.meaning c.args.book.now _ (pending_view c.args.pending.now) c.into_iter-id-iterator.result same c.requires.typed)

pub add_judged-requires-clause-typed : goal.add_judged-requires-clause-typed
add_judged-requires-clause-typed g c =
    judging_typed g.R.RuleSet.meaning c.args.book.now _ (pending_view c.args.pending.now) (map judged_view c.loop-id.judged.items) c.loop-id.id-iterator c.next.new.self c.in-Some.id.now c.in-Some.record.now c.in-Some.ensures.steps c.loop-id.invariant c.in-Some-record.stored c.in-Some-record.is

pub loop-id-preserved-in-Continue-1 : goal.loop-id-preserved-in-Continue-1
loop-id-preserved-in-Continue-1 g c =
    let told = c.in_ok-add_judged.ensures in
    judging_some g.R.RuleSet.meaning c.args.book.now _ (pending_view c.args.pending.now) (map judged_view c.loop-id.judged.items) c.loop-id.id-iterator c.next.new.self c.in-Some.id.now c.in-Some.record.now c.in-Some.ensures.steps c.loop-id.invariant c.in-Some-record.stored c.in-Some-record.is
    (map judged_view c.add_judged.new.judged.items) told.0 told.1 told.2

pub loop-id-preserved : goal.loop-id-preserved
loop-id-preserved g c =
    judging_none g.R.RuleSet.meaning c.args.book.now _ (pending_view c.args.pending.now) (map judged_view c.loop-id.judged.items) c.loop-id.id-iterator c.next.new.self c.in-Some.id.now c.in-Some.record.now c.in-Some.ensures.steps c.loop-id.invariant c.in_default.not-Some

pub returns-in_err-add_judged : goal.returns-in_err-add_judged
returns-in_err-add_judged g c =
    let f = c.in_err-add_judged.field-0.0 in
    let p = err_from_is_err_and c.from_residual.result c.from_residual.ensures.1 in
    let told = c.in_err-add_judged.ensures in
    rw p.1 (
      (λ is. told.0.0 (sym p.2 ∙ is), λ is. told.0.1 (sym p.2 ∙ is)),
      λ is. one_over c.args.book.now (pending_view c.args.pending.now) (subst (λ w. IsAscending (keys_of w)) c.records.ensures (entries_ascend c.records.result.now.entries c.iter-id-items.ensures.ordered)) (judging_over g.R.RuleSet.meaning c.args.book.now _ (pending_view c.args.pending.now) (map judged_view c.loop-id.judged.items) c.loop-id.id-iterator c.next.new.self c.in-Some.id.now c.in-Some.record.now c.in-Some.ensures.steps c.loop-id.invariant c.in-Some-record.stored c.in-Some-record.is
          (told.1 (sym p.2 ∙ is))),
    )

pub returns : goal.returns
returns g c =
    let all = pending_view c.args.pending.now in
    let done = map judged_view c.loop-id.judged.items in
    let kept : Judging g.R.RuleSet.meaning c.args.book.now c.args.now done c.loop-id.id-iterator all = rw (to_z-of_z w64 c.args.now c.ranges.now) at c.loop-id.invariant in
    let found = judging_last g.R.RuleSet.meaning c.args.book.now c.args.now all done c.loop-id.id-iterator c.in-None.ensures.steps.0 kept in
    let ascending : IsAscending (keys_of all) = subst (λ w. IsAscending (keys_of w)) c.records.ensures (entries_ascend c.records.result.now.entries c.iter-id-items.ensures.ordered) in
    listings c.args.book.now all ascending g.R.RuleSet.meaning c.args.now done found.0 found.1 found.2
