use Rattle.std.proofs.Common.{◌≡◌, ◌+◌, ◌++◌, List, length, take, drop, refl, ap, subst, ◌∙◌, arith}
use Rattle.std.proofs.lemmas.List.{take_all, take-append-drop}
use Rattle.sqlite.specs.Held.{state}
use Rattle.fv_store_tables.specs.declared.text.ObjectText.{ObjectText}
use Rattle.fv_store_tables.specs.Changes.{all_added, objects_view, IsFree}
use Rattle.fv_store_tables.specs.Steps.{Advances, Makes}
use Rattle.fv_store_tables.proofs.Steps.{next_step, keeps_then, keeps_same, frame_then, frame_same}
use Rattle.fv_store_tables.proofs.NewObjects.{next_taken, none_yet, run_split, run_more, run_more_cause}
use Rattle.fv_store_tables.proofs.Refusals.{handed_on}
use Rattle.fv_store_tables.proofs.inserting.insert_objects.Goals as goal

pub runs-init : goal.runs-init
runs-init g c =
    let begin = state g.S.Store c.args.tx.now.conn.now in
    record {
      same = refl;
      frame = frame_same begin;
      limit = refl;
      within = omega arith;
      kept = λ clean inside. keeps_same begin;
      done = λ clean inside. none_yet begin c.args.id.now (objects_view c.args.objects.now) inside;
    }

pub runs-preserved : goal.runs-preserved
runs-preserved g c =
    let was = c.runs.invariant in
    let begin = state g.S.Store c.args.tx.now.conn.now in
    let mid = state g.S.Store c.runs.tx.conn.now in
    let new = state g.S.Store c.insert_run.new.tx.conn.now in
    let os = c.args.objects.now in
    let i = c.runs.done in
    let rest = c.split_at.result.1.now in
    let run = c.split_at-in-runs.result.0.now in
    let behind = drop c.longest_run.result rest in
    let all = run_split os (take i os) rest run behind c.longest_run.result c.split_at-in-runs.ensures.front refl (ap (λ l. take i os ++ l) c.split_at.ensures.back ∙ take-append-drop i os) in
    let taken : take i os ++ run ≡ take (i + length run) os = next_taken os run behind i was.within all in
    record {
      same = c.insert_run.ensures.same_reference ∙ was.same;
      frame = frame_then begin mid new was.frame c.insert_run.ensures.frame;
      limit = c.insert_run.ensures.limit ∙ was.limit;
      within = omega (arith, c.longest_run.ensures.within, c.split_at-in-runs.ensures.front_len, c.split_at.ensures.back_len);
      kept = λ now inside. let before = c.insert_run.ensures.frame.clean now in keeps_then begin mid new (was.kept before inside) (c.insert_run.ensures.kept now (was.done before inside).mode);
      done = λ now inside.
          let before = was.done (c.insert_run.ensures.frame.clean now) inside in
          subst (λ (l : List ObjectText). Advances begin new (Makes (length l) (IsFree c.args.id.now (objects_view os)) (all_added c.args.id.now (objects_view l)))) taken
          (next_step begin mid new (run_more c.args.id.now os (take i os) run behind all) before (c.in_ok-insert_run.ensures.done now before.mode));
    }

pub returns-clause-done : goal.returns-clause-done
returns-clause-done g c clean inside =
    subst (λ (l : List ObjectText). Advances (state g.S.Store c.args.tx.now.conn.now) (state g.S.Store c.runs.tx.conn.now) (Makes (length l) (IsFree c.args.id.now (objects_view c.args.objects.now)) (all_added c.args.id.now (objects_view l))))
    (take_all c.runs.done c.args.objects.now c.runs-test.false) (c.runs.invariant.done clean inside)

pub returns-in_err-insert_run-clause-cause : goal.returns-in_err-insert_run-clause-cause
returns-in_err-insert_run-clause-cause g c clean inside none =
    let was = c.runs.invariant in
    let begin = state g.S.Store c.args.tx.now.conn.now in
    let mid = state g.S.Store c.runs.tx.conn.now in
    let new = state g.S.Store c.insert_run.new.tx.conn.now in
    let os = c.args.objects.now in
    let i = c.runs.done in
    let rest = c.split_at.result.1.now in
    let run = c.split_at-in-runs.result.0.now in
    let behind = drop c.longest_run.result rest in
    let all = run_split os (take i os) rest run behind c.longest_run.result c.split_at-in-runs.ensures.front refl (ap (λ l. take i os ++ l) c.split_at.ensures.back ∙ take-append-drop i os) in
    let made = was.done (c.insert_run.ensures.frame.clean clean) inside in
    handed_on _ c.from_residual.result c.in_err-insert_run.field-0.0 c.from_residual.ensures.1
    (run_more_cause c.args.id.now os (take i os) run behind all begin mid new clean was.frame c.insert_run.ensures.frame made c.in_err-insert_run.field-0.0
    (c.in_err-insert_run.ensures.cause clean made.mode (was.limit ∙ none)))
