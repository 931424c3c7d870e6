use Rattle.std.proofs.Common.{◌≡◌, ◌++◌, ◌∷◌, [], List, ℕ, Ok, MatchResult, sym, subst}
use Rattle.std.proofs.lemmas.Int.{to_z-of_z}
use Rattle.std.proofs.lemmas.Result.{err_from_is_err_and}
use mir.Syntax.{w64}
use Rattle.fv_declare_schema.specs.Declarations.{Declarations}
use Rattle.fv_engine_pending.specs.Passes.{AreSo, IsReread, WrittenFails}
use Rattle.fv_engine_pending.specs.declared.rejudging.RejudgeFault.TheVariants.{Memory}
use Rattle.fv_engine_pending.proofs.Passes.{written_done}
use Rattle.fv_bundle.specs.WellTyped.{IsWellTyped}
use Rattle.fv_store.specs.Records.{Kept}
use Rattle.fv_store.specs.Stored.{stored_view, written_view}
use Rattle.fv_engine_pending.proofs.rejudging.judge_written.Goals as goal

pub judge_next-requires-clause-typed : goal.judge_next-requires-clause-typed
judge_next-requires-clause-typed g c = subst (λ (d : Declarations). IsWellTyped d.types (stored_view c.in_ok-stored.stored).bundle) c.schema.ensures c.in_ok-stored.ensures.typed

pub returns-in_err-stored : goal.returns-in_err-stored
returns-in_err-stored g c =
    let e = err_from_is_err_and c.from_residual.result c.from_residual.ensures.1 in
    rw e.1 (subst (WrittenFails c.args.book.now c.args.id.now (written_view c.args.written)) (sym e.2)
    (subst (λ (d : Declarations). WrittenFails d c.args.id.now (written_view c.args.written) c.in_err-stored.field-0.0) c.schema.ensures c.in_err-stored.ensures.read))

pub returns : goal.returns
returns g c =
    let k = stored_view c.in_ok-stored.stored in
    let Judges = λ (s : Kept). (ks : List (List ℕ × Kept)) → AreSo g.R.RuleSet.meaning c.args.book.now c.args.now c.args.verdicts.now ks → AreSo g.R.RuleSet.meaning c.args.book.now c.args.now c.judge_next.new.verdicts (ks ++ (c.args.id.now, s) ∷ []) in
    let told : MatchResult c.judge_next.result (λ _. Judges k) (λ f. f ≡ Memory) = rw (to_z-of_z w64 c.args.now c.ranges.now) at c.judge_next.ensures in
    written_done c.args.book.now c.args.id.now (written_view c.args.written) k Judges c.judge_next.result (subst (λ (d : Declarations). IsReread d (written_view c.args.written) (Ok k)) c.schema.ensures c.in_ok-stored.ensures.read) told
