use Rattle.std.proofs.Common.{◌+◌, ◌≤◌, length, option_map, sym, subst}
use Rattle.std.proofs.lemmas.Result.{err_from_is_err_and}
use Rattle.fv_engine_pending.specs.Fits.{Agrees, AreTyped}
use Rattle.fv_engine_pending.specs.Ways.{Way, IsOn, pending_view}
use Rattle.fv_engine_pending.proofs.Found.{agrees_left, there, stays_there, only_there, typed_left, few_left, typed_kept}
use Rattle.fv_store.specs.Stored.{stored_view}
use Rattle.fv_bundle.specs.TypesView.{types_view}
use Rattle.fv_engine_pending.proofs.finding.find_record.Goals as goal

pub returns-in_err-stored-clause-cause : goal.returns-in_err-stored-clause-cause
returns-in_err-stored-clause-cause g c clean =
    let handed = err_from_is_err_and c.from_residual.result c.from_residual.ensures.1 in
    rw (handed.1, handed.2) (c.in_err-stored.ensures.cause clean)

pub returns-in-Ok-clause-found : goal.returns-in-Ok-clause-found
returns-in-Ok-clause-found g c clean k types holds agrees =
    subst (λ (w : Way). Agrees w k.records) (sym c.in-Ok.ensures)
    (agrees_left c.args.id.now (option_map stored_view c.in_ok-stored.stored) (pending_view c.args.pending.now) k.records agrees (c.in_ok-stored.ensures.found clean k types holds))

pub returns-in-Ok-clause-there : goal.returns-in-Ok-clause-there
returns-in-Ok-clause-there g c = subst (IsOn c.args.id.now) (sym c.in-Ok.ensures) (there c.args.id.now (option_map stored_view c.in_ok-stored.stored) (pending_view c.args.pending.now))

pub returns-in-Ok-clause-keeps : goal.returns-in-Ok-clause-keeps
returns-in-Ok-clause-keeps g c i on = subst (IsOn i) (sym c.in-Ok.ensures) (stays_there c.args.id.now (option_map stored_view c.in_ok-stored.stored) (pending_view c.args.pending.now) i on)

pub returns-in-Ok-clause-only : goal.returns-in-Ok-clause-only
returns-in-Ok-clause-only g c i on = only_there c.args.id.now (option_map stored_view c.in_ok-stored.stored) (pending_view c.args.pending.now) i (subst (IsOn i) c.in-Ok.ensures on)

pub returns-in-Ok-clause-typed : goal.returns-in-Ok-clause-typed
returns-in-Ok-clause-typed g c all =
    subst (AreTyped (types_view c.args.types.now)) (sym c.in-Ok.ensures)
    (typed_left (types_view c.args.types.now) c.args.id.now (option_map stored_view c.in_ok-stored.stored) (pending_view c.args.pending.now)
    (typed_kept (types_view c.args.types.now) c.in_ok-stored.stored c.in_ok-stored.ensures.typed) all)

pub returns-in-Ok-clause-count : goal.returns-in-Ok-clause-count
returns-in-Ok-clause-count g c =
    subst (λ (w : Way). length w ≤ length (pending_view c.args.pending.now) + 1) (sym c.in-Ok.ensures)
    (few_left c.args.id.now (option_map stored_view c.in_ok-stored.stored) (pending_view c.args.pending.now))
