use Rattle.std.proofs.Common.{◌≡◌, ◌++◌, List, [], ◌∷◌, sym, ap, ◌∙◌}
use Rattle.fv_bundle.specs.Views.{object_view}
use Rattle.fv_engine_pending.specs.Ways.{pending_view}
use Rattle.fv_engine_pending.proofs.OneObject.{none_set, object_after, object_fits, object_short}
use Rattle.fv_store.specs.declared.changes.Change.{Change}
use Rattle.fv_engine_pending.proofs.pending.Pending.into_object.Goals as goal

pub returns-in_default-clause-none : goal.returns-in_default-clause-none
returns-in_default-clause-none c = none_set c.into_changes.result c.args.object.now (pending_view c.args.self) c.in_default.ensures

pub returns-clause-after : goal.returns-clause-after
returns-clause-after c = λ id m o.
    let one : c.push.new.self.items ≡ c.in_ok-object_change.field-0 ∷ [] = c.in_ok-push.ensures.items ∙ ap (λ (cs : List Change). cs ++ c.in_ok-object_change.field-0 ∷ []) c.in_ok-changes.ensures.items in
    rw one (object_after c.args.object.now c.in-Some.id.now (object_view c.in-Some.there.now) (pending_view c.args.self) c.in_ok-object_change.field-0 c.in_ok-object_change.ensures (sym c.in-Some.ensures) id m o)

pub returns-clause-fit : goal.returns-clause-fit
returns-clause-fit c = λ types forms id m o fitting.
    let one : c.push.new.self.items ≡ c.in_ok-object_change.field-0 ∷ [] = c.in_ok-push.ensures.items ∙ ap (λ (cs : List Change). cs ++ c.in_ok-object_change.field-0 ∷ []) c.in_ok-changes.ensures.items in
    rw one (object_fits c.args.object.now c.in-Some.id.now (object_view c.in-Some.there.now) (pending_view c.args.self) c.in_ok-object_change.field-0 c.in_ok-object_change.ensures (sym c.in-Some.ensures) id m o types forms fitting)

pub returns-clause-short : goal.returns-clause-short
returns-clause-short c = λ short.
    let one : c.push.new.self.items ≡ c.in_ok-object_change.field-0 ∷ [] = c.in_ok-push.ensures.items ∙ ap (λ (cs : List Change). cs ++ c.in_ok-object_change.field-0 ∷ []) c.in_ok-changes.ensures.items in
    rw one (object_short c.args.object.now c.in-Some.id.now (object_view c.in-Some.there.now) (pending_view c.args.self) c.in_ok-object_change.field-0 c.in_ok-object_change.ensures (sym c.in-Some.ensures) short)
