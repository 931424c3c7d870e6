use Rattle.std.proofs.Common.{◌≡◌, ℕ, List, Option, map, Ok, Err, inl, inr, refl, sym, ap, subst, ◌∙◌}
use Rattle.std.proofs.lemmas.Int.{to_z-of_z}
use mir.Syntax.{w64}
use Rattle.fv_store.specs.Stock.{stock_state as state}
use Rattle.fv_engine_command.specs.CommandView.{part_view}
use Rattle.fv_declare_schema.specs.Declarations.{Declarations}
use Rattle.fv_engine_machine.specs.Keeping.{Unchanged, ChangesSo, FitsWhereHeld, IsOneSet, Settles, rows_on, set_object}
use Rattle.fv_engine_machine.specs.Machines.{contents, with_map, over, room_in}
use Rattle.fv_engine_machine.proofs.Becoming.{rests, unmoved, unchanged, stays_itself, fails_so}
use Rattle.fv_engine_machine.proofs.Changes.{is_part_memory, change_memory, change_misshapen, change_unfound, change_unmade, change_settled, few_taken, one_set}
use Rattle.fv_engine_machine.proofs.Makes.{agreeing_fit, counted, made, standing_touched, touched_stands, unmade}
use Rattle.fv_engine_pending.specs.Fits.{AreTyped, Keeps}
use Rattle.fv_engine_pending.specs.Steps.{staged, step_view, steps_made}
use Rattle.fv_engine_pending.specs.Ways.{pending_view}
use Rattle.fv_engine_reply.specs.Answers.{Answer}
use Rattle.fv_engine_reply.specs.AnswerView.{answer_view}
use Rattle.fv_store.specs.Records.{Records}
use Rattle.fv_bundle.specs.TypesView.{types_view}
use Rattle.fv_engine_machine.proofs.changing.change.Goals as goal

pub returns-in-Err-clause-becomes : goal.returns-in-Err-clause-becomes
returns-in-Err-clause-becomes g c = rests (state g.S.Store) _ _ (λ x. change_memory g.R.RuleSet.meaning c.args.now (map part_view c.args.parts.now) c.args.done x x (stays_itself x))

pub returns-in-Ok-None-clause-becomes : goal.returns-in-Ok-None-clause-becomes
returns-in-Ok-None-clause-becomes g c =
    let parts = map part_view c.args.parts.now in
    let misshapen = rw (c.in-Ok-None.field-0-is, c.schema-schema.ensures) at c.in-Ok-None.ensures.read in
    unmoved (state g.S.Store) c.args.book.now _ _ (λ m. change_misshapen g.R.RuleSet.meaning c.args.now parts c.args.done _ misshapen)

pub returns-in-Err-find_records-clause-becomes : goal.returns-in-Err-find_records-clause-becomes
returns-in-Err-find_records-clause-becomes g c =
    let ds = c.args.book.now in
    let parts = map part_view c.args.parts.now in
    let read = rw (c.in-Ok-Some.field-0-is, c.schema-schema.ensures) at c.in-Ok-Some.ensures.read in
    let same : ds.types ≡ types_view c.types.result.now = sym (c.types.ensures ∙ ap (λ (d : Declarations). d.types) c.schema-schema.ensures) in
    let e = c.in-Err-find_records.ensures in
    unchanged (state g.S.Store) ds _ _ e.frame (λ bytes m holds. e.untouched (contents bytes ds m) holds) _ (λ clean bytes m holds stay. change_unfound g.R.RuleSet.meaning c.args.now parts c.args.done _ read.0 c.undone.result _ stay
    (fails_so c.in-Err-find_records.fault c.undone.result _ c.undone.ensures.store c.undone.ensures.memory (λ is. (e.asked is, e.cause clean is (contents bytes ds m) same holds))))
    (λ bytes m holds. e.stays (contents bytes ds m) holds)

pub returns-in-Err-apply_all-clause-becomes : goal.returns-in-Err-apply_all-clause-becomes
returns-in-Err-apply_all-clause-becomes g c =
    let ds = c.args.book.now in
    let parts = map part_view c.args.parts.now in
    let read = rw (c.in-Ok-Some.field-0-is, c.schema-schema.ensures) at c.in-Ok-Some.ensures.read in
    let same : ds.types ≡ types_view c.types.result.now = sym (c.types.ensures ∙ ap (λ (d : Declarations). d.types) c.schema-schema.ensures) in
    let again : types_view c.types-2.result.now ≡ ds.types = c.types-2.ensures ∙ ap (λ (d : Declarations). d.types) c.schema-schema.ensures in
    let e = c.in-Ok.ensures in
    let start = pending_view c.in-Ok.pending in
    let tells = λ (m : Records) (a : Answer). ChangesSo g.R.RuleSet.meaning c.args.now parts c.args.done (with_map (state g.S.Store) (over (state g.S.Store) ds c.args.store.now) m) a
    (with_map (state g.S.Store) (over (state g.S.Store) ds c.find_records.new.store) m) in
    unchanged (state g.S.Store) ds _ _ e.frame (λ bytes m holds. e.untouched (contents bytes ds m) holds) _ (λ clean bytes m holds stay. elim (is_part_memory c.in-Err-apply_all.fault) [
      | inl is ↦ subst (λ (a : Answer). tells m a) (sym (c.unmade.ensures.memory is)) (change_memory g.R.RuleSet.meaning c.args.now parts c.args.done _ _ stay)
      | inr other ↦
          let stops : steps_made ds.types 0 (map (staged ds.types ds.forms) parts) start ≡ Err (c.in-Err-apply_all.part, c.in-Err-apply_all.fault) = rw (read.1, again) at (c.in-Err-apply_all.ensures.made other) in
          subst (λ (a : Answer). tells m a) (sym (c.unmade.ensures.other other))
          (change_unmade g.R.RuleSet.meaning c.args.now parts c.args.done _ read.0 (c.in-Err-apply_all.part, c.in-Err-apply_all.fault)
          (unmade ds.types ds.forms 0 parts start (c.in-Err-apply_all.part, c.in-Err-apply_all.fault) m (e.found clean (contents bytes ds m) same holds) e.covers stops)
          _ stay (λ needs. e.frame.was_open clean (e.live needs clean)))
    ])
    (λ bytes m holds. e.stays (contents bytes ds m) holds)

pub settle-requires-clause-typed : goal.settle-requires-clause-typed
settle-requires-clause-typed g c =
    let ds = c.args.book.now in
    let parts = map part_view c.args.parts.now in
    let read = rw (c.in-Ok-Some.field-0-is, c.schema-schema.ensures) at c.in-Ok-Some.ensures.read in
    let fits = rw (c.in-Ok-Some.field-0-is, c.schema-schema.ensures) at c.in-Ok-Some.ensures.fits in
    let first : types_view c.types.result.now ≡ ds.types = c.types.ensures ∙ ap (λ (d : Declarations). d.types) c.schema-schema.ensures in
    let again : types_view c.types-2.result.now ≡ ds.types = c.types-2.ensures ∙ ap (λ (d : Declarations). d.types) c.schema-schema.ensures in
    let keeps : Keeps ds.types (map step_view c.in-Ok-Some.steps.items) (pending_view c.in-Ok.pending) (pending_view c.apply_all.new.pending) = rw again at c.in-Ok-apply_all.ensures.keeps in
    let typed : AreTyped ds.types (pending_view c.in-Ok.pending) = rw first at c.in-Ok.ensures.typed in
    (keeps ds.forms fits).0 typed

pub returns-in-Ok-apply_all-clause-becomes : goal.returns-in-Ok-apply_all-clause-becomes
returns-in-Ok-apply_all-clause-becomes g c =
    let held = state g.S.Store in
    let ds = c.args.book.now in
    let parts = map part_view c.args.parts.now in
    let read = rw (c.in-Ok-Some.field-0-is, c.schema-schema.ensures) at c.in-Ok-Some.ensures.read in
    let fits = rw (c.in-Ok-Some.field-0-is, c.schema-schema.ensures) at c.in-Ok-Some.ensures.fits in
    let same : ds.types ≡ types_view c.types.result.now = sym (c.types.ensures ∙ ap (λ (d : Declarations). d.types) c.schema-schema.ensures) in
    let again : types_view c.types-2.result.now ≡ ds.types = c.types-2.ensures ∙ ap (λ (d : Declarations). d.types) c.schema-schema.ensures in
    let e = c.in-Ok.ensures in
    let start = pending_view c.in-Ok.pending in
    let way = pending_view c.apply_all.new.pending in
    let keeps : Keeps ds.types (map step_view c.in-Ok-Some.steps.items) start way = rw again at c.in-Ok-apply_all.ensures.keeps in
    let goes : steps_made ds.types 0 (map (staged ds.types ds.forms) parts) start ≡ Ok way = rw (read.1, again) at c.in-Ok-apply_all.ensures.made in
    let settles = rw (to_z-of_z w64 c.args.now c.ranges.now) at c.settle.ensures.moves in
    record {
      declared = refl;
      clean = λ clean. e.frame.clean (c.settle.ensures.frame.clean clean);
      related = λ clean bytes m holds.
          let mid_clean = c.settle.ensures.frame.clean clean in
          let agrees = e.found mid_clean (contents bytes ds m) same holds in
          let before = with_map held (over held ds c.args.store.now) m in
          let mid = with_map held (over held ds c.find_records.new.store) m in
          let stay : Unchanged before mid = record { declared = refl; records = refl; was_open = e.frame.was_open mid_clean; counts = e.frame.counts; closes = e.frame.closes mid_clean; room = λ live. ap room_in (e.untouched (contents bytes ds m) holds mid_clean live).2 } in
          let fit : FitsWhereHeld (held c.find_records.new.store) (contents bytes ds m) way = λ now_clean live stands. (keeps ds.forms fits).1 (agreeing_fit ds.types ds.forms start m agrees (stands now_clean live).0.fit) in
          let one = one_set ds.types ds.forms parts start way m agrees e.covers e.count goes in
          let t = settles bytes m fit (subst (λ (o : Option (List ℕ)). IsOneSet o way m) (sym c.set_object.ensures) one) clean (e.stays (contents bytes ds m) holds) in (
            t.0,
            change_settled g.R.RuleSet.meaning c.args.now parts c.args.done before read.0 (rows_on (set_object parts) way) way mid (with_map held (over held ds c.settle.new.store) t.0)
                (made ds.types ds.forms 0 parts start way m agrees e.covers goes) stay
                (ap room_in (e.same mid_clean (contents bytes ds m) holds))
                (λ needs. e.frame.was_open mid_clean (e.live needs mid_clean))
                (few_taken parts way (counted ds.types ds.forms 0 parts start way e.count goes))
                (λ id k. touched_stands ds.types ds.forms 0 parts start way goes m id k) (λ id k stands. standing_touched ds.types ds.forms 0 parts start way goes m id k e.needed stands)
                (answer_view c.settle.result) (subst (λ (o : Option (List ℕ)). Settles g.R.RuleSet.meaning c.args.now (rows_on o way) way c.args.done mid (answer_view c.settle.result) (with_map held (over held ds c.settle.new.store) t.0)) c.set_object.ensures t.1),
            t.2,
          );
    }
