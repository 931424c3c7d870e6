use Rattle.std.proofs.Common.{◌≡◌, [], map, Ok, Err, inl, inr, sym, ap, subst, ◌∙◌}
use Rattle.std.proofs.lemmas.Int.{to_z-of_z}
use mir.Syntax.{w64}
use Rattle.fv_declare_schema.specs.Declarations.{Declarations}
use Rattle.fv_engine_command.specs.CommandView.{part_view}
use Rattle.fv_engine_machine.specs.Judges.{ChangesBare}
use Rattle.fv_engine_machine.proofs.Recordless.{bare_judged, bare_memory, bare_misshapen, bare_unmade}
use Rattle.fv_engine_machine.proofs.Changes.{is_part_memory}
use Rattle.fv_engine_pending.specs.Fits.{Keeps}
use Rattle.fv_engine_pending.specs.Steps.{staged, step_view, steps_made}
use Rattle.fv_engine_pending.specs.Ways.{pending_view}
use Rattle.fv_bundle.specs.TypesView.{types_view}
use Rattle.fv_engine_machine.proofs.bare.judge_parts.Goals as goal

pub returns-in-Err : goal.returns-in-Err
returns-in-Err g c = bare_memory g.R.RuleSet.meaning c.args.book.now c.args.now (map part_view c.args.parts.now) c.args.done

pub returns-in-Ok-None : goal.returns-in-Ok-None
returns-in-Ok-None g c =
    let misshapen = rw (c.in-Ok-None.field-0-is, c.schema-schema.ensures) at c.in-Ok-None.ensures.read in
    bare_misshapen g.R.RuleSet.meaning c.args.book.now c.args.now (map part_view c.args.parts.now) c.args.done misshapen

pub returns-in-Err-apply_all : goal.returns-in-Err-apply_all
returns-in-Err-apply_all g c =
    let ds = c.args.book.now in
    let parts = map part_view c.args.parts.now in
    let read = rw (c.in-Ok-Some.field-0-is, c.schema-schema.ensures) at c.in-Ok-Some.ensures.read in
    let types : types_view c.types.result.now ≡ ds.types = c.types.ensures ∙ ap (λ (d : Declarations). d.types) c.schema-schema.ensures in
    elim (is_part_memory c.in-Err-apply_all.fault) [
      | inl is ↦ subst (ChangesBare g.R.RuleSet.meaning ds c.args.now parts c.args.done) (sym (c.unmade.ensures.memory is)) (bare_memory g.R.RuleSet.meaning ds c.args.now parts c.args.done)
      | inr other ↦
          let stops : steps_made ds.types 0 (map (staged ds.types ds.forms) parts) [] ≡ Err (c.in-Err-apply_all.part, c.in-Err-apply_all.fault) = rw (read.1, types, c.new-pending.ensures) at (c.in-Err-apply_all.ensures.made other) in
          subst (ChangesBare g.R.RuleSet.meaning ds c.args.now parts c.args.done) (sym (c.unmade.ensures.other other))
          (bare_unmade g.R.RuleSet.meaning ds c.args.now parts c.args.done read.0 (c.in-Err-apply_all.part, c.in-Err-apply_all.fault) stops)
    ]

pub judged-requires-clause-typed : goal.judged-requires-clause-typed
judged-requires-clause-typed g c =
    let ds = c.args.book.now in
    let fits = rw (c.in-Ok-Some.field-0-is, c.schema-schema.ensures) at c.in-Ok-Some.ensures.fits in
    let types : types_view c.types.result.now ≡ ds.types = c.types.ensures ∙ ap (λ (d : Declarations). d.types) c.schema-schema.ensures in
    let keeps : Keeps ds.types (map step_view c.in-Ok-Some.steps.items) [] (pending_view c.apply_all.new.pending) = rw (types, c.new-pending.ensures) at c.in-Ok.ensures.keeps in
    (keeps ds.forms fits).0 tt

pub returns : goal.returns
returns g c =
    let ds = c.args.book.now in
    let parts = map part_view c.args.parts.now in
    let read = rw (c.in-Ok-Some.field-0-is, c.schema-schema.ensures) at c.in-Ok-Some.ensures.read in
    let types : types_view c.types.result.now ≡ ds.types = c.types.ensures ∙ ap (λ (d : Declarations). d.types) c.schema-schema.ensures in
    let way = pending_view c.apply_all.new.pending in
    let goes : steps_made ds.types 0 (map (staged ds.types ds.forms) parts) [] ≡ Ok way = rw (read.1, types, c.new-pending.ensures) at c.in-Ok.ensures.made in
    bare_judged g.R.RuleSet.meaning ds c.args.now parts c.args.done read.0 way goes _ (rw (to_z-of_z w64 c.args.now c.ranges.now) at c.judged.ensures)
