use Rattle.std.proofs.Common.{◌≡◌, ◌<◌, length, map, IfOk, ap, subst, ◌∙◌}
use Rattle.std.specs.List.{All}
use Rattle.std.proofs.lemmas.Int.{to_z-of_z}
use mir.Syntax.{w64}
use Rattle.fv_declare_schema.specs.Declarations.{Declarations}
use Rattle.fv_declare_schema.specs.Tables.{indices}
use Rattle.fv_declare_schema.specs.declared.declared.GroupId.{GroupId}
use Rattle.fv_engine_pending.specs.Judging.{groups_of}
use Rattle.fv_engine_pending.proofs.Judged.{for_groups}
use Rattle.fv_store.specs.Stored.{stored_view}
use Rattle.fv_validate.specs.ViolationView.{violation_view}
use Rattle.fv_validate.specs.Violations.{IsListing}
use Rattle.fv_engine_pending.proofs.judging.judge_record.Goals as goal

pub returns : goal.returns
returns g c =
    let ds = c.args.book.now in
    let kept = stored_view c.args.stored.now in
    let gs = indices c.asked_by.result.now in
    let asked : gs ≡ groups_of ds kept.form = subst (λ (d : Declarations). gs ≡ groups_of d kept.form) c.schema.ensures (c.asked_by.ensures.groups ∙ ap (groups_of c.schema.result.now) c.as_str.ensures.value) in
    let listing : IfOk c.validate.result (λ v. IsListing g.R.RuleSet.meaning ds c.args.now kept.bundle gs (map violation_view v.items)) = rw (to_z-of_z w64 c.args.now c.ranges.now) at c.validate.ensures.listing in
    for_groups g.R.RuleSet.meaning ds c.args.now kept (λ v. map violation_view v.items) gs c.validate.result asked listing c.validate.ensures.few c.validate.ensures.many c.validate.ensures.known c.validate.ensures.no_field

pub validate-requires-clause-asked : goal.validate-requires-clause-asked
validate-requires-clause-asked g c = subst (λ (d : Declarations). All (λ (h : GroupId). h.index < length d.groups) c.asked_by.result.now) c.schema.ensures c.asked_by.ensures.within
