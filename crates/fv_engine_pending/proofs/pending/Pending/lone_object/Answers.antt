use Rattle.std.proofs.Common.{◌≡◌, length, option_map, None, Some, ap, ◌∙◌, arith}
use Rattle.fv_bundle.specs.Views.{object_view}
use Rattle.fv_engine_pending.proofs.OneObject.{no_record, in_record}
use Rattle.fv_engine_pending.proofs.pending.Pending.lone_object.Goals as goal

pub returns-in_err-as_ref : goal.returns-in_err-as_ref
returns-in_err-as_ref c =
    let one : length c.args.self.now.records.entries ≡ 1 = grind (arith, c.len.ensures.len, c.if-len-ne1.false) in
    ap (option_map (λ p. (p.0.now, object_view p.1.now))) c.from_residual-in_err-as_ref.ensures
    ∙ no_record c.args.object.now c.args.self.now.records.entries c.in_ok-id.id.now c.in_ok-id.stored.now one c.in_ok-id.ensures.first c.in_err-as_ref.ensures.value

pub returns-in_err-there : goal.returns-in_err-there
returns-in_err-there c =
    let one : length c.args.self.now.records.entries ≡ 1 = grind (arith, c.len.ensures.len, c.if-len-ne1.false) in
    ap (option_map (λ p. (p.0.now, object_view p.1.now))) c.from_residual-in_err-there.ensures
    ∙ in_record c.args.object.now c.args.self.now.records.entries c.in_ok-id.id.now c.in_ok-id.stored.now one c.in_ok-id.ensures.first c.in_ok-as_ref.field-0.now c.in_ok-as_ref.ensures.value None c.in_err-there.ensures

pub returns : goal.returns
returns c =
    let one : length c.args.self.now.records.entries ≡ 1 = grind (arith, c.len.ensures.len, c.if-len-ne1.false) in
    in_record c.args.object.now c.args.self.now.records.entries c.in_ok-id.id.now c.in_ok-id.stored.now one c.in_ok-id.ensures.first c.in_ok-as_ref.field-0.now c.in_ok-as_ref.ensures.value (Some (object_view c.in_ok-there.there.now)) c.in_ok-there.ensures
