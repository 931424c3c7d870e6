use Rattle.std.proofs.Common.{ap, sym, ◌∙◌}
use Rattle.fv_builtin.specs.Views.{answer_view}
use Rattle.fv_builtin.specs.declared.fault.BuiltinFault.TheVariants.{Attribute, UnexpectedType}
use Rattle.fv_constraint.specs.Meanings.{builtin}
use Rattle.fv_flatten.proofs.Readings.{not_other, refused_as}
use Rattle.fv_datum.proofs.Bools.{not_false}
use Rattle.fv_constraint_tree.specs.TargetViews.{target_view}
use Rattle.fv_flatten.specs.Refusals.{refuses_place}
use Rattle.fv_flatten.proofs.nodes.builtin_test.Goals as goal

pub unreachable-requires-in-Err-Attribute : goal.unreachable-requires-in-Err-Attribute
unreachable-requires-in-Err-Attribute c =
    let taken = not_false _ (sym (ap (λ p. refuses_place c.requires.place.0 (builtin c.args.which) (target_view p)) c.in-Data.is) ∙ c.requires.place.1) in
    not_other c.args.which c.args.given.now c.in-Data.kind Attribute (answer_view c.read_named.result) c.requires.attributes taken tt
    (refused_as c.read_named.result c.in-Err-Attribute.field-0 Attribute c.in-Err-Attribute.is c.in-Err-Attribute.field-0-is) c.read_named.ensures

pub unreachable-requires-in-Err-UnexpectedType : goal.unreachable-requires-in-Err-UnexpectedType
unreachable-requires-in-Err-UnexpectedType c =
    let taken = not_false _ (sym (ap (λ p. refuses_place c.requires.place.0 (builtin c.args.which) (target_view p)) c.in-Data.is) ∙ c.requires.place.1) in
    not_other c.args.which c.args.given.now c.in-Data.kind UnexpectedType (answer_view c.read_named.result) c.requires.attributes taken tt
    (refused_as c.read_named.result c.in-Err-UnexpectedType.field-0 UnexpectedType c.in-Err-UnexpectedType.is c.in-Err-UnexpectedType.field-0-is) c.read_named.ensures
