use Rattle.std.proofs.Common.{map, option_map, Option, sym, subst, ap, ◌∙◌}
use Rattle.std.proofs.lemmas.Int.{to_z-of_z}
use mir.Syntax.{w64}
use Rattle.serde_json.specs.View.{view as json_view}
use Rattle.fv_datum.specs.Data.{Data}
use Rattle.fv_datum.specs.View.{view}
use Rattle.fv_declare_schema.specs.Declarations.{Declarations}
use Rattle.fv_engine_machine.specs.Keeping.{ChecksField, IsReadAt, valued_by}
use Rattle.fv_engine_reply.specs.Answers.{value_checked}
use Rattle.fv_engine_reply.specs.AnswerView.{answer_view}
use Rattle.fv_bundle.specs.Types.{Declared}
use Rattle.fv_engine_machine.proofs.OneField.{lent, value_done}
use Rattle.fv_engine_machine.proofs.fields.check_value.Goals as goal

pub returns-in-Ok : goal.returns-in-Ok
returns-in-Ok g c x declared =
    let m = g.R.RuleSet.meaning in
    let book = c.args.book.now in
    let names = map (λ n. n.now) c.args.names.now in
    let type = c.args.at.now.type_name.now in
    let field = c.args.at.now.field.now in
    let answer = answer_view c.datum_checked.result in
    let found = option_map view c.in-Ok.datum in
    let at = subst (λ (ts : Declared). IsReadAt ts type field (json_view c.args.value.now) found) (c.types.ensures ∙ ap (λ (d : Declarations). d.types) (c.schema.ensures ∙ sym declared)) c.in-Ok.ensures in
    let told = rw (to_z-of_z w64 c.args.now c.ranges.now) at c.datum_checked.ensures in
    let seen = subst (λ (o : Option Data). ChecksField m book c.args.now (valued_by book.types type field o) field names value_checked answer) (lent view c.as_ref.result c.in-Ok.datum c.as_ref.ensures.value) told in
    value_done m c.args.now type field (json_view c.args.value.now) names x found at answer
    (subst (λ (ds : Declarations). ChecksField m ds c.args.now (valued_by ds.types type field found) field names value_checked answer) (sym declared) seen)
