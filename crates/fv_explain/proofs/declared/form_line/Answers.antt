use Rattle.std.proofs.Common.{◌≡◌, ◌∙◌, List, ap}
use Rattle.fv_bundle.specs.Types.{Declared, name_at}
use Rattle.fv_declare_schema.specs.Groups.{Groups}
use Rattle.fv_declare_schema.specs.Tables.{indices}
use Rattle.fv_declare_schema.specs.declared.declared.GroupId.{GroupId}
use Rattle.fv_explain.specs.Explained.{group_names}
use Rattle.fv_explain.specs.Lines.{names_in, reached_text}
use Rattle.fv_explain.proofs.Forms.{form_line_is}
use Rattle.fv_explain.proofs.declared.form_line.Goals as goal

pub returns : goal.returns
returns c =
    let s = c.args.schema.now in
    let form = c.args.form.now in
    let root : c.name.result.now ≡ name_at s.types form.root.index =
    c.name.ensures ∙ ap (λ (ts : Declared). name_at ts form.root.index) c.types-types.ensures in
    let groups : names_in c.in_ok-names_of.field-0.items ≡ group_names s.groups (indices form.groups.items) =
    c.in_ok-names_of.ensures ∙ ap (λ (gs : Groups). group_names gs (indices c.deref.result.now)) c.groups.ensures
    ∙ ap (λ (numbers : List GroupId). group_names s.groups (indices numbers)) c.deref.ensures.value in (
      reached_text (names_in c.in_ok-collect.field-0.items) (names_in c.in_ok-collect-2.field-0.items),
      form_line_is c.args.name.now _ _ _ _ _ root groups,
    )
