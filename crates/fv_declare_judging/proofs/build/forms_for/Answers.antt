use Rattle.std.proofs.Common.{◌≡◌, map, Some, None, not, is_some, true, false, string_bytes, option_map, sym, ap, ◌∙◌, true≢false, arith}
use Rattle.fv_bundle.specs.Types.{number_of_type, name_at}
use Rattle.fv_bundle.specs.TypesView.{types_view}
use Rattle.fv_declare_judging.specs.Schemas.{form_declared, form_grouped}
use Rattle.fv_declare_draft.specs.DraftViews.{form_view}
use Rattle.fv_declare_schema.specs.SchemaView.{form_entry, form_groups_entry}
use Rattle.fv_declare_schema.specs.declared.schema.Form.{Form}
use Rattle.fv_declare_groups.specs.Numbered.{groups_named}
use Rattle.fv_declare_schema.specs.Tables.{indices}
use Rattle.fv_declare_judging.proofs.Found.{known_here, known_later, found_name}
use Rattle.fv_datum.proofs.Inserted.{insert_names, insert_entries}
use Rattle.fv_declare_judging.proofs.build.forms_for.Goals as goal

pub returns-in_default : goal.returns-in_default
returns-in_default c =
    let ts = types_view c.args.types.now in
    let l = c.loop-form in
    let fs = c.args.forms.now in
    let f = c.form-item.result in
    let at = c.form-item.is in
    let here : not (is_some (number_of_type ts f.root.now)) ≡ false = known_here ts fs l.form-index f (omega arith) at l.invariant.known in
    let none : number_of_type ts f.root.now ≡ None = sym c.find.ensures ∙ ap (option_map (λ t. t.index)) c.in_default.is in
    let no : true ≡ false = rw none at here in
    absurd (true≢false no)

pub loop-form-preserved : goal.loop-form-preserved
loop-form-preserved c =
    let ts = types_view c.args.types.now in
    let l = c.loop-form in
    let fs = c.args.forms.now in
    let f = c.form-item.result in
    let at = c.form-item.is in
    let made : Form = record { root = c.in-Some.root; groups = c.in_ok-groups.groups } in
    let gs = c.args.groups.now in
    let is : string_bytes c.in_ok-from_str.field-0 ≡ f.name.now = grind (arith, c.in_ok-from_str.ensures) in
    let found : number_of_type ts f.root.now ≡ Some made.root.index = sym c.find.ensures ∙ ap (option_map (λ t. t.index)) c.in-Some.is in
    let same : name_at ts made.root.index ≡ f.root.now = found_name ts f.root.now made.root.index found in
    let named : indices made.groups.items ≡ groups_named gs (form_view f).groups = c.in_ok-groups.ensures ∙ ap (λ ns. groups_named gs (map (λ n. n.now) ns)) c.deref.ensures.value in
    record {
      names = insert_names (λ x. x.name.now) fs l.form-index f l.declared.entries c.insert.new.self.entries c.in_ok-from_str.field-0 made (omega arith) at c.requires.ascend l.invariant.names is c.in_ok-insert.ensures.entries;
      made = insert_entries (λ x. x.name.now) fs l.form-index f l.declared.entries c.insert.new.self.entries c.in_ok-from_str.field-0 made (omega arith) at c.requires.ascend l.invariant.names is c.in_ok-insert.ensures.entries
          (form_entry ts) (λ x. form_declared (form_view x)) (ap (λ n. (n, name_at ts made.root.index)) is ∙ ap (λ r. (f.name.now, r)) same) l.invariant.made;
      grouped = insert_entries (λ x. x.name.now) fs l.form-index f l.declared.entries c.insert.new.self.entries c.in_ok-from_str.field-0 made (omega arith) at c.requires.ascend l.invariant.names is c.in_ok-insert.ensures.entries
          form_groups_entry (λ x. form_grouped gs (form_view x)) (ap (λ n. (n, indices made.groups.items)) is ∙ ap (λ ns. (f.name.now, ns)) named) l.invariant.grouped;
      known = known_later ts fs l.form-index f (omega arith) at l.invariant.known;
    }
