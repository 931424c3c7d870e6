use Rattle.std.proofs.Common.{◌≡◌, string_bytes, ap, ◌∙◌, arith}
use Rattle.fv_bundle.specs.Types.{use_view, type_use_view}
use Rattle.fv_declare_judging.specs.Types.{field_declared}
use Rattle.fv_declare_draft.specs.DraftViews.{field_view}
use Rattle.fv_datum.proofs.Inserted.{insert_names, insert_entries, all_made}
use Rattle.fv_declare_judging.proofs.types.fields_for.Goals as goal

pub loop-field-preserved : goal.loop-field-preserved
loop-field-preserved c =
    let l = c.loop-field in
    let f = c.field-item.result in
    let u = c.in_ok-type_use.type_use in
    let is : string_bytes c.in_ok-from_str.field-0 ≡ f.name.now = grind (arith, c.in_ok-from_str.ensures) in
    record {
      names = insert_names (λ x. x.name.now) c.args.fields.now l.field-index f l.uses.entries c.insert.new.self.entries c.in_ok-from_str.field-0 u (omega arith) c.field-item.is c.requires l.invariant.names is c.in_ok-insert.ensures.entries;
      made = insert_entries (λ x. x.name.now) c.args.fields.now l.field-index f l.uses.entries c.insert.new.self.entries c.in_ok-from_str.field-0 u (omega arith) c.field-item.is c.requires l.invariant.names is c.in_ok-insert.ensures.entries
          use_view (λ x. field_declared (field_view x)) (ap (λ n. (n, type_use_view u)) is ∙ ap (λ h. (f.name.now, h)) c.in_ok-type_use.ensures) l.invariant.made;
    }

pub returns : goal.returns
returns c = all_made field_view field_declared c.args.fields.now c.loop-field.field-index _ (omega arith) c.loop-field.invariant.made
