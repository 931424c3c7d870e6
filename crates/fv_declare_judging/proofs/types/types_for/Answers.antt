use Rattle.std.proofs.Common.{◌≡◌, map, string_bytes, ap, ◌∙◌, arith}
use Rattle.fv_bundle.specs.Types.{type_view as entry_view, fields_view}
use Rattle.fv_declare_judging.specs.Types.{field_declared, type_declared}
use Rattle.fv_declare_draft.specs.DraftViews.{field_view, type_view}
use Rattle.fv_datum.proofs.Inserted.{insert_names, insert_entries, all_made}
use Rattle.fv_declare_judging.proofs.types.types_for.Goals as goal

pub loop-given-preserved : goal.loop-given-preserved
loop-given-preserved c =
    let l = c.loop-given in
    let t = c.given-item.result in
    let fields = c.in_ok-fields.fields in
    let is : string_bytes c.in_ok-from_str.field-0 ≡ t.name.now = grind (arith, c.in_ok-from_str.ensures) in
    let same : fields_view fields ≡ map field_declared (map field_view t.fields.items) = c.in_ok-fields.ensures ∙ ap (λ fs. map field_declared (map field_view fs)) c.deref.ensures.value in
    record {
      names = insert_names (λ x. x.name.now) c.args.types.now l.given-index t l.declared.entries c.insert.new.self.entries c.in_ok-from_str.field-0 fields (omega arith) c.given-item.is c.requires l.invariant.names is c.in_ok-insert.ensures.entries;
      made = insert_entries (λ x. x.name.now) c.args.types.now l.given-index t l.declared.entries c.insert.new.self.entries c.in_ok-from_str.field-0 fields (omega arith) c.given-item.is c.requires l.invariant.names is c.in_ok-insert.ensures.entries
          entry_view (λ x. type_declared (type_view x)) (ap (λ n. (n, fields_view fields)) is ∙ ap (λ fs. (t.name.now, fs)) same) l.invariant.made;
    }

pub returns : goal.returns
returns c = all_made type_view type_declared c.args.types.now c.loop-given.given-index _ (omega arith) c.loop-given.invariant.made
