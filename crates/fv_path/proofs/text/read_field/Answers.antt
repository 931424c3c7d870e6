use Rattle.std.proofs.Common.{refl, sym, ap, ◌∙◌}
use Rattle.std.proofs.lemmas.Bool.{both_ways}
use Rattle.std.proofs.lemmas.List.Sums.{prefix_len-le-length}
use Rattle.fv_datum.specs.Name.{names, continues_name}
use Rattle.fv_path.proofs.Fronts.{field_begins, field_missing}
use Rattle.fv_path.proofs.text.read_field.Goals as goal
use Rattle.fv_path.proofs.text.read_field.Goals.{in_default-via-in-Ok+else-is_name, in_default-via-in_default}

pub split_at-requires : goal.split_at-requires
split_at-requires c = rw c.name_len.ensures (prefix_len-le-length continues_name c.args.text.now)

pub returns-in_ok-from_str-in-Ok : goal.returns-in_ok-from_str-in-Ok
returns-in_ok-from_str-in-Ok c =
    let named = c.new-name.ensures ∙ c.in_ok-from_str-in-Ok.ensures.ok in
    let front = named ∙ c.in-Ok.ensures.cases.0 ∙ c.split_at.ensures.front in
    let ok = ap names named ∙ sym c.is_name.ensures ∙ c.if-is_name.true in
    (refl, field_begins c.args.text.now c.new-name.result c.split_at.result.1.now c.name_len.result c.name_len.ensures front c.split_at.ensures.back ok)

pub returns-in_default : goal.returns-in_default
returns-in_default c = field_missing c.args.text.now c.split_at.result.0.now c.name_len.result c.name_len.ensures c.split_at.ensures.front (λ utf8 ok. elim c.in_default.branch [
  | in_default-via-in-Ok+else-is_name w ↦ both_ways w.is_name.result w.if-is_name.false (w.is_name.ensures ∙ ap names w.in-Ok.ensures.cases.0 ∙ ok)
  | in_default-via-in_default w ↦ w.in_default.ensures.cases.0 utf8
])
