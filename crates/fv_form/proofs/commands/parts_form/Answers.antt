use Rattle.std.proofs.Common.{◌≡◌, length, Some, ◌&&◌, nat_lt, nat_le, ap, ◌∙◌, rules}
use Rattle.serde_json.specs.Find.{as_array}
use Rattle.serde_json.specs.View.{view as json_view, items_view}
use Rattle.fv_form.specs.declared.form_name.FormName.TheVariants.{Part}
use Rattle.fv_form.proofs.Counted.{counted_at}
use Rattle.fv_form.proofs.commands.parts_form.Goals as goal

pub returns-in-Some : goal.returns-in-Some
returns-in-Some c =
    let vs = c.in-Some.parts.now.items in
    let is : Some (items_view vs) ≡ as_array (json_view c.args.value.now) = search rules in
    let size : c.len.result ≡ length vs = search rules in
    c.counted.ensures ∙ counted_at (λ n. nat_lt 0 n && nat_le n 64) Part (json_view c.args.value.now) vs c.is_batch.result is (c.is_batch.ensures ∙ ap (λ n. nat_lt 0 n && nat_le n 64) size)
