use Rattle.std.proofs.Common.{◌≡◌, length, Some, nat_le, ap, ◌∙◌, rules}
use Rattle.serde_json.specs.Find.{as_array}
use Rattle.serde_json.specs.View.{view as json_view, items_view}
use Rattle.fv_form.specs.declared.form_name.FormName.TheVariants.{Text}
use Rattle.fv_form.proofs.Counted.{counted_at}
use Rattle.fv_form.proofs.commands.groups_form.Goals as goal

pub returns-in-Some : goal.returns-in-Some
returns-in-Some c =
    let vs = c.in-Some.groups.now.items in
    let is : Some (items_view vs) ≡ as_array (json_view c.args.value.now) = search rules in
    let size : c.len.result ≡ length vs = search rules in
    c.counted.ensures ∙ counted_at (λ n. nat_le n 32) Text (json_view c.args.value.now) vs c.are_askable.result is (c.are_askable.ensures ∙ ap (λ n. nat_le n 32) size)
