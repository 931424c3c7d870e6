use Rattle.std.proofs.Common.{◌≡◌, ◌<◌, List, [], ◌∷◌, length, Some, sym, ap, rules, arith}
use Rattle.serde_json.specs.Data as json
use Rattle.serde_json.specs.Find.{as_array}
use Rattle.serde_json.specs.View.{view as json_view, items_view}
use Rattle.serde_json.specs.declared.value.Value.{Value}
use Rattle.fv_datum.proofs.Values.{array_is}
use Rattle.fv_form.specs.Declarations.{sequence_form}
use Rattle.fv_form.specs.Misfits.{items}
use Rattle.fv_form.specs.declared.form_name.FormName.TheVariants.{Text}
use Rattle.fv_form.proofs.asking.sequence_form.Goals as goal

several : (j : json.Data) (vs : List Value) → Some (items_view vs) ≡ as_array j → 0 < length vs → items Text ≡ sequence_form j
several j [] is some = absurd (omega (arith, some))
several j (v ∷ vs) is some = sym (ap sequence_form (array_is j (items_view (v ∷ vs)) is))

pub returns-else-is_empty : goal.returns-else-is_empty
returns-else-is_empty c =
    let is : Some (items_view c.in-Some.names.now.items) ≡ as_array (json_view c.args.value.now) = search rules in
    let some : 0 < length c.in-Some.names.now.items = grind (arith, c.is_empty.ensures, c.if-is_empty.false) in
    several (json_view c.args.value.now) c.in-Some.names.now.items is some
