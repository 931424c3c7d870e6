-- What is asked of an array by its number of items.
use Rattle.std.proofs.Common.{◌≡◌, ℕ, List, Bool, length, if◌then◌else◌, Some, sym, ap, ◌∙◌}
use Rattle.serde_json.specs.Data as json
use Rattle.serde_json.specs.Find.{as_array}
use Rattle.serde_json.specs.View.{items_view}
use Rattle.serde_json.specs.declared.value.Value.{Value}
use Rattle.fv_datum.proofs.Values.{array_is, length-items}
use Rattle.fv_form.specs.Commands.{counted_form}
use Rattle.fv_form.specs.Misfits.{items, unfit}
use Rattle.fv_form.specs.declared.form_name.FormName.{FormName}

pub counted_at : (test : ℕ → Bool) (h : FormName) (j : json.Data) (vs : List Value) (b : Bool) → Some (items_view vs) ≡ as_array j → b ≡ test (length vs)
    → (if b then items h else unfit) ≡ counted_form test h j
counted_at test h j vs b is fits =
    ap (λ b. if b then items h else unfit) (fits ∙ ap test (sym (length-items vs))) ∙ sym (ap (counted_form test h) (array_is j (items_view vs) is))
