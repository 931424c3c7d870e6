-- A place is found exactly where a value isn't read.
use Rattle.std.proofs.Common.{◌≡◌, IfOk, Bool, Option, Some, None, Result, Ok, Err, not, is_some, option_map, refl, ap, ◌∙◌}
use Rattle.serde_json.specs.Data as json
use Rattle.fv_form.specs.Asked.{asked}
use Rattle.fv_form.specs.Misfits.{Misfit, first_misfit}
use Rattle.fv_form.specs.declared.form_name.FormName.{FormName}
use Rattle.fv_form.proofs.Written.{is_kept}

seen : {X Y : Type 0} (view : X → Y) (o : Option X) → is_some o ≡ is_some (option_map view o)
seen view None = refl
seen view (Some x) = refl

pub found_as : {X E : Type 0} (view : X → Misfit FormName) (r : Result (Option X) E) (form : FormName) (j : json.Data) (right : Bool)
    → IfOk r (λ o. option_map view o ≡ first_misfit asked form j) → is_kept form j ≡ right → IfOk r (λ o. not (is_some o) ≡ right)
found_as view (Ok o) g j right is kept = ap not (seen view o ∙ ap is_some is) ∙ kept
found_as view (Err e) g j right is kept = tt

pub found_where : {X E Z : Type 0} (view : X → Misfit FormName) (r : Result (Option X) E) (form : FormName) (j : json.Data) (read : Option Z)
    → IfOk r (λ o. option_map view o ≡ first_misfit asked form j) → is_kept form j ≡ is_some read → IfOk r (λ o. not (is_some o) ≡ is_some read)
found_where view r g j read is kept = found_as view r g j (is_some read) is kept
