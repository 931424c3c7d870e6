use Rattle.std.proofs.Common.{◌≡◌, true, false, Ok, is_some, sym, ap, ◌∙◌, rules}
use Rattle.std.specs.Option.{ok_or}
use Rattle.serde_json.specs.Find.{as_object}
use Rattle.serde_json.specs.View.{view as json_view}
use Rattle.serde_json.specs.Written.{has_float}
use Rattle.fv_store_upgrade.specs.declared.fault.UpgradeFault.TheVariants.{Damaged}
use Rattle.fv_store_upgrade.proofs.Fields.{no_fields, broken_fields, whole_fields}
use Rattle.fv_store_upgrade.proofs.writing.fields_text.Goals as goal

pub returns-then-not-is_object : goal.returns-then-not-is_object
returns-then-not-is_object c = λ _. ap (λ o. ok_or o Damaged) (no_fields (json_view c.args.value.now) (search rules))

pub returns-then-has_float : goal.returns-then-has_float
returns-then-has_float c = λ _. ap (λ o. ok_or o Damaged) (broken_fields (json_view c.args.value.now) (search rules) (search rules))

pub returns : goal.returns
returns c =
    let whole : has_float (json_view c.args.value.now) ≡ false = search rules in
    ap (λ o. ok_or o Damaged) (whole_fields (json_view c.args.value.now) (search rules) whole)
    ∙ ap Ok (sym (c.in_ok-to_string.ensures.text whole))
