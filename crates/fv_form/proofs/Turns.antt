-- Whether some entry passes a test, seen from one of them on.
use Rattle.std.proofs.Common.{◌≡◌, ℕ, ◌+◌, ◌<◌, List, length, get_or, drop, map, Bool, ◌||◌}
use Rattle.std.specs.List.{list_any}
use Rattle.fv_datum.proofs.Lists.{any_turn}
use Rattle.fv_form.specs.Misfits as spec
use Rattle.fv_form.specs.FormViews.{entry_view}
use Rattle.fv_form.specs.declared.form_name.FormName.{FormName}
use Rattle.fv_form.specs.declared.form.Entry.{Entry}

pub entry_turn : (test : spec.Entry FormName → Bool) (xs : List Entry) (i : ℕ) (x : Entry) → i < length xs → x ≡ get_or xs i x
    → list_any test (map entry_view (drop i xs)) ≡ (test (entry_view x) || list_any test (map entry_view (drop (i + 1) xs)))
entry_turn = any_turn entry_view
