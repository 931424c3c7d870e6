use Rattle.std.proofs.Common.{◌≡◌, ◌∙◌, Some, None, map, slice_get, string_bytes, sym, ap}
use Rattle.std.specs.Map.{keys_of}
use Rattle.std.specs.Option.{option_zip}
use Rattle.fv_datum.specs.View.{view}
use Rattle.fv_bundle.specs.Types.{fields_view}
use Rattle.fv_datum.proofs.Lookups.{slice_get-zip, seen_at, seen_past}
use Rattle.fv_bundle.proofs.Lookups.{name_placed}
use Rattle.fv_bundle.proofs.bundle.Object.field_at.Goals as goal

pub returns-in_err-name : goal.returns-in_err-name
returns-in_err-name c =
    let i = c.args.index in
    let names = keys_of (fields_view c.declared.result.now) in
    let held = map view c.args.self.now.data.items in
    let none = name_placed c.declared.result.now.entries i None c.in_err-name.ensures.entry in
    rw (c.from_residual.ensures, ← c.declared.ensures) (sym (slice_get-zip names held i ∙ ap (λ o. option_zip o (slice_get held i)) none))

pub returns-in_err-get : goal.returns-in_err-get
returns-in_err-get c =
    let i = c.args.index in
    let names = keys_of (fields_view c.declared.result.now) in
    let held = map view c.args.self.now.data.items in
    let name = name_placed c.declared.result.now.entries i (Some (c.in_ok-name.name.now, c.in_ok-name.field-0-1.now)) c.in_ok-name.ensures.entry in
    let none : slice_get held i ≡ None = rw c.deref.ensures.value at (seen_past view c.deref.result.now i c.in_err-get.ensures.lookup.0) in
    rw (c.from_residual-in_err-get.ensures, ← c.declared.ensures) (sym (slice_get-zip names held i ∙ ap (λ o. option_zip o (slice_get held i)) name ∙ ap (λ o. option_zip (Some (string_bytes c.in_ok-name.name.now)) o) none))

pub returns : goal.returns
returns c =
    let i = c.args.index in
    let names = keys_of (fields_view c.declared.result.now) in
    let held = map view c.args.self.now.data.items in
    let name = name_placed c.declared.result.now.entries i (Some (c.in_ok-name.name.now, c.in_ok-name.field-0-1.now)) c.in_ok-name.ensures.entry in
    let datum : slice_get held i ≡ Some (view c.in_ok-get.field-0.now) = rw c.deref.ensures.value at (seen_at view c.deref.result.now i c.in_ok-get.field-0.now c.in_ok-get.ensures.lookup.3.0 c.in_ok-get.ensures.lookup.1) in
    rw (c.as_str.ensures.value, ← c.declared.ensures) (sym (slice_get-zip names held i ∙ ap (λ o. option_zip o (slice_get held i)) name ∙ ap (λ o. option_zip (Some (string_bytes c.in_ok-name.name.now)) o) datum))
