use Rattle.std.proofs.Common.{◌≡◌, ◌∙◌, Some, map, string_bytes, bytes_eq, position, sym}
use Rattle.std.specs.Map.{keys_of}
use Rattle.fv_datum.specs.View.{view}
use Rattle.fv_bundle.specs.Types.{use_view}
use Rattle.fv_datum.proofs.Lookups.{position-map, beside, seen_option}
use Rattle.fv_bundle.proofs.Lookups.{none_beside}
use Rattle.fv_bundle.proofs.bundle.Object.field.Goals as goal

pub returns-in_err-index : goal.returns-in_err-index
returns-in_err-index c =
    rw (c.from_residual.ensures, ← c.declared.ensures)
    (sym (none_beside c.args.name.now c.declared.result.now.entries (map view c.args.self.now.data.items) c.in_err-index.ensures.found))

pub returns : goal.returns
returns c =
    let name = c.args.name.now in
    let es = c.declared.result.now.entries in
    let held = c.args.self.now.data.items in
    let place : position (bytes_eq name) (keys_of (map use_view es)) ≡ Some c.in_ok-index.index =
    position-map (bytes_eq name) (λ f. f.0) (map use_view es) ∙ position-map (λ f. bytes_eq name f.0) use_view es
    ∙ sym (c.in_ok-index.ensures.index ∙ position-map (λ k. bytes_eq name (string_bytes k)) (λ e. e.0) es) in
    rw (← c.declared.ensures) (seen_option view held c.in_ok-index.index c.get.result (rw c.deref.ensures.value at c.get.ensures.lookup) ∙ sym (beside name (keys_of (map use_view es)) (map view held) c.in_ok-index.index place))
