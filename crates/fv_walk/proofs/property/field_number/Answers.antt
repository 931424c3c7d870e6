use Rattle.std.proofs.Common.{◌≡◌, ℕ, List, Some, String, string_bytes, bytes_eq, position, sym, ap, ◌∙◌}
use Rattle.std.specs.Option.{option_and_then}
use Rattle.std.specs.declared.alloc.Global.{Global}
use Rattle.fv_datum.specs.Lookup.{at_name}
use Rattle.fv_bundle.specs.Views.{types_view, object_view}
use Rattle.fv_datum.proofs.Lookups.{position-map}
use Rattle.fv_bundle.specs.Types.{TypeUse, use_view, fields_view}
use Rattle.fv_bundle.specs.declared.type_use.TypeUse as code
use Rattle.fv_walk.proofs.property.field_number.Goals as goal

pub returns : goal.returns
returns c =
    let name = c.args.field.now in
    let es = c.in_ok-fields.field-0.now.entries in
    let declared : Some (fields_view c.in_ok-fields.field-0.now) ≡ at_name (object_view c.args.object.now).type_name (types_view c.args.types.now) = rw c.type_name.ensures at c.in_ok-fields.ensures in
    c.get_index_of.ensures.index
    ∙ position-map (λ (k : String Global). bytes_eq name (string_bytes k)) (λ (e : String Global × code.TypeUse). e.0) es
    ∙ sym (position-map (λ (f : List ℕ × TypeUse). bytes_eq name f.0) use_view es)
    ∙ ap (λ (o : _). option_and_then (position (λ (f : List ℕ × TypeUse). bytes_eq name f.0)) o) declared
