use Rattle.std.proofs.Common.{◌≡◌, ◌≤◌, ◌∙◌, ℕ, List, Some, length, arith, map, string_bytes, bytes_eq, position, sym, ap}
use Rattle.std.specs.Map.{keys_of}
use Rattle.fv_datum.specs.Data.{Data}
use Rattle.fv_datum.specs.View.{view}
use Rattle.fv_bundle.specs.Types.{use_view, name_at}
use Rattle.fv_datum.proofs.Lookups.{position-map}
use Rattle.fv_bundle.specs.Bundles.{Thing}
use Rattle.fv_bundle.specs.Views.{types_view}
use Rattle.fv_bundle.specs.declared.bundle.Object.{Object}
use Rattle.fv_bundle.proofs.Put.{put_at, put_past, put_none}
use Rattle.fv_bundle.proofs.bundle.Object.put.Goals as goal

-- the object's type with these fields
abbrev with_fields : Object → List (List ℕ × Data) → Thing
with_fields o fields = record { type_name = name_at (types_view o.types) o.type_id.index; fields = fields }

pub returns-then-index-len : goal.returns-then-index-len
returns-then-index-len c =
    let name = c.args.field.now in
    let es = c.declared.result.now.entries in
    let place : position (bytes_eq name) (keys_of (map use_view es)) ≡ Some c.in-Some.index =
    position-map (bytes_eq name) (λ f. f.0) (map use_view es) ∙ position-map (λ f. bytes_eq name f.0) use_view es
    ∙ sym (c.in-Some.ensures.index ∙ position-map (λ k. bytes_eq name (string_bytes k)) (λ e. e.0) es) in
    rw (← c.declared.ensures) (ap (with_fields c.args.self.now) (put_at name (keys_of (map use_view es)) c.args.self.now.data.items c.in-Some.index c.args.datum place))

pub returns-else-index-len : goal.returns-else-index-len
returns-else-index-len c =
    let name = c.args.field.now in
    let es = c.declared.result.now.entries in
    let place : position (bytes_eq name) (keys_of (map use_view es)) ≡ Some c.in-Some.index =
    position-map (bytes_eq name) (λ f. f.0) (map use_view es) ∙ position-map (λ f. bytes_eq name f.0) use_view es
    ∙ sym (c.in-Some.ensures.index ∙ position-map (λ k. bytes_eq name (string_bytes k)) (λ e. e.0) es) in
    let held = c.args.self.now.data in
    let over : length held.items ≤ c.in-Some.index = omega (arith, c.len.ensures, held.ok.0, c.if-index-len.false) in
    rw (← c.declared.ensures) (ap (with_fields c.args.self.now) (put_past name (keys_of (map use_view es)) held.items c.in-Some.index c.args.datum place over))

pub returns-in_default : goal.returns-in_default
returns-in_default c =
    let es = c.declared.result.now.entries in
    rw (← c.declared.ensures) (ap (with_fields c.args.self.now) (sym (put_none c.args.field.now es (map view c.args.self.now.data.items) (λ _. view c.args.datum) c.in_default.ensures.found)))
