use Rattle.std.proofs.Common.{◌≡◌, string_bytes, bytes_eq, position, sym, ◌∙◌}
use Rattle.std.specs.Map.{keys_of}
use Rattle.fv_bundle.specs.Types.{type_view}
use Rattle.fv_datum.proofs.Lookups.{position-map}
use Rattle.fv_bundle.proofs.types.Types.find.Goals as goal

pub returns-in-Some : goal.returns-in-Some
returns-in-Some c =
    let es = c.args.self.now.declared.value.entries in
    let index : c.get_index_of.result ≡ position (λ k. bytes_eq c.args.name.now (string_bytes k)) (keys_of es) = rw c.deref.ensures at c.get_index_of.ensures.index in
    sym c.in-Some.is ∙ index ∙ position-map (λ k. bytes_eq c.args.name.now (string_bytes k)) (λ e. e.0) es ∙ sym (position-map (λ t. bytes_eq c.args.name.now t.0) type_view es)

pub returns-in-None : goal.returns-in-None
returns-in-None c =
    let es = c.args.self.now.declared.value.entries in
    let index : c.get_index_of.result ≡ position (λ k. bytes_eq c.args.name.now (string_bytes k)) (keys_of es) = rw c.deref.ensures at c.get_index_of.ensures.index in
    sym c.in-None.is ∙ index ∙ position-map (λ k. bytes_eq c.args.name.now (string_bytes k)) (λ e. e.0) es ∙ sym (position-map (λ t. bytes_eq c.args.name.now t.0) type_view es)
