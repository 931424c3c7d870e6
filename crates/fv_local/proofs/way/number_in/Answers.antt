use Rattle.std.proofs.Common.{◌≡◌, ℕ, List, string_bytes, bytes_eq, sym, ◌∙◌}
use Rattle.fv_bundle.specs.Bundles.{Thing}
use Rattle.fv_bundle.specs.Views.{named_view}
use Rattle.fv_datum.proofs.Lookups.{position-map}
use Rattle.fv_local.proofs.way.number_in.Goals as goal

pub returns : goal.returns
returns c =
    let es = c.args.objects.now.entries in
    let name = c.args.name.now in
    c.get_index_of.ensures.index
    ∙ position-map (λ k. bytes_eq name (string_bytes k)) (λ e. e.0) es
    ∙ sym (position-map (λ (o : List ℕ × Thing). bytes_eq name o.0) named_view es)
