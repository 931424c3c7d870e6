use Rattle.std.proofs.Common.{◌≡◌, Some, None, option_map, string_bytes, bytes_eq, sym, ap, ◌∙◌}
use Rattle.std.proofs.lemmas.Option.{slice_get-map}
use Rattle.std.specs.Map.{lookup, lookup_key}
use Rattle.fv_bundle.specs.Types.{fields_view, type_view}
use Rattle.fv_datum.proofs.Lookups.{lookup-at_name, key_named}
use Rattle.fv_bundle.proofs.types.Types.find_with_fields.Goals as goal

pub returns-in_err-index-clause-found : goal.returns-in_err-index-clause-found
returns-in_err-index-clause-found c =
    let es = c.args.self.now.declared.value.entries in
    let none : None ≡ lookup (λ k. bytes_eq c.args.name.now (string_bytes k)) es = rw c.deref.ensures at c.in_err-index.ensures.value in
    rw c.from_residual.ensures (ap (option_map fields_view) none ∙ lookup-at_name fields_view c.args.name.now es)

pub returns-clause-found : goal.returns-clause-found
returns-clause-found c =
    let es = c.args.self.now.declared.value.entries in
    let found : Some c.in_ok-index.fields.now ≡ lookup (λ k. bytes_eq c.args.name.now (string_bytes k)) es = rw c.deref.ensures at c.in_ok-index.ensures.value in
    ap (option_map fields_view) found ∙ lookup-at_name fields_view c.args.name.now es

pub returns-clause-placed : goal.returns-clause-placed
returns-clause-placed c =
    let es = c.args.self.now.declared.value.entries in
    let key = c.in_ok-index.field-0-1.now in
    let found : Some key ≡ lookup_key (λ k. bytes_eq c.args.name.now (string_bytes k)) es = rw c.deref.ensures at c.in_ok-index.ensures.key in
    slice_get-map type_view es c.in_ok-index.index ∙ ap (option_map type_view) (rw c.deref.ensures at c.in_ok-index.ensures.entry)
    ∙ ap (λ n. Some (n, fields_view c.in_ok-index.fields.now)) (key_named c.args.name.now es key (sym found))
