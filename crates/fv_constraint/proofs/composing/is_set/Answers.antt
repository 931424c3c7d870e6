use Rattle.std.proofs.Common.{◌≡◌, false, is_some, string_bytes, sym, ap, ◌∙◌}
use Rattle.fv_datum.proofs.Lookups.{tree-at_name}
use Rattle.fv_datum.specs.Attributes.{attribute_view}
use Rattle.fv_datum.specs.Lookup.{at_name}
use Rattle.fv_constraint.proofs.Signatures.{is_some-map}
use Rattle.fv_constraint.proofs.composing.is_set.Goals as goal

pub returns-else-is_some : goal.returns-else-is_some
returns-else-is_some c =
    let name = c.args.name.now in
    let composing = c.args.composing.now in
    let none : is_some (at_name name composing.with) ≡ false =
    ap is_some (sym c.find.ensures) ∙ is_some-map (λ a. attribute_view a.now) c.find.result ∙ sym c.is_some.ensures ∙ c.if-is_some.false in
    let overridden = sym (is_some-map string_bytes _) ∙ ap is_some (tree-at_name string_bytes name composing.overrides.entries) in
    rw none (c.contains_key.ensures ∙ overridden)
