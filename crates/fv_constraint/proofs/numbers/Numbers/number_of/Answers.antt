use Rattle.std.proofs.Common.{◌≡◌, ◌∙◌, map, length, option_map, sym, ap, arith}
use Rattle.std.specs.Option.{unwrap_or}
use Rattle.std.proofs.lemmas.List.{length-map}
use Rattle.fv_declare_definition.specs.Definitions.{Definitions}
use Rattle.fv_declare_definition.specs.DefinitionViews.{definition_entry}
use Rattle.fv_constraint.specs.Numbered.{number_of}
use Rattle.fv_constraint.proofs.Numbering.{number_declared}
use Rattle.fv_constraint.proofs.Placing.{place_found}
use Rattle.fv_constraint.proofs.numbers.Numbers.number_of.Goals as goal

pub returns-in-Some : goal.returns-in-Some
returns-in-Some c =
    let ds : Definitions = map definition_entry c.self.inside.definitions.now.entries in
    let name = c.args.name.now in
    let found = place_found ds name c.self.inside.places.entries c.get.result c.get.ensures.value c.self.invariant in
    let at = number_declared ds name (sym c.is_builtin.ensures ∙ c.if-is_builtin.false) in
    sym (ap (λ o. unwrap_or (option_map (λ n. n.now) o) (length ds)) c.in-Some.is) ∙ found ∙ sym at ∙ ap (λ (es : Definitions). number_of es name) c.self.view_is

pub returns-in-None : goal.returns-in-None
returns-in-None c =
    let ds : Definitions = map definition_entry c.self.inside.definitions.now.entries in
    let name = c.args.name.now in
    let found = place_found ds name c.self.inside.places.entries c.get.result c.get.ensures.value c.self.invariant in
    let at = number_declared ds name (sym c.is_builtin.ensures ∙ c.if-is_builtin.false) in
    let long = length-map c.self.inside.definitions.now.entries definition_entry in
    let count : c.len-count.result ≡ length ds = omega (arith, c.len-count.ensures.len, long) in
    count ∙ sym (ap (λ o. unwrap_or (option_map (λ n. n.now) o) (length ds)) c.in-None.is) ∙ found ∙ sym at ∙ ap (λ (es : Definitions). number_of es name) c.self.view_is
