use Rattle.std.proofs.Common.{◌≡◌, None, option_map, sym, ap, ◌∙◌}
use Rattle.fv_builtin.specs.Names.{builtin_named}
use Rattle.fv_declare_definition.specs.DefinitionViews.{definition_view}
use Rattle.fv_constraint.specs.Meanings.{declared}
use Rattle.fv_datum.proofs.Lookups.{found_at}
use Rattle.fv_constraint.proofs.meant.meant_by.Goals as goal

pub returns-in-None-get : goal.returns-in-None-get
returns-in-None-get c =
    let found = found_at definition_view c.args.name.now c.args.definitions.now.entries c.get.result c.get.ensures.value in
    let none : builtin_named c.args.name.now ≡ None = sym c.builtin_named.ensures ∙ c.in-None.is in
    rw none (ap (option_map declared) (sym (ap (option_map (λ d. definition_view d.now)) c.in-None-get.is) ∙ found))

pub returns-in-Some-get : goal.returns-in-Some-get
returns-in-Some-get c =
    let found = found_at definition_view c.args.name.now c.args.definitions.now.entries c.get.result c.get.ensures.value in
    let none : builtin_named c.args.name.now ≡ None = sym c.builtin_named.ensures ∙ c.in-None.is in
    rw none (ap (option_map declared) (sym (ap (option_map (λ d. definition_view d.now)) c.in-Some-get.is) ∙ found))
