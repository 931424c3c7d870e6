use Rattle.std.proofs.Common.{◌≡◌, Some, option_map, sym, ap, ◌∙◌}
use Rattle.std.specs.List.Sorted.{IsStrictlySortedBy}
use Rattle.fv_datum.specs.Lookup.{at_name}
use Rattle.fv_bundle.specs.Types.{fields_view}
use Rattle.fv_model.specs.Reading.{has_flaw}
use Rattle.fv_model.specs.Views.{types_view}
use Rattle.fv_model.proofs.faults.part_flaws.Goals as goal

pub returns-in-None-given-clause-ascending : goal.returns-in-None-given-clause-ascending
unfolding IsStrictlySortedBy
returns-in-None-given-clause-ascending c =
    let found : at_name c.args.part.now.type_name.now (types_view c.args.types.now) ≡ Some (fields_view c.in-Some.fields.now) = sym c.fields.ensures ∙ ap (option_map (λ m. fields_view m.now)) c.in-Some.is in
    rw (found, c.in-None-given.is) tt

pub returns-in-Some-given-clause-told : goal.returns-in-Some-given-clause-told
unfolding has_flaw
returns-in-Some-given-clause-told c =
    let found : at_name c.args.part.now.type_name.now (types_view c.args.types.now) ≡ Some (fields_view c.in-Some.fields.now) = sym c.fields.ensures ∙ ap (option_map (λ m. fields_view m.now)) c.in-Some.is in
    rw (found, c.in-Some-given.is, ← c.args.draft.now.known) c.flaws_among.ensures.told
