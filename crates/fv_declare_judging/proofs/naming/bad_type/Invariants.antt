use Rattle.std.proofs.Common.{◌≡◌, map, drop}
use Rattle.fv_declare_draft.specs.DraftViews.{type_view}
use Rattle.fv_first.specs.First.{first_from, first_in}
use Rattle.fv_declare_judging.specs.NamePlaces.{bad_type}
use Rattle.fv_declare_judging.proofs.naming.bad_type.Given as goal

abbrev pub invariant-loop-number : goal.invariant-loop-number
invariant-loop-number l = first_from bad_type l.number (map type_view (drop l.number l.types)) ≡ first_in bad_type (map type_view l.types)
