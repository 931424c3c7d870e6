use Rattle.std.proofs.Common.{◌≡◌, map, drop, if◌then◌else◌, Some, None}
use Rattle.fv_declare_definition.specs.DefinitionViews.{composing_view}
use Rattle.fv_first.specs.First.{first_from}
use Rattle.fv_declare_judging.specs.WordingPlaces.{is_flawed, flawed_composing}
use Rattle.fv_declare_judging.proofs.templates.flawed_composing.Given as goal

abbrev pub invariant-loop-number : goal.invariant-loop-number
invariant-loop-number l =
    first_from (λ n c. if is_flawed l.flaw c.message then Some n else None) l.number (map composing_view (drop l.number l.composing)) ≡ flawed_composing l.flaw (map composing_view l.composing)
