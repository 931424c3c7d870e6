use Rattle.std.proofs.Common.{◌≡◌, map, drop, if◌then◌else◌, Some, None}
use Rattle.fv_declare_draft.specs.UseViews.{use_view}
use Rattle.fv_first.specs.First.{first_from}
use Rattle.fv_declare_judging.specs.WordingPlaces.{is_flawed, flawed_use}
use Rattle.fv_declare_judging.specs.declared.placed.WordingAt.TheVariants as at
use Rattle.fv_declare_judging.proofs.templates.flawed_use.Given as goal

abbrev pub invariant-loop-number : goal.invariant-loop-number
invariant-loop-number l =
    first_from (λ n u. if is_flawed l.flaw u.draft.message then Some (at.Use n) else None) l.number (map use_view (drop l.number l.uses)) ≡ flawed_use l.flaw (map use_view l.uses)
