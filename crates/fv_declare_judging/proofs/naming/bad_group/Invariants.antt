use Rattle.std.proofs.Common.{◌≡◌, map, drop, if◌then◌else◌, Some, None}
use Rattle.fv_declare_draft.specs.DraftViews.{group_view, draft_view}
use Rattle.fv_first.specs.First.{first_from}
use Rattle.fv_declare_judging.specs.Naming.{is_bad_group}
use Rattle.fv_declare_judging.specs.NamePlaces.{bad_group}
use Rattle.fv_declare_judging.specs.declared.placed.NamesAt.TheVariants as at
use Rattle.fv_declare_judging.proofs.naming.bad_group.Given as goal

abbrev pub invariant-loop-number : goal.invariant-loop-number
invariant-loop-number l =
    first_from (λ n g. if is_bad_group (draft_view l.draft).types g then Some (at.Group n) else None) l.number (map group_view (drop l.number l.groups))
    ≡ bad_group (draft_view l.draft).types (map group_view l.groups)
