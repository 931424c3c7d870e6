use Rattle.std.proofs.Common.{◌+◌, ◌*◌}
use Rattle.serde_json.specs.View.{members_view}
use Rattle.fv_explain_over.specs.Adding.{Adds, OldChange, SomeMember, found_view}
use Rattle.fv_explain_over.specs.Changes.{LevelsChange}
use Rattle.fv_explain_over.proofs.AddLemmas.{Told}
use Rattle.fv_explain_over.proofs.differing.+add.Given as goal

abbrev pub decreases-add_inside : goal.decreases-add_inside
decreases-add_inside l = 3 * l.levels + 1

abbrev pub decreases-add_member : goal.decreases-add_member
decreases-add_member l = 3 * l.levels + 2

abbrev pub decreases-add_members : goal.decreases-add_members
decreases-add_members l = 3 * l.levels + 3

-- once the members that are left are added, all are
abbrev pub invariant-add_members-loop-name : goal.invariant-add_members-loop-name
invariant-add_members-loop-name l =
    (f : Told) → Adds (found_view l.found) f (SomeMember (OldChange (LevelsChange l.levels) l.at (members_view l.new.entries)) (members_view l.name-iterator))
    → Adds (found_view l.initial.found) f (SomeMember (OldChange (LevelsChange l.levels) l.at (members_view l.new.entries)) (members_view l.old.entries))
