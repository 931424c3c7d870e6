use Rattle.serde_json.specs.View.{members_view}
use Rattle.fv_explain_over.specs.Adding.{Adds, NewChange, SomeMember, found_view}
use Rattle.fv_explain_over.proofs.AddLemmas.{Told}
use Rattle.fv_explain_over.proofs.differing.add_new_members.Given as goal

-- once the members that are left are added, all are
abbrev pub invariant-loop-name : goal.invariant-loop-name
invariant-loop-name l =
    (f : Told) → Adds (found_view l.found) f (SomeMember (NewChange l.at (members_view l.old.entries)) (members_view l.name-iterator))
    → Adds (found_view l.initial.found) f (SomeMember (NewChange l.at (members_view l.old.entries)) (members_view l.new.entries))
