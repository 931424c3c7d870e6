use Rattle.std.proofs.Common.{◌≡◌, map, find}
use Rattle.serde_json.specs.View.{members_view}
use Rattle.fv_datum.specs.Members.{pairs}
use Rattle.fv_form.specs.FormViews.{entry_view}
use Rattle.fv_form.specs.Misfits.{is_strange}
use Rattle.fv_form.proofs.finding.stranger_in.Given as goal

abbrev pub invariant-loop-name : goal.invariant-loop-name
invariant-loop-name l = find (λ m. is_strange (map entry_view l.entries) m.0) (pairs (members_view l.name-iterator)) ≡ find (λ m. is_strange (map entry_view l.entries) m.0) (pairs (members_view l.members.entries))
