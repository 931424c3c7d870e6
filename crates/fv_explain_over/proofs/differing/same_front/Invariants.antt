use Rattle.std.proofs.Common.{◌≡◌, ◌+◌, map}
use Rattle.serde_json.specs.View.{view}
use Rattle.fv_explain_over.specs.Changes.{same_front}
use Rattle.fv_explain_over.proofs.Fronts.{front_from}
use Rattle.fv_explain_over.proofs.differing.same_front.Given as goal

-- the items so far are the same
abbrev pub invariant-loop-number : goal.invariant-loop-number
invariant-loop-number l = l.number + front_from l.old l.new l.number ≡ same_front (map view l.old) (map view l.new)
