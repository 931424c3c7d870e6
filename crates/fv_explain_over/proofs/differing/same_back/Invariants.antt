use Rattle.std.proofs.Common.{◌≡◌, ◌+◌, map, reverse}
use Rattle.serde_json.specs.View.{view}
use Rattle.fv_explain_over.specs.Changes.{same_front}
use Rattle.fv_explain_over.proofs.Fronts.{front_from}
use Rattle.fv_explain_over.proofs.differing.same_back.Given as goal

-- the items so far are the same
abbrev pub invariant-loop-number : goal.invariant-loop-number
invariant-loop-number l =
    l.number + front_from (reverse l.old) (reverse l.new) l.number ≡ same_front (reverse (map view l.old)) (reverse (map view l.new))
