use Rattle.std.proofs.Common.{map, refl, ◌+◌, arith}
use Rattle.std.proofs.lemmas.List.{map-append}
use Rattle.fv_constraint_tree.specs.TargetViews.{target_view}
use Rattle.fv_constraint.specs.PlannedViews.{planned_view, planned_entry}
use Rattle.fv_flatten.specs.Read.{IsEntry, refuses_its_given, refuses_at}
use Rattle.fv_flatten.proofs.Spots.{zipped, passes_later}
use Rattle.fv_flatten.proofs.Unbuilt.{first_unbuilt}
use Rattle.fv_flatten.proofs.nodes.nodes_of.Goals as goal
use Rattle.fv_constraint_tree.specs.Views.{entry_view}

pub returns-in-Err-clause-refused : goal.returns-in-Err-clause-refused
returns-in-Err-clause-refused c = λ other.
    let found = c.in-Err.ensures.refused other in
    let l = c.loop-number in
    (found.0, (l.number + 1, refl, first_unbuilt (target_view c.args.place) 1 (l.number + 1) c.args.spots.now l.number c.index-spots-number.result (map entry_view l.nodes.items) (omega arith) (omega arith) c.index-spots-number.is l.invariant.made found.1))

pub loop-number-preserved : goal.loop-number-preserved
loop-number-preserved c =
    let l = c.loop-number in
    let x = c.index-spots-number.result in
    let xs = c.args.spots.now in
    record {
      made = rw (c.in_ok-push-in-Ok.ensures.items, map-append) (zipped planned_entry (IsEntry (target_view c.args.place)) xs l.number x (map entry_view l.nodes.items) (entry_view c.in-Ok.node) (omega arith) c.index-spots-number.is l.invariant.made c.in-Ok.ensures.taken);
      attributes = passes_later (λ s. planned_view s.value) refuses_its_given xs l.number x (omega arith) c.index-spots-number.is l.invariant.attributes;
      places = (l.invariant.places.0, passes_later (λ s. planned_view s.value) (refuses_at l.invariant.places.0 (target_view c.args.place)) xs l.number x (omega arith) c.index-spots-number.is l.invariant.places.1);
    }
