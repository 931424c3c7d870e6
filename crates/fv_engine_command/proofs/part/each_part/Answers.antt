use Rattle.std.proofs.Common.{◌≡◌, ◌+◌, ◌∷◌, [], ◌++◌, Some, map, drop, sym, ap, ◌∙◌, arith}
use Rattle.std.proofs.lemmas.List.{map-append}
use Rattle.serde_json.specs.View.{view as json_view, items_view}
use Rattle.fv_datum.specs.Members.{listed, each_some}
use Rattle.fv_datum.proofs.Fronts.{with_front, item_more}
use Rattle.fv_engine_command.specs.CommandView.{part_view}
use Rattle.fv_engine_command.specs.Commands.{part_of}
use Rattle.fv_engine_command.proofs.part.each_part.Goals as goal

pub loop-value-preserved : goal.loop-value-preserved
loop-value-preserved c =
    let l = c.loop-value in
    let vs = c.args.values.now in
    let part = c.in-Some.part in
    let is : part_of (json_view c.value-item.result) ≡ Some (part_view part) = grind (arith, c.part_of.ensures, c.in-Some.is) in
    let moved = item_more part_of (map part_view l.parts.items) vs l.value-index c.value-item.result (part_view part) c.loop-value-test.true c.value-item.is is in
    let pushed : map part_view c.push.new.self.items ≡ map part_view l.parts.items ++ part_view part ∷ [] = ap (map part_view) c.in_ok-push-in-Some.ensures.items ∙ map-append part_view l.parts.items (part ∷ []) in
    ap (λ front. with_front front (each_some part_of (listed (items_view (drop (l.value-index + 1) vs))))) pushed ∙ sym moved ∙ l.invariant
