use Rattle.std.proofs.Common.{◌<◌, ◌≤◌, length, sym, ap, ◌∙◌, arith}
use Rattle.std.proofs.lemmas.Result.{IfOk-weaker}
use Rattle.serde_json.specs.View.{view as json_view, items_view}
use Rattle.fv_datum.specs.Members.{listed, each_some}
use Rattle.fv_datum.proofs.Values.{length-items}
use Rattle.fv_engine_command.specs.Commands.{part_of}
use Rattle.fv_engine_command.proofs.Counts.{too_many, not_too_many}
use Rattle.fv_engine_command.proofs.part.parts_in.Goals as goal

pub returns-then-len-gt-MOST_PARTS : goal.returns-then-len-gt-MOST_PARTS
returns-then-len-gt-MOST_PARTS c =
    let vs = items_view c.in-Some.values.now.items in
    let more : 64 < length (listed vs) = rw (length-items c.in-Some.values.now.items) (omega arith) in
    sym (too_many (json_view c.args.value.now) vs (sym c.in-Some.ensures) more)

pub returns : goal.returns
returns c =
    let vs = items_view c.in-Some.values.now.items in
    let some : 0 < length (listed vs) = rw (length-items c.in-Some.values.now.items) (grind (arith, c.is_empty.ensures, c.if-is_empty.false)) in
    let under : length (listed vs) ≤ 64 = rw (length-items c.in-Some.values.now.items) (omega arith) in
    let parts = not_too_many (json_view c.args.value.now) vs (sym c.in-Some.ensures) some under in
    IfOk-weaker c.each_part.result _ _ (λ o is. is ∙ ap (λ l. each_some part_of (listed (items_view l))) c.deref.ensures.value ∙ sym parts) c.each_part.ensures
