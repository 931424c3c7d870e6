use Rattle.std.proofs.Common.{rules}
use Rattle.std.proofs.lemmas.Int.{to_z-of_z}
use mir.Val.{SFits}
use mir.Syntax.{w64}
use Rattle.formd_words.proofs.Rehearsed.{asks_one}
use Rattle.formd_words.proofs.rehearsing.record.Goals as goal

pub returns-in_err-from_str : goal.returns-in_err-from_str
returns-in_err-from_str g c =
    let fits : SFits w64 c.args.now = search rules in
    asks_one g.P.Responder.step c.args.now _ _ _ _ _ c.args.id.now _ (to_z-of_z w64 c.args.now fits) c.as_bytes.ensures.value c.in_ok-get.ensures.ok c.answer_line-record.ensures

pub returns : goal.returns
returns g c =
    let fits : SFits w64 c.args.now = search rules in
    asks_one g.P.Responder.step c.args.now _ _ _ _ _ c.args.id.now _ (to_z-of_z w64 c.args.now fits) c.as_bytes.ensures.value c.in_ok-get.ensures.ok c.answer_line-record.ensures
