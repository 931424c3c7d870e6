use Rattle.std.proofs.Common.{rules}
use Rattle.std.proofs.lemmas.Int.{to_z-of_z}
use mir.Val.{SFits, of_z, to_z}
use mir.Syntax.{w64}
use Rattle.formd_words.proofs.Rehearsed.{asks_at, asks_none, asks_then}
use Rattle.formd_words.proofs.rehearsing.records.Goals as goal

pub asked-init : goal.asked-init
asked-init g c = asks_none g.P.Responder.step _ _

pub asked-preserved : goal.asked-preserved
asked-preserved g c = asks_then g.P.Responder.step (to_z w64 (of_z w64 c.args.now)) _ _ _ c.asked.invariant c.record.ensures

pub returns-in_err-record : goal.returns-in_err-record
returns-in_err-record g c =
    let fits : SFits w64 c.args.now = search rules in
    asks_at g.P.Responder.step _ _ _ _ (to_z-of_z w64 c.args.now fits) (asks_then g.P.Responder.step (to_z w64 (of_z w64 c.args.now)) _ _ _ c.asked.invariant c.record.ensures)

pub returns-in_err-push : goal.returns-in_err-push
returns-in_err-push g c =
    let fits : SFits w64 c.args.now = search rules in
    asks_at g.P.Responder.step _ _ _ _ (to_z-of_z w64 c.args.now fits) (asks_then g.P.Responder.step (to_z w64 (of_z w64 c.args.now)) _ _ _ c.asked.invariant c.record.ensures)
