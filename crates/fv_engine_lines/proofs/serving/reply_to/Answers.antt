use Rattle.std.proofs.Common.{◌≡◌, List, ℕ, ap, length, subst, arith}
use Rattle.std.proofs.lemmas.Int.{to_z-of_z}
use mir.Val.{to_z, of_z}
use mir.Syntax.{w64}
use Rattle.fv_engine_lines.proofs.Lines.{is_long, is_whole}
use Rattle.fv_engine_lines.proofs.serving.reply_to.Goals as goal

pub returns-then-bytes-gt-LIMIT : goal.returns-then-bytes-gt-LIMIT
returns-then-bytes-gt-LIMIT g c = λ whole k.
    let same : to_z w64 (of_z w64 c.args.now) ≡ c.args.now = to_z-of_z w64 c.args.now c.ranges.now in
    rw same at (c.answer_long.ensures whole (is_long c.args.line.now whole k (omega (arith, ap length c.bytes-bytes.ensures, c.if-bytes-gt-LIMIT.true))))

pub returns : goal.returns
returns g c = λ whole k.
    let same : to_z w64 (of_z w64 c.args.now) ≡ c.args.now = to_z-of_z w64 c.args.now c.ranges.now in
    let stepped = rw (same, c.bytes-bytes.ensures) at c.answer_line.ensures in
    subst (λ (l : List ℕ). g.P.Responder.step c.args.responder.now l c.args.now (g.P.Reply.Text.bytes c.answer_line.result) c.answer_line.new.self) (is_whole c.args.line.now whole k (omega (arith, ap length c.bytes-bytes.ensures, c.if-bytes-gt-LIMIT.false))) stepped
