use Rattle.std.proofs.Common.{◌∙◌, take, ap, length, arith}
use Rattle.std.proofs.lemmas.Slice.{pushed}
use Rattle.fv_engine_lines.proofs.Writes.{kept_fitting}
use Rattle.fv_engine_lines.proofs.line.Line.add_all.Goals as goal

pub returns : goal.returns
returns c =
    let same = ap length c.self.view_is in
    pushed (take c.min.result c.args.bytes.now) c.self.view_is c.unwrap.ensures c.extend_from_slice.ensures.items
    ∙ kept_fitting 1048577 c.min.result c.args.self.now c.args.bytes.now (omega (arith, same, c.self.invariant.1))
    (omega (arith, same, c.min.ensures, c.len.ensures, c.self.inside.bytes.ok.0))
