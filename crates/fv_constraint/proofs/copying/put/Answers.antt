use Rattle.std.proofs.Common.{◌≡◌, string_bytes, arith}
use Rattle.fv_constraint.proofs.copying.put.Goals as goal

pub returns : goal.returns
returns g c =
    let is : string_bytes c.in_ok-clone.field-0 ≡ string_bytes c.args.name.now = grind (arith, c.in_ok-clone.ensures.cases) in
    (c.in_ok-clone.field-0, is, c.in_ok-insert.ensures.entries)
