use Rattle.std.proofs.Math.Facts.{to_z-of_z}
use Rattle.fv_house.proofs.Adds.{sums}
use Rattle.fv_house.proofs.objects.adds_up.Goals as goal

pub returns : goal.returns
returns c =
    rw (to_z-of_z c.ranges.first, to_z-of_z c.ranges.second, to_z-of_z c.ranges.total)
    (sums c.args.first c.args.second c.args.total c.ranges.first c.ranges.second c.ranges.total)
