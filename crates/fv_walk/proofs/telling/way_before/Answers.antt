use Rattle.std.proofs.Common.{◌<◌, ◌-◌, map, sym, ◌∙◌, arith}
use Rattle.std.proofs.lemmas.Bool.Decides.{nat_tests}
use Rattle.fv_local.specs.Graphs.{way_view}
use Rattle.fv_datum.proofs.Lookups.{seen_option}
use Rattle.fv_walk.proofs.Members.{before_is}
use Rattle.fv_walk.proofs.telling.way_before.Goals as goal

pub returns : goal.returns
returns c =
    let ways = c.args.ways.now in
    let some : 0 < c.args.next = grind (arith, nat_tests, c.if-next-eq0.false) in
    seen_option way_view ways (c.args.next - 1) c.get.result c.get.ensures.lookup ∙ sym (before_is (map way_view ways) c.args.next some)
