use Rattle.std.proofs.Common.{◌≡◌, true}
use Rattle.fv_local.proofs.Inherited.{left_out, stands_where_inherited}
use Rattle.fv_local.proofs.standing.stands_for.Goals as goal
use Rattle.fv_local.proofs.standing.stands_for.Goals.{else-redefined-via-then-redefined+else-other-eq-DEFAULT, else-redefined-via-else-redefined}

pub returns-then-other-eq-DEFAULT : goal.returns-then-other-eq-DEFAULT
returns-then-other-eq-DEFAULT c =
    left_out c.args.groups.now c.args.redefined c.args.group.index c.args.other.index c.if-redefined.true c.if-other-eq-DEFAULT.true

pub returns : goal.returns
returns c =
    let kept : c.args.redefined ≡ true → c.args.other.index ≡ 0 → ⊥ =
    elim c.else-redefined.branch [
      | else-redefined-via-then-redefined+else-other-eq-DEFAULT w ↦ λ e is. w.if-other-eq-DEFAULT.false is
      | else-redefined-via-else-redefined w ↦ λ e is. (let plain = w.if-redefined.false in cc)
    ] in
    stands_where_inherited c.args.groups.now c.args.redefined c.args.group.index c.args.other.index c.inherits.result kept c.inherits.ensures
