use Rattle.std.proofs.Common.{◌≡◌, drop, get_or, arith}
use Rattle.std.proofs.lemmas.List.{take_rest}
use Rattle.std.proofs.lemmas.Result.{IfOk-weaker}
use Rattle.fv_path.proofs.KeyNodes.{key_found, two_bytes}
use Rattle.fv_path.proofs.text.read_node.Goals as goal

pub returns-in-91 : goal.returns-in-91
returns-in-91 c =
    let text = c.args.text.now in
    let first : get_or text 0 0 ≡ 91 = omega arith in
    let second : get_or text 1 0 ≡ 34 = omega arith in
    IfOk-weaker c.read_key.result _ _ (λ o. key_found text (drop 2 text) o (two_bytes text c.in-91.len_at_least first second)) (rw (take_rest text 1) at c.read_key.ensures)
