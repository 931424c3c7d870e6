use Rattle.std.proofs.Common.{◌≡◌, ◌+◌, ◌-◌, ◌∙◌, ap, List, ℕ, suc, length, take, drop, arith}
use Rattle.std.specs.List.{prefix_len}
use Rattle.std.proofs.lemmas.List.{take_rest}
use Rattle.fv_message.proofs.Cuts.{ordinary, run_cut, run_first}
use Rattle.fv_message.proofs.template.split_plain.Goals as goal

run_is : (t bytes : List ℕ) (n : ℕ) → bytes ≡ t → n ≡ prefix_len ordinary (take (length bytes - 1) (drop 1 bytes)) → n ≡ prefix_len ordinary (drop 1 t)
run_is t bytes n same is = is ∙ ap (prefix_len ordinary) (take_rest bytes 1) ∙ ap (λ (l : List ℕ). prefix_len ordinary (drop 1 l)) same

one_more : (n : ℕ) → 1 + n ≡ suc n
one_more n = omega arith

pub overflow_add-plain_len : goal.overflow_add-plain_len
overflow_add-plain_len c =
    let cut = run_cut c.args.template.now c.plain_len.result c.requires (run_is c.args.template.now c.as_bytes.result.now c.plain_len.result c.as_bytes.ensures.value c.plain_len.ensures) in
    omega (arith, cut.0, c.as_bytes.ensures.len)

pub split_at-requires : goal.split_at-requires
split_at-requires c =
    rw (one_more c.plain_len.result)
    (run_cut c.args.template.now c.plain_len.result c.requires (run_is c.args.template.now c.as_bytes.result.now c.plain_len.result c.as_bytes.ensures.value c.plain_len.ensures))

pub returns : goal.returns
returns c =
    run_first c.args.template.now c.plain_len.result c.split_at.result.0 c.split_at.result.1.now c.requires
    (run_is c.args.template.now c.as_bytes.result.now c.plain_len.result c.as_bytes.ensures.value c.plain_len.ensures)
    (rw (← (one_more c.plain_len.result)) c.split_at.ensures.front) (rw (← (one_more c.plain_len.result)) c.split_at.ensures.back)
