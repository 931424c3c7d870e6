use Rattle.std.proofs.Common.{◌≡◌, ◌∙◌, sym, List, ℕ, Bool, true, length, take, drop, ◌-◌, arith}
use Rattle.std.proofs.lemmas.List.{take_rest}
use Rattle.fv_message.specs.Template.{begins, is_special}
use Rattle.fv_message.proofs.Cuts.{brace_cut, escape_cut, escape_first}
use Rattle.fv_message.proofs.template.split_part.Goals as goal

pub range_from-requires : goal.range_from-requires
range_from-requires c = λ _. brace_cut c.args.template.now c.utf8.template (omega arith) (cc)

special_behind : (t bytes : List ℕ) (r : Bool) → bytes ≡ t → r ≡ begins is_special (take (length bytes - 1) (drop 1 bytes)) → r ≡ true → begins is_special (drop 1 t) ≡ true
special_behind t bytes r same is special =
    rw (← same, ← (take_rest bytes 1)) (sym is ∙ special)

pub range-requires-clause-end_boundary : goal.range-requires-clause-end_boundary
range-requires-clause-end_boundary c =
    escape_cut c.args.template.now c.utf8.template
    (special_behind c.args.template.now c.as_bytes.result.now c.begins_special.result c.as_bytes.ensures.value c.begins_special.ensures c.if-begins_special.true)

pub range_from-requires-then-begins_special : goal.range_from-requires-then-begins_special
range_from-requires-then-begins_special c = λ _.
    escape_cut c.args.template.now c.utf8.template
    (special_behind c.args.template.now c.as_bytes.result.now c.begins_special.result c.as_bytes.ensures.value c.begins_special.ensures c.if-begins_special.true)

pub returns-then-begins_special : goal.returns-then-begins_special
returns-then-begins_special c =
    escape_first c.args.template.now c.range.result c.range_from-then-begins_special.result.now (cc)
    (special_behind c.args.template.now c.as_bytes.result.now c.begins_special.result c.as_bytes.ensures.value c.begins_special.ensures c.if-begins_special.true)
    c.range.ensures.value c.range_from-then-begins_special.ensures.value
