use Rattle.std.proofs.Common.{sym, ap, ◌∙◌, subst, IsUtf8, not}
use Rattle.std.proofs.lemmas.Bool.{both_ways}
use Rattle.std.proofs.lemmas.Option.{none-some, same_Some}
use Rattle.std.proofs.lemmas.Slice.Eq.{bytes_eq-Decides}
use Rattle.json.specs.Print.{quoted}
use Rattle.json.proofs.Printed.Utf8.{IsUtf8-quoted}
use Rattle.serde_json.specs.Find.{as_str}
use Rattle.serde_json.specs.View.{view}
use Rattle.fv_path.proofs.Keys.{key_read, key_unread}
use Rattle.fv_path.proofs.key.key_of.Goals as goal

pub returns-in-Err-2 : goal.returns-in-Err-2
returns-in-Err-2 c k utf8 e =
    let read = c.in-Err.ensures.err (λ memory. both_ways c.is_memory.result c.if-is_memory.false (c.is_memory.ensures.1 memory)) (subst IsUtf8 (sym e) (IsUtf8-quoted k utf8)) in
    key_unread c.args.text.now k e read

pub returns-in_default : goal.returns-in_default
returns-in_default c k utf8 e =
    none-some k (c.in_default.ensures ∙ ap as_str (key_read c.args.text.now k (view c.in-Ok.value) e c.in-Ok.ensures.ok.1))

pub returns-then-ne : goal.returns-then-ne
returns-then-ne c k utf8 e =
    let seen = same_Some c.in-Some.key.now k (c.in-Some.ensures ∙ ap as_str (key_read c.args.text.now k (view c.in-Ok.value) e c.in-Ok.ensures.ok.1)) in
    let written = c.as_bytes.ensures.value ∙ c.in_ok-string.ensures ∙ ap quoted seen ∙ sym e in
    both_ways c.ne.result (c.ne.ensures ∙ ap (λ b. not b) ((bytes_eq-Decides c.as_bytes.result.now c.args.text.now).1 written)) c.if-ne.true
