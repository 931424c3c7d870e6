use Rattle.std.proofs.Common.{ap, ◌∙◌, [], ◌∷◌, ◌++◌, length, ◌==◌}
use Rattle.std.proofs.lemmas.Bool.{both_ways}
use Rattle.fv_path.specs.Views.{node_view}
use Rattle.fv_path.proofs.Turns.{none_first, read_whole}
use Rattle.fv_path.proofs.text.read.Goals as goal

pub returns-in_default : goal.returns-in_default
returns-in_default c =
    let found = rw c.in_default.is at c.in_ok-first.ensures in
    none_first c.args.text.now (λ e. both_ways c.is_empty.result c.if-is_empty.false (c.is_empty.ensures ∙ ap (λ l. length l == 0) e)) (rw c.as_bytes.ensures.value at found)

pub returns : goal.returns
returns c =
    let found = rw c.in-Some.is at c.in_ok-first.ensures in
    let begins = rw c.as_bytes.ensures.value at found in
    let first = c.in_ok-push.ensures.ok ∙ ap (λ ns. ns ++ node_view c.in-Some.first ∷ []) c.new-path.ensures in
    read_whole c.args.text.now c.in-Some.rest.now (node_view c.in-Some.first) c.push.new.self c.read_rest.result
    (λ e. both_ways c.is_empty.result c.if-is_empty.false (c.is_empty.ensures ∙ ap (λ l. length l == 0) e)) begins.1 first c.read_rest.ensures.path c.read_rest.ensures.rest
