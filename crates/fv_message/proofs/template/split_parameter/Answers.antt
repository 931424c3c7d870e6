use Rattle.std.proofs.Common.{◌∙◌, ℕ, List, [], ◌∷◌, length, length-append, ap, lit<, arith}
use Rattle.std.proofs.lemmas.Str.Pattern.{split_parts}
use Rattle.fv_message.specs.Reading.{pieces_of}
use Rattle.fv_message.proofs.Pieces.{parameter_read, open_read, misnamed_read}
use Rattle.fv_message.proofs.template.split_parameter.Goals as goal

pub returns-in_err-name : goal.returns-in_err-name
returns-in_err-name c =
    let parts = rw c.in_err-name.was at (split_parts 125 c.args.behind.now c.split_once.result c.split_once.ensures.cases (lit< tt)) in
    rw c.from_residual.ensures (λ _. open_read c.args.behind.now [] parts)

pub returns-then-not-is_parameter_name : goal.returns-then-not-is_parameter_name
returns-then-not-is_parameter_name c =
    let parts = rw c.in_ok-name.was at (split_parts 125 c.args.behind.now c.split_once.result c.split_once.ensures.cases (lit< tt)) in
    λ _. rw parts.0 (misnamed_read c.in_ok-name.name.now [] c.in_ok-name.rest.now parts.1 (cc))

pub returns : goal.returns
returns c =
    let parts = rw c.in_ok-name.was at (split_parts 125 c.args.behind.now c.split_once.result c.split_once.ensures.cases (lit< tt)) in
    let len = ap length parts.0 ∙ length-append c.in_ok-name.name.now (125 ∷ c.in_ok-name.rest.now) in
    record {
      read = ap (λ (s : List ℕ). pieces_of (123 ∷ s)) parts.0 ∙ parameter_read c.in_ok-name.name.now c.in_ok-name.rest.now (cc);
      shorter = omega (arith, len);
      room = omega (arith, len);
    }
