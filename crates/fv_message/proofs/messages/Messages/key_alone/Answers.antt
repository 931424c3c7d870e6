use Rattle.std.proofs.Common.{◌≡◌, IfSome, subst, arith}
use Rattle.fv_datum.specs.Attributes.{Attributes}
use Rattle.fv_message.specs.Evaluated.{full_text, key_text}
use Rattle.fv_message.specs.Table.{Messages}
use Rattle.fv_message.proofs.Cuts.{brace_cut}
use Rattle.fv_message.proofs.Named.{alone_found}
use Rattle.fv_message.proofs.messages.Messages.key_alone.Goals as goal

pub range-requires-clause-start_boundary : goal.range-requires-clause-start_boundary
range-requires-clause-start_boundary c = λ _. brace_cut c.args.template.now c.utf8.template (omega (arith, c.in-123.len_at_least, c.as_bytes.ensures.len)) (cc)

pub returns-clause-text : goal.returns-clause-text
returns-clause-text c =
    let t = c.args.template.now in
    let found = c.number_of.result in
    subst (λ (ms : Messages). IfSome found (λ i. (attributes : Attributes) → full_text ms attributes t ≡ key_text ms attributes i)) c.self.view_is
    (alone_found c.self.inside.keys t c.range.result.now found c.self.invariant.1 (omega (arith, c.in-123.len_at_least, c.as_bytes.ensures.len)) (cc) (cc) c.range.ensures.value c.number_of.ensures.number)
