use Rattle.std.proofs.Common.{◌∙◌, ℕ, List, subst}
use Rattle.std.specs.List.{flat_map}
use Rattle.std.specs.Prelude.{string_bytes}
use Rattle.std.proofs.lemmas.Result.{IfErr-weaker, err_from_is_err_and, on_ok_weaker}
use Rattle.fv_engine_lines.specs.Lines.{ended}
use Rattle.fv_engine_lines.specs.Writes.{Breaks, Sends}
use Rattle.formd_words.proofs.Refused.{refused_for_form, schema_failed}
use Rattle.formd_words.proofs.schemas.write_schema.Goals as goal

pub returns-clause-taken : goal.returns-clause-taken
returns-clause-taken g c = on_ok_weaker c.write_as_is.result (λ sent. (_, c.in_ok-schema.ensures.taken, c.in_ok-told.ensures.declared)) c.write_as_is.ensures.written

pub returns-clause-written : goal.returns-clause-written
unfolding lib.Utf8.encode
returns-clause-written g c =
    let line : List ℕ = string_bytes c.in_ok-told.told in
    on_ok_weaker c.write_as_is.result (λ sent. (
      line,
      subst (λ (w : g.row.W.Denot). Sends g.W.Output.contents g.W.Output.takes g.W.Output.flushes w c.write_as_is.new.output (ended line)) c.in_ok-schema.ensures.unwritten
          (subst (λ (bs : List ℕ). Sends g.W.Output.contents g.W.Output.takes g.W.Output.flushes c.schema_of.new.output c.write_as_is.new.output bs)
          (c.as_bytes.ensures.value ∙ c.in_ok-push.ensures.bytes) sent),
    )) c.write_as_is.ensures.written

pub returns-in_err-schema-clause-refused : goal.returns-in_err-schema-clause-refused
returns-in_err-schema-clause-refused g c =
    let p = err_from_is_err_and c.from_residual.result c.from_residual.ensures.1 in
    rw (p.1, p.2) (refused_for_form _ (λ f both. both) (λ b. (flat_map ended b.0, b.1)) c.in_err-schema.field-0.0 c.in_err-schema.ensures.refused)

pub returns-in_err-told-clause-refused : goal.returns-in_err-told-clause-refused
returns-in_err-told-clause-refused g c =
    let p = err_from_is_err_and c.from_residual-in_err-told.result c.from_residual-in_err-told.ensures.1 in
    rw p.1 (schema_failed _ _ _ c.in_err-told.field-0.0 p.0 p.2 (λ is. (_, c.in_ok-schema.ensures.taken, c.in_err-told.ensures.unknown is)))

pub returns-in_err-push-clause-refused : goal.returns-in_err-push-clause-refused
returns-in_err-push-clause-refused g c =
    let p = err_from_is_err_and c.from_residual-in_err-push.result c.from_residual-in_err-push.ensures.1 in
    rw (p.1, p.2) tt

pub returns-clause-refused : goal.returns-clause-refused
returns-clause-refused g c =
    IfErr-weaker c.write_as_is.result _ _ (λ f both. rw both.0 (
      _,
      subst (λ (w : g.row.W.Denot). Breaks g.W.Output.contents g.W.Output.takes g.W.Output.fails w c.write_as_is.new.output c.as_bytes.result.now) c.in_ok-schema.ensures.unwritten both.1,
    )) c.write_as_is.ensures.unwritten
