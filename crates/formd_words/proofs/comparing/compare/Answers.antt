use Rattle.std.proofs.Common.{inl, inr, refl, subst, ◌∙◌}
use Rattle.std.specs.List.{flat_map}
use Rattle.std.proofs.lemmas.Result.{IfErr-weaker, err_from_is_err_and, on_ok_weaker}
use Rattle.serde_json.specs.View.{view as json_view}
use Rattle.fv_engine_lines.specs.Lines.{ended}
use Rattle.fv_engine_lines.specs.Writes.{Breaks, Sends}
use Rattle.formd_words.proofs.Refused.{refused_weaker}
use Rattle.formd_words.proofs.comparing.compare.Goals as goal

pub returns-in_err-new-clause-refused : goal.returns-in_err-new-clause-refused
returns-in_err-new-clause-refused g c =
    let p = err_from_is_err_and c.from_residual.result c.from_residual.ensures.1 in
    rw (p.1, p.2) (refused_weaker (λ f both. (_, (both.0, inl refl, both.1))) (λ b. b) c.in_err-new.field-0.0 c.in_err-new.ensures.refused)

pub returns-in_err-old-clause-refused : goal.returns-in_err-old-clause-refused
returns-in_err-old-clause-refused g c =
    let p = err_from_is_err_and c.from_residual-in_err-old.result c.from_residual-in_err-old.ensures.1 in
    let unwritten = c.in_ok-new.ensures.unwritten in
    rw (p.1, p.2) (refused_weaker (λ f both. (
      _,
      (
        both.0,
        inr (refl, (_, c.in_ok-new.ensures.taken.0)),
        (both.1.0, both.1.1, subst (λ (w : g.row.W.Denot). Sends g.W.Output.contents g.W.Output.takes g.W.Output.flushes w c.side_of-2.new.output (flat_map ended both.1.0)) unwritten both.1.2),
      ),
    ))
    (λ b. (b.0, subst (λ (w : g.row.W.Denot). Breaks g.W.Output.contents g.W.Output.takes g.W.Output.fails w c.side_of-2.new.output (flat_map ended b.0)) unwritten b.1))
    c.in_err-old.field-0.0 c.in_err-old.ensures.refused)

pub returns-clause-told : goal.returns-clause-told
returns-clause-told g c =
    let unwritten = c.in_ok-old.ensures.unwritten ∙ c.in_ok-new.ensures.unwritten in
    on_ok_weaker c.tell_sides.result (λ told. (
      c.in_ok-new.new.schema,
      c.in_ok-old.old.schema,
      c.in_ok-new.ensures.taken.0,
      c.in_ok-old.ensures.taken.0,
      json_view c.in_ok-new.new.value,
      json_view c.in_ok-old.old.value,
      c.in_ok-new.ensures.taken.1,
      c.in_ok-old.ensures.taken.1,
      told.0,
      told.1,
      subst (λ (w : g.row.W.Denot). Sends g.W.Output.contents g.W.Output.takes g.W.Output.flushes w c.tell_sides.new.output (flat_map ended told.0)) unwritten told.2,
    )) c.tell_sides.ensures.told

pub returns-clause-refused : goal.returns-clause-refused
returns-clause-refused g c =
    let unwritten = c.in_ok-old.ensures.unwritten ∙ c.in_ok-new.ensures.unwritten in
    IfErr-weaker c.tell_sides.result _ _ (refused_weaker (λ f never. absurd never)
    (λ b. (b.0, subst (λ (w : g.row.W.Denot). Breaks g.W.Output.contents g.W.Output.takes g.W.Output.fails w c.tell_sides.new.output (flat_map ended b.0)) unwritten b.1))) c.tell_sides.ensures.untold
