use Rattle.std.proofs.Common.{◌∙◌, sym, ap}
use Rattle.fv_datum.specs.Maps.{ascends}
use Rattle.fv_datum.specs.Attributes.{Attributes}
use Rattle.fv_datum.specs.Lookup.{at_name}
use Rattle.fv_constraint.specs.MeantView.{meant_view}
use Rattle.fv_constraint.specs.Effect.{effective}
use Rattle.fv_constraint.proofs.effect.in_effect.Goals as goal

pub returns : goal.returns
returns c = record {
  each = λ q.
      ap (at_name q) c.new.ensures ∙ c.in_ok-put_effective.ensures.each q
      ∙ ap (λ (es : Attributes). effective (meant_view c.args.meant) es q) (c.in_ok-entries.ensures.same ∙ sym c.entries.ensures);
  ascending = ap ascends c.new.ensures ∙ c.in_ok-put_effective.ensures.ascending c.in_ok-entries.ensures.ascending;
}
