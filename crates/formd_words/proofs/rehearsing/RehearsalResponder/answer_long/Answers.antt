use Rattle.std.proofs.Common.{rules, [], ℤ, refl, subst}
use Rattle.std.proofs.lemmas.Int.{to_z-of_z}
use mir.Val.{SFits}
use mir.Syntax.{w64}
use Rattle.fv_engine.specs.Steps.{AnswersLine}
use Rattle.fv_store.specs.Stock.{stock_state}
use Rattle.formd_words.proofs.rehearsing.RehearsalResponder.answer_long.Goals as goal

pub returns : goal.returns
returns g c = λ line long.
    let fits : SFits w64 c.args.now = search rules in (
      c.answer_long.new.self,
      subst (λ (t : ℤ). AnswersLine (stock_state g.S.Store) g.R.RuleSet.meaning c.args.self.now.engine line t c.answer_long.result c.answer_long.new.self)
          (to_z-of_z w64 c.args.now fits) (c.answer_long.ensures line long),
      ([], refl),
    )
