use Rattle.std.proofs.Common.{rules, ℤ, subst}
use Rattle.std.proofs.lemmas.Int.{to_z-of_z}
use mir.Val.{SFits}
use mir.Syntax.{w64}
use Rattle.fv_engine.specs.Steps.{AnswersLine}
use Rattle.fv_store.specs.Stock.{stock_state}
use Rattle.formd_words.specs.Rehearsals.{Rehearses}
use Rattle.formd_words.proofs.rehearsing.RehearsalResponder.answer_line.Goals as goal

pub returns : goal.returns
returns g c =
    let fits : SFits w64 c.args.now = search rules in
    subst (λ (t : ℤ). Rehearses (AnswersLine (stock_state g.S.Store) g.R.RuleSet.meaning) c.args.self.now.engine c.args.line.now t c.answered.result c.answered.new.engine)
    (to_z-of_z w64 c.args.now fits) c.answered.ensures
