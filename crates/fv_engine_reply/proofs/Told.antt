-- A reply whose text takes memory tells its answer.
use Rattle.std.proofs.Common.{◌≡◌, ℕ, List, Result, Ok, Err, IfOk, MatchResult, inl, inr, sym, subst, ◌∙◌}
use Rattle.fv_engine_lines.specs.Lines.{IsOpen}
use Rattle.fv_engine_reply.specs.Answers.{Answer, refused}
use Rattle.fv_engine_reply.specs.Texts.{answer_json, answer_text, TakesMemory, Tells}
use Rattle.fv_engine_reply.specs.declared.answer.Refusal.TheVariants.{Memory}
use Rattle.fv_engine_reply.proofs.OneLine.{one_line}

pub made_tells : {E : Type 0} (reply : Result (List ℕ) E) (text : List ℕ) (a : Answer) → TakesMemory a
    → MatchResult reply (λ r. text ≡ r) (λ _. text ≡ answer_text (refused Memory)) → IfOk reply (λ r. r ≡ answer_text a) → Tells text a
made_tells (Ok r) text a takes is made = inl (is ∙ made)
made_tells (Err e) text a takes is made = inr (takes, is)

-- and it is one line where the reply is
pub made_open : {E : Type 0} (reply : Result (List ℕ) E) (text : List ℕ) → MatchResult reply (λ r. text ≡ r) (λ _. text ≡ answer_text (refused Memory)) → IfOk reply IsOpen → IsOpen text
made_open (Ok r) text is plain = subst IsOpen (sym is) plain
made_open (Err e) text is plain = subst IsOpen (sym is) (one_line (answer_json (refused Memory)))
