-- A run of an engine is a run of the service, and that is one of the declarations in force and the map.
use Rattle.std.proofs.Common.{◌≡◌, ◌≤◌, ◌<◌, ℤ, length, ℕ, List, [], ◌∷◌, Option, refl, sym, ap, subst, ◌∙◌}
use Rattle.sqlite.specs.State.{State}
use Rattle.fv_datum.specs.Parsing.{json_of}
use Rattle.fv_engine_command.specs.Commands.{Asked, redeclare, of_records, asks, asks_json}
use Rattle.fv_engine_lines.specs.Runs.{Ticks, Writing, Session, Run, Served, Stopped}
use Rattle.fv_engine_machine.specs.Services.{Attends, GoesOn, Replies, Responds, Service, Turned, LineTurns, reign_of}
use Rattle.fv_registry.specs.Meanings.{Meanings}
use Rattle.fv_registry.specs.Rules.{Known}
use Rattle.fv_engine_reply.specs.Answers.{Answer, refused}
use Rattle.fv_engine_reply.specs.Texts.{answer_text}
use Rattle.fv_engine_reply.specs.declared.answer.Refusal.TheVariants.{LineTooLong}
use Rattle.fv_store.specs.Records.{Records}
pub use Rattle.fv_engine_machine.proofs.Going.{follows, weaker, rests, onwards}
pub use Rattle.fv_engine_machine.proofs.Serving.{long_judged, long_responds, redeclare_rests, short_judged, short_responds}

module _ {H : Type 0} (means : Meanings) (held : H → State) (line : List ℕ) (moment : ℤ) (text : List ℕ) where
  -- a line that is over the limit
  pub long_goes : (old new : Service H) → new ≡ old → 1048576 < length line → text ≡ answer_text (refused LineTooLong) → GoesOn held old new (λ x y. Responds means x line moment text y)
  long_goes old new same long is = subst (λ (e : Service H). GoesOn held old e (λ x y. Responds means x line moment text y)) (sym same)
      (rests held old _ (λ x. long_responds means line moment text long is x))

  -- a line that isn't
  pub short_goes : (old before after : Service H) → before ≡ old → length line ≤ 1048576
      → GoesOn held before after (λ x y. Replies means moment (asks_json (json_of line)) x text y) → GoesOn held old after (λ x y. Responds means x line moment text y)
  short_goes old before after is short going = subst (λ (e : Service H). GoesOn held e after (λ x y. Responds means x line moment text y)) is
      (weaker held _ _ _ _ (λ x y told. short_responds means line moment text short x y told) going)

-- ---- a step with its causes is a step of declarations and the map, and so is a run

attends_turns : (means : Meanings) (now : ℤ) (x y : Service Records) (answer : Answer) (a : Asked) → Attends means now a x answer y → LineTurns x.known means (reign_of x) a now answer (reign_of y)
attends_turns means now x y answer (redeclare given) t = t.0
attends_turns means now x y answer (of_records r) t = (t.0.0, t.0.1.declared)

attends_known : (means : Meanings) (now : ℤ) (x y : Service Records) (answer : Answer) (a : Asked) → Attends means now a x answer y → y.known ≡ x.known
attends_known means now x y answer (redeclare given) t = t.1.known
attends_known means now x y answer (of_records r) t = t.2

pub turned_of : (means : Meanings) (x : Service Records) (line : List ℕ) (moment : ℤ) (text : List ℕ) (y : Service Records) → Responds means x line moment text y
    → Turned x.known means (reign_of x) line moment text (reign_of y)
turned_of means x line moment text y told = (told.0, told.1, attends_turns means moment x y told.0 (asks line) told.2)

module _ {C O : Type 0} (means : Meanings) (ticks : Ticks C) (sends : Writing O) where
  -- the rules stay, and so the run is one by the rules that are there first
  run_turned : (old : Session (Service Records) C O) (lines : List (List ℕ)) (new : Session (Service Records) C O) → Run (Responds means) ticks sends old lines new
      → (new.0.known ≡ old.0.known) × Run (Turned old.0.known means) ticks sends (reign_of old.0, old.1, old.2) lines (reign_of new.0, new.1, new.2)
  run_turned old [] new is = (
    ap (λ (s : Session (Service Records) C O). s.0.known) is,
    ap (λ (s : Session (Service Records) C O). (reign_of s.0, s.1, s.2)) is,
  )
  run_turned old (line ∷ lines) new ran =
      let mid : Session (Service Records) C O = ran.0 in
      let a = ran.1 in
      let rest = run_turned mid lines new ran.2 in
      let same : mid.0.known ≡ old.0.known = attends_known means a.1 old.0 mid.0 a.3.0 (asks line) a.3.2 in (
        rest.0 ∙ same,
        (
          (reign_of mid.0, mid.1, mid.2),
          (a.0, a.1, a.2, turned_of means old.0 line a.1 a.0 mid.0 a.3, a.4, a.5),
          subst (λ (k : Known). Run (Turned k means) ticks sends (reign_of mid.0, mid.1, mid.2) lines (reign_of new.0, new.1, new.2)) same rest.1,
        ),
      )

  module _ (x y : Service Records) (c d : C) (w v : O) where
    pub served_turned : (Are : List (List ℕ) → Type 0) → Served (Responds means) ticks sends Are (x, c, w) (y, d, v) → Served (Turned x.known means) ticks sends Are (reign_of x, c, w) (reign_of y, d, v)
    served_turned Are s = (s.0, s.1, (run_turned (x, c, w) s.0 (y, d, v) s.2).1)

    pub stopped_turned : (breaks : Writing O) (r q : Option (List ℕ)) → Stopped (Responds means) ticks sends breaks r q (x, c, w) (y, d, v) → Stopped (Turned x.known means) ticks sends breaks r q (reign_of x, c, w) (reign_of y, d, v)
    stopped_turned breaks r q s =
        let mid : Session (Service Records) C O = s.mid in
        let a = s.last in
        let run = run_turned (x, c, w) s.lines mid s.ran in
        record {
          lines = s.lines;
          line = s.line;
          others = s.others;
          read = s.read;
          mid = (reign_of mid.0, mid.1, mid.2);
          ran = run.1;
          last = (a.0, a.1, a.2, subst (λ (k : Known). Turned k means (reign_of mid.0) s.line a.1 a.0 (reign_of y)) run.0 (turned_of means mid.0 s.line a.1 a.0 y a.3), a.4, a.5);
        }

-- ---- a run of an engine

module _ {H C O : Type 0} (means : Meanings) (held : H → State) (ticks : Ticks C) (sends : Writing O) where
  -- what one line does
  abbrev line_does : Service H → List ℕ → ℤ → List ℕ → Service H → Type 0
  line_does old line moment text new = GoesOn held old new (λ x y. Responds means x line moment text y)

  run_lifted : (old : Session (Service H) C O) (lines : List (List ℕ)) (new : Session (Service H) C O) → Run line_does ticks sends old lines new
      → GoesOn held old.0 new.0 (λ x y. Run (Responds means) ticks sends (x, old.1, old.2) lines (y, new.1, new.2))
  run_lifted old [] new is = subst (λ (s : Session (Service H) C O). GoesOn held old.0 s.0 (λ x y. Run (Responds means) ticks sends (x, old.1, old.2) [] (y, s.1, s.2)))
      (sym is) (rests held old.0 _ (λ x. refl))
  run_lifted old (line ∷ lines) new ran =
      let mid : Session (Service H) C O = ran.0 in
      let a = ran.1 in
      weaker held old.0 new.0 _ _ (λ x y t. ((t.0, mid.1, mid.2), (a.0, a.1, a.2, t.1, a.4, a.5), t.2)) (onwards held old.0 mid.0 new.0 _ _ a.3 (run_lifted mid lines new ran.2))

  module _ (e f : Service H) (c d : C) (w v : O) where
    pub served_lifted : (Are : List (List ℕ) → Type 0) → Served line_does ticks sends Are (e, c, w) (f, d, v) → GoesOn held e f (λ x y. Served (Responds means) ticks sends Are (x, c, w) (y, d, v))
    served_lifted Are s = weaker held e f _ _ (λ x y run. (s.0, s.1, run)) (run_lifted (e, c, w) s.0 (f, d, v) s.2)

    pub stopped_lifted : (breaks : Writing O) (r q : Option (List ℕ)) → Stopped line_does ticks sends breaks r q (e, c, w) (f, d, v) → GoesOn held e f (λ x y. Stopped (Responds means) ticks sends breaks r q (x, c, w) (y, d, v))
    stopped_lifted breaks r q s =
        let mid : Session (Service H) C O = s.mid in
        let a = s.last in
        weaker held e f _ _ (λ x y t. record {
          lines = s.lines;
          line = s.line;
          others = s.others;
          read = s.read;
          mid = (t.0, mid.1, mid.2);
          ran = t.1;
          last = (a.0, a.1, a.2, t.2, a.4, a.5);
        }) (onwards held e mid.0 f _ _ (run_lifted (e, c, w) s.lines mid s.ran) a.3)
