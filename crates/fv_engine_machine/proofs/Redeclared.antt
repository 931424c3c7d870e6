-- The exits of a redeclare.
use Rattle.std.proofs.Common.{◌≡◌, ◌≢◌, ◌⊎◌, ℕ, ℤ, List, [], Bool, true, false, Ok, Err, inl, inr, refl, sym, ap, subst, ◌∙◌, arith, string_bytes}
use Rattle.sqlite.specs.State.{State, HasCleanDisk}
use Rattle.fv_declare_judging.specs.Declares.{Declares}
use Rattle.fv_declare_judging.specs.declared.fault.DeclFault.{DeclFault}
use Rattle.fv_declare_judging.specs.declared.fault.DeclFault.TheVariants as decl
use Rattle.fv_declare_schema.specs.Declarations.{Declarations}
use Rattle.fv_engine_command.specs.Commands.{redeclare}
use Rattle.fv_engine_pending.specs.Judging.{AreListingsOf}
use Rattle.fv_engine_machine.specs.Keeping.{Fails, told_pass}
use Rattle.fv_engine_machine.specs.Machines.{contents, room_in}
use Rattle.fv_engine_pending.specs.Rejudging.{RejudgeFails, IsOfRecord, HasFewIds}
use Rattle.fv_engine_machine.specs.Redeclaring.{IsAgain, RedeclareStep, Reign, under}
use Rattle.fv_engine_machine.specs.Services.{Attends, GoesOn, TellsOfRecords, serving, text_after}
use Rattle.fv_engine_pending.specs.declared.rejudging.RejudgeFault.{RejudgeFault}
use Rattle.fv_engine_pending.specs.declared.rejudging.RejudgeFault.TheVariants as rejudge
use Rattle.fv_engine_machine.proofs.Rooms.{room_left}
use Rattle.fv_engine_pending.specs.Again.{AllReadAgain}
use Rattle.fv_engine_pending.proofs.Again.{again_fit, again_written}
use Rattle.fv_engine_reply.specs.Answers.{Answer, redeclared, misdeclared, violated, refused}
use Rattle.fv_validate.specs.Violations.{Judged}
use Rattle.fv_engine_reply.specs.declared.answer.Refusal.{Refusal}
use Rattle.fv_engine_reply.specs.declared.answer.Refusal.TheVariants.{LineTooLong, NotJson, Shape, UnknownForm, Bundle, NoRecord, UnknownGroup, NoSuchField, TooManyVisits, Store, Memory}
use Rattle.fv_bundle.specs.Types.{FieldsApart}
use Rattle.fv_registry.specs.Meanings.{Meanings}
use Rattle.fv_registry.specs.Rules.{Known}
use Rattle.fv_store.specs.Causes.{HasFailed, IsShortAbout, LeavesRoom}
use Rattle.fv_store.specs.Records.{AllFit, Contents, Records}
use Rattle.fv_store.specs.Stands.{Frame, HoldsRecords, Stays, IsLive}
use Rattle.fv_store.specs.Stock.{Stock}
use Rattle.fv_store.specs.Written.{writings}

-- the declarations with these records
abbrev reign : Declarations → Records → Reign
reign ds m = record { declared = ds; records = m }

-- want of memory, or a fault of declarations
pub is_decl_memory : (f : DeclFault) → (f ≡ decl.Memory) ⊎ (f ≢ decl.Memory)
is_decl_memory decl.NotJson = inr (λ e. cc)
is_decl_memory decl.Shape = inr (λ e. cc)
is_decl_memory decl.BadName = inr (λ e. cc)
is_decl_memory decl.UnknownName = inr (λ e. cc)
is_decl_memory decl.UnknownGroup = inr (λ e. cc)
is_decl_memory decl.CyclicInheritance = inr (λ e. cc)
is_decl_memory decl.CyclicSequence = inr (λ e. cc)
is_decl_memory decl.SequenceMisused = inr (λ e. cc)
is_decl_memory decl.SequenceLacksType = inr (λ e. cc)
is_decl_memory decl.DefaultInTypeSequence = inr (λ e. cc)
is_decl_memory decl.ConversionMisplaced = inr (λ e. cc)
is_decl_memory decl.CyclicComposition = inr (λ e. cc)
is_decl_memory decl.EmptyConstraint = inr (λ e. cc)
is_decl_memory decl.TooLarge = inr (λ e. cc)
is_decl_memory decl.UnknownRule = inr (λ e. cc)
is_decl_memory decl.Attribute = inr (λ e. cc)
is_decl_memory decl.UnexpectedType = inr (λ e. cc)
is_decl_memory decl.BadPattern = inr (λ e. cc)
is_decl_memory decl.MessageSyntax = inr (λ e. cc)
is_decl_memory decl.MessageCycle = inr (λ e. cc)
is_decl_memory decl.Memory = inl refl

-- ---- two calls on a connection

pub frame_then : (a b c : State) → Frame a b → Frame b c → Frame a c
frame_then a b c one two = record {
  clean = λ clean. one.clean (two.clean clean);
  was_open = λ clean live. one.was_open (two.clean clean) (two.was_open clean live);
  counts = omega (arith, one.counts, two.counts);
  closes = λ clean live. elim (one.closes (two.clean clean) live) [
    | inl still ↦ elim (two.closes clean still) [
      | inl after ↦ inl after
      | inr more ↦ inr (omega (arith, more, one.counts))
    ]
    | inr more ↦ inr (omega (arith, more, two.counts))
  ];
}

pub stays_then : (a b c : State) → Frame b c → Stays a b → Stays b c → Stays a c
stays_then a b c two first second = λ clean live.
    let s = second clean live in
    let f = first s.0 s.1 in
    (f.0, f.1, s.2 ∙ f.2, s.3 ∙ f.3)

pub failed_then : (a b c : State) → Frame a b → Frame b c → HasCleanDisk b → HasFailed b c → HasFailed a c
failed_then a b c one two clean (inl more) = inl (omega (arith, more, one.counts))
failed_then a b c one two clean (inr shut) = go a.is_open refl
  where
    go : (b : Bool) → a.is_open ≡ b → HasFailed a c
    go false is = inr is
    go true is = elim (one.closes clean is) [
      | inl live ↦ let never : false ≡ true = sym shut ∙ live in absurd cc
      | inr more ↦ inl (omega (arith, more, two.counts))
    ]

module _ {S : Type 0} (held : Stock S → State) (means : Meanings) (known : Known) (given : List ℕ) (now : ℤ) (ds : Declarations) where
  -- what a redeclare makes of the service over a store
  abbrev Does : Declarations → Stock S → Stock S → Answer → Type 0
  Does next old new answer = GoesOn held (serving held known ds old) (serving held known next new) (λ x y. Attends means now (redeclare given) x answer y)

  -- nothing is written
  pub unwritten : (old new : Stock S) (answer : Answer) → Frame (held old) (held new) → new.text ≡ old.text → text_after answer given old.text ≡ old.text
      → ((c : Contents) → HoldsRecords (held old) c → HoldsRecords (held new) c) → ((c : Contents) → HoldsRecords (held old) c → Stays (held old) (held new))
      → (TellsOfRecords answer → IsLive (held new))
      → (HasCleanDisk (held new) → (m : Records) → HoldsRecords (held old) (contents old.text ds m) → RedeclareStep known means (reign ds m) given now answer (reign ds m)
      × (answer ≡ refused Store → IsShortAbout given → HasFewIds m → HasFailed (held old) (held new)))
      → Does ds old new answer
  unwritten old new answer frame text after stays untouched live tells = record {
    known = refl;
    declares = λ d. subst (λ (t : List ℕ). Declares known t (Ok ds)) (sym text) d;
    clean = frame.clean;
    related = λ clean m stands.
        let told = tells clean m stands in (
          m,
          (
            told.0,
            record {
              known = refl;
              text = text ∙ sym after;
              written = refl;
              counts = frame.counts;
              was_open = frame.was_open clean;
              closes = frame.closes clean;
              room = λ is. let same = ap room_in (untouched (contents old.text ds m) stands clean is).2 in omega (arith, same);
              live = λ of. live of clean;
              cause = told.1;
            },
          ),
          subst (λ (t : List ℕ). HoldsRecords (held new) (contents t ds m)) (sym text) (stays (contents old.text ds m) stands),
        );
  }

  -- a connection that isn't asked
  frame_same : (s : Stock S) → Frame (held s) (held s)
  frame_same s = record { clean = λ clean. clean; was_open = λ clean live. live; counts = omega arith; closes = λ clean live. inl live }

  -- the declarations aren't taken
  pub is_misdeclared : (old : Stock S) (fault : DeclFault) (answer : Answer) → (fault ≡ decl.Memory → answer ≡ refused Memory) → (fault ≢ decl.Memory → answer ≡ misdeclared fault)
      → (fault ≢ decl.Memory → Declares known given (Err fault)) → (fault ≡ decl.Memory) ⊎ (fault ≢ decl.Memory) → Does ds old old answer
  is_misdeclared old fault answer memory other declares (inl is) = subst (Does ds old old) (sym (memory is))
      (unwritten old old (refused Memory) (frame_same old) refl refl (λ c holds. holds) (λ c holds clean live. (clean, live, refl, refl)) (λ of. absurd of)
      (λ clean m holds. (inr (inl (refl, refl)), λ e. cc)))
  is_misdeclared old fault answer memory other declares (inr is) = subst (Does ds old old) (sym (other is))
      (unwritten old old (misdeclared fault) (frame_same old) refl refl (λ c holds. holds) (λ c holds clean live. (clean, live, refl, refl)) (λ of. absurd of)
      (λ clean m holds. (inl (inl (fault, declares is, refl, refl)), λ e. cc)))

  module _ (next : Declarations) (declares : Declares known given (Ok next)) (old mid : Stock S) (frame : Frame (held old) (held mid)) (text : mid.text ≡ old.text)
      (stays : (c : Contents) → HoldsRecords (held old) c → HoldsRecords (held mid) c)
      (untouched : (c : Contents) → HoldsRecords (held old) c → Stays (held old) (held mid)) where
    -- the records aren't all judged
    pub is_unjudged : (fault : RejudgeFault) → (IsOfRecord fault → IsLive (held mid))
        → (HasCleanDisk (held mid) → (m : Records) → HoldsRecords (held old) (contents old.text ds m) → RejudgeFails next m (HasFailed (held old) (held mid)) fault)
        → Does ds old mid (told_pass fault)
    is_unjudged (rejudge.Unfit id why) live fails = unwritten old mid (told_pass (rejudge.Unfit id why)) frame text refl stays untouched live
        (λ clean m holds. (inl (inr (next, declares, inl (string_bytes id, why, fails clean m holds, refl, refl))), λ e. cc))
    is_unjudged rejudge.TooManyVisits live fails = unwritten old mid (refused TooManyVisits) frame text refl stays untouched live
        (λ clean m holds. let f = fails clean m holds in (inl (inr (next, declares, inr (f.0, inl (f.1, refl, refl)))), λ e. cc))
    is_unjudged rejudge.Store live fails = unwritten old mid (refused Store) frame text refl stays untouched (λ of. absurd of)
        (λ clean m holds. (inr (inr (refl, (next, declares), refl)), λ e short few. fails clean m holds few))
    is_unjudged rejudge.Memory live fails = unwritten old mid (refused Memory) frame text refl stays untouched (λ of. absurd of)
        (λ clean m holds. (inr (inl (refl, refl)), λ e. cc))

    -- some records have violations
    pub is_violated : (ls : List Judged) → (ls ≢ []) → IsLive (held mid)
        → (HasCleanDisk (held mid) → (m : Records) → HoldsRecords (held old) (contents old.text ds m)
        → AllReadAgain next.types next.forms m × AreListingsOf means next now (IsAgain next m) ls) → Does ds old mid (violated ls)
    is_violated ls some live judged = unwritten old mid (violated ls) frame text refl stays untouched (λ of. live)
        (λ clean m holds. let j = judged clean m holds in (inl (inr (next, declares, inr (j.0, inr (inr (ls, j.1, some, refl, refl))))), λ e. cc))

    module _ (new : Stock S) (onward : Frame (held mid) (held new))
        (judged : HasCleanDisk (held mid) → (m : Records) → HoldsRecords (held old) (contents old.text ds m) → AllReadAgain next.types next.forms m × AreListingsOf means next now (IsAgain next m) []) where
      -- they aren't written
      pub is_undone : (why : Refusal) → Fails why (HasCleanDisk (held new) → (c : Contents) → HoldsRecords (held mid) c → IsShortAbout given → HasFailed (held mid) (held new))
          → new.text ≡ mid.text → ((c : Contents) → HoldsRecords (held mid) c → HoldsRecords (held new) c) → Stays (held mid) (held new) → Does ds old new (refused why)
      is_undone why f same undone still = by why f
        where
          through : Frame (held old) (held new)
          through = frame_then (held old) (held mid) (held new) frame onward

          same_text : new.text ≡ old.text
          same_text = same ∙ text

          holds_on : (c : Contents) → HoldsRecords (held old) c → HoldsRecords (held new) c
          holds_on c holds = undone c (stays c holds)

          stays_on : (c : Contents) → HoldsRecords (held old) c → Stays (held old) (held new)
          stays_on c holds = stays_then (held old) (held mid) (held new) onward (untouched c holds) still

          by : (why : Refusal) → Fails why (HasCleanDisk (held new) → (c : Contents) → HoldsRecords (held mid) c → IsShortAbout given → HasFailed (held mid) (held new)) → Does ds old new (refused why)
          by Memory f = unwritten old new (refused Memory) through same_text refl holds_on stays_on (λ of. absurd of) (λ clean m holds. (inr (inl (refl, refl)), λ e. cc))
          by Store f = unwritten old new (refused Store) through same_text refl holds_on stays_on (λ of. absurd of)
              (λ clean m holds. (
                inr (inr (refl, (next, declares), refl)),
                λ e short few. failed_then (held old) (held mid) (held new) frame onward (onward.clean clean)
                    (f clean (contents old.text ds m) (stays (contents old.text ds m) holds) short),
              ))
          by LineTooLong f = absurd f
          by NotJson f = absurd f
          by Shape f = absurd f
          by UnknownForm f = absurd f
          by (Bundle e) f = absurd f
          by NoRecord f = absurd f
          by UnknownGroup f = absurd f
          by NoSuchField f = absurd f
          by TooManyVisits f = absurd f

      -- they are written
      pub is_redeclared : FieldsApart next.types → IsLive (held new) → new.text ≡ given
          → ((c d : Contents) → d.bytes ≡ given → writings d.records ≡ writings c.records → AllFit d → HoldsRecords (held mid) c → HoldsRecords (held new) d)
          → (HasCleanDisk (held new) → (c : Contents) → HoldsRecords (held mid) c → LeavesRoom 0 (held mid).now (held new).now)
          → Does next old new redeclared
      is_redeclared apart live text_now made leaves = record {
        known = refl;
        declares = λ d. subst (λ (t : List ℕ). Declares known t (Ok next)) (sym text_now) declares;
        clean = λ clean. frame.clean (onward.clean clean);
        related = λ clean m holds.
            let mid_clean = onward.clean clean in
            let was_clean = frame.clean mid_clean in
            let now_live = live clean in
            let mid_live = onward.was_open clean now_live in
            let was_live = frame.was_open mid_clean mid_live in
            let old_contents : Contents = contents old.text ds m in
            let fit : AllFit old_contents = (holds was_clean was_live).0.fit in
            let j = judged mid_clean m holds in
            let mid_holds = stays old_contents holds in
            let stood = ap room_in (untouched old_contents holds mid_clean mid_live).2 in
            let left = room_left 0 (held mid).now (held new).now (leaves clean old_contents mid_holds) in (
              under next m,
              (
                inl (inr (next, declares, inr (j.0, inr (inl (j.1, refl, refl))))),
                record {
                  known = refl;
                  text = text_now;
                  written = again_written old_contents next.types next.forms apart fit j.0;
                  counts = (frame_then (held old) (held mid) (held new) frame onward).counts;
                  was_open = λ is. was_live;
                  closes = λ is. inl now_live;
                  room = λ is. omega (arith, left, stood);
                  live = λ of. now_live;
                  cause = λ e. cc;
                },
              ),
              subst (λ (t : List ℕ). HoldsRecords (held new) (contents t next (under next m))) (sym text_now)
                  (made old_contents (contents given next (under next m)) refl (again_written old_contents next.types next.forms apart fit j.0)
                  (again_fit old_contents given next.types next.forms apart fit) mid_holds),
            );
      }
