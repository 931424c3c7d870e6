-- What is answered where there is no record and no store.
use Rattle.std.proofs.Common.{◌≡◌, ◌≢◌, ◌⊎◌, ℕ, zero, suc, ℤ, List, [], ◌∷◌, map, take, true, false, Option, Some, None, Ok, Err, inl, inr, refl, sym, ap, subst, ◌∙◌, arith}
use Rattle.std.specs.List.Sorted.{IsStrictlySortedBy}
use Rattle.std.specs.Option.{unwrap_or}
use Rattle.std.specs.Result.{result_map_both}
use Rattle.serde_json.specs.Data as json
use Rattle.fv_datum.specs.Ascending.{IsAscending}
use Rattle.fv_datum.specs.Lookup.{at_name}
use Rattle.fv_declare_judging.specs.Declares.{Declares}
use Rattle.fv_declare_judging.specs.declared.fault.DeclFault.{DeclFault}
use Rattle.fv_declare_judging.specs.declared.fault.DeclFault.TheVariants as decl
use Rattle.fv_declare_schema.specs.Declarations.{Declarations}
use Rattle.fv_engine_command.specs.Commands.{Asked, Part, Request, redeclare, of_records, get, check, check_field, check_value, list, not_json, shape}
use Rattle.fv_engine_pending.specs.Judging.{AreListingsOf, IsOfJudging, IsStanding, OneIsOverAmong}
use Rattle.fv_engine_machine.specs.Causes.{Handles, HasCause, StoreHasFailed}
use Rattle.fv_engine_machine.specs.Judges.{AnswersBare, ChangesBare, DoneOrTold, JudgesWay, RepliesBare, ServesBare, bare}
use Rattle.fv_engine_machine.specs.Keeping.{ChangesSo, Settles, Takes, told_part, unjudged}
use Rattle.fv_engine_machine.specs.Machines.{Machine}
use Rattle.fv_engine_machine.specs.Redeclaring.{IsAgain, under}
use Rattle.fv_engine_machine.specs.Refusals.{is_too_long, made as parts_make, part_refusal}
use Rattle.fv_engine_machine.proofs.Becoming.{IsOther, checked_none, got_none, listed_ids, out_of_memory, refused_at_once, stays_itself, unlisted}
use Rattle.fv_engine_machine.proofs.Changes.{change_memory, change_misshapen, change_settled, change_unmade, told_other}
use Rattle.fv_engine_machine.proofs.Makes.{bare_made, standing_touched, touched_stands}
use Rattle.fv_engine_machine.proofs.OneField.{field_none}
use Rattle.fv_engine_machine.proofs.Serving.{IsShort}
use Rattle.fv_engine_pending.specs.Again.{AllReadAgain}
use Rattle.fv_engine_pending.specs.Fits.{AreNeeded}
use Rattle.fv_engine_pending.specs.Parts.{are_misshapen}
use Rattle.fv_engine_pending.specs.Steps.{staged, steps_made}
use Rattle.fv_engine_pending.specs.Ways.{Way, overlay}
use Rattle.fv_engine_pending.specs.declared.fault.PartFault.{PartFault}
use Rattle.fv_engine_reply.specs.Answers.{Answer, done, ids, misdeclared, redeclared, refused, violated}
use Rattle.fv_engine_reply.specs.Texts.{Tells}
use Rattle.fv_engine_reply.specs.declared.answer.Done.{Done}
use Rattle.fv_engine_reply.specs.declared.answer.Refusal.TheVariants.{NoRecord, NotJson, Shape, TooManyVisits, UnknownForm, Store, Memory}
use Rattle.fv_registry.specs.Meanings.{Meanings}
use Rattle.fv_registry.specs.Rules.{Known}
use Rattle.fv_store.specs.Lists.{Lists}
use Rattle.fv_store.specs.Records.{Records, Roots, no_records}
use Rattle.fv_bundle.specs.Types.{Declared}
use Rattle.fv_validate.specs.Violations.{Judged}
use Rattle.fv_validate.specs.declared.fault.ValidateFault.{ValidateFault}
use Rattle.fv_validate.specs.declared.fault.ValidateFault.TheVariants as validate

-- the machine over these records, of which nothing is shut and nothing has failed
abbrev pub machine_of : Declarations → Records → Machine Records
machine_of ds m = record { declared = ds; records = m; is_open = true; faults = 0; room = 1 }

abbrev no_ids : List (List ℕ)
no_ids = []

take_nil : (n : ℕ) → take n no_ids ≡ no_ids
take_nil zero = refl
take_nil (suc n) = refl

-- no names ascend
nothing : IsAscending []
unfolding IsStrictlySortedBy
nothing = tt

-- an answer of another sort isn't that of the store
pub not_store : (answer : Answer) → IsOther answer → answer ≢ refused Store
not_store answer other is = subst IsOther is other

-- that machine hasn't failed
unfailed : (ds : Declarations) (m n : Records) → StoreHasFailed (machine_of ds m) (machine_of ds n) → ⊥
unfailed ds m n (inl more) = omega (arith, more)
unfailed ds m n (inr shut) = cc

module _ (means : Meanings) (ds : Declarations) (now : ℤ) where
  -- a step of that machine is one from no records
  pub stepped : (r : Request) (y : Machine Records) (answer : Answer) → answer ≢ refused Store → Handles means now r (machine_of ds no_records) answer y → ServesBare means ds now r answer
  stepped r y answer other handles = (other, (y.records, handles.0))

  pub changed : (parts : List Part) (what : Done) (y : Machine Records) (answer : Answer) → answer ≢ refused Store → ChangesSo means now parts what (machine_of ds no_records) answer y → ChangesBare means ds now parts what answer
  changed parts what y answer other so = λ r command. stepped r y answer other (so r command)

  -- ---- parts

  pub bare_memory : (parts : List Part) (what : Done) → ChangesBare means ds now parts what (refused Memory)
  bare_memory parts what = changed parts what (machine_of ds no_records) (refused Memory) (λ e. cc)
      (change_memory means now parts what (machine_of ds no_records) (machine_of ds no_records) (stays_itself (machine_of ds no_records)))

  pub bare_misshapen : (parts : List Part) (what : Done) → are_misshapen ds.types ds.forms parts ≡ true → ChangesBare means ds now parts what (refused Shape)
  bare_misshapen parts what is = changed parts what (machine_of ds no_records) (refused Shape) (λ e. cc) (change_misshapen means now parts what (machine_of ds no_records) is)

  module _ (parts : List Part) (what : Done) (shaped : are_misshapen ds.types ds.forms parts ≡ false) where
    pub bare_unmade : (e : ℕ × PartFault) → steps_made ds.types 0 (map (staged ds.types ds.forms) parts) [] ≡ Err e → ChangesBare means ds now parts what (told_part what e.0 (part_refusal e.1))
    bare_unmade e is =
        let fails : parts_make ds parts no_records ≡ Err e = bare_made ds.types ds.forms 0 parts ∙ ap (result_map_both (λ w. overlay w no_records) (λ f. f)) is in
        changed parts what (machine_of ds no_records) (told_part what e.0 (part_refusal e.1)) (not_store (told_part what e.0 (part_refusal e.1)) (told_other what e.0 e.1))
        (change_unmade means now parts what (machine_of ds no_records) shaped e fails (machine_of ds no_records) (stays_itself (machine_of ds no_records)) (λ needs. refl))

    module _ (way : Way) (goes : steps_made ds.types 0 (map (staged ds.types ds.forms) parts) [] ≡ Ok way) where
      makes : parts_make ds parts no_records ≡ Ok (overlay way no_records)
      makes = bare_made ds.types ds.forms 0 parts ∙ ap (result_map_both (λ w. overlay w no_records) (λ f. f)) goes

      none_needed : AreNeeded parts []
      none_needed id on = let never : false ≡ true = on in absurd cc

      settled_as : (y : Machine Records) (answer : Answer) → answer ≢ refused Store → Settles means now 0 way what (machine_of ds no_records) answer y → ChangesBare means ds now parts what answer
      settled_as y answer other settles = changed parts what y answer other
          (change_settled means now parts what (machine_of ds no_records) shaped 0 way (machine_of ds no_records) y makes (stays_itself (machine_of ds no_records)) refl (λ needs. refl) (omega arith)
          (λ id k. touched_stands ds.types ds.forms 0 parts [] way goes no_records id k)
          (λ id k stands. standing_touched ds.types ds.forms 0 parts [] way goes no_records id k none_needed stands) answer settles)

      listed : (ls : List Judged) → AreListingsOf means ds now (IsStanding way) ls → (answer : Answer) → DoneOrTold what ls answer → ChangesBare means ds now parts what answer
      listed [] none answer is =
          let takes : Takes (overlay way no_records) 0 (machine_of ds no_records) (machine_of ds (overlay way no_records)) = record { declared = refl; records = refl; was_open = refl; is_open = refl; counts = omega arith; room = omega arith } in
          settled_as (machine_of ds (overlay way no_records)) answer (λ e. let never : done what ≡ refused Store = sym is ∙ e in cc) (inr (inl ([], none, (is, takes))))
      listed (l ∷ ls) are answer is =
          settled_as (machine_of ds no_records) answer (λ e. let never : violated (l ∷ ls) ≡ refused Store = sym is ∙ e in cc) (inr (inl (l ∷ ls, are, (is, stays_itself (machine_of ds no_records)))))

      pub bare_judged : (answer : Answer) → JudgesWay means ds now way what answer → ChangesBare means ds now parts what answer
      bare_judged answer (inl over) =
          settled_as (machine_of ds no_records) answer (λ e. let never : refused TooManyVisits ≡ refused Store = sym over.1 ∙ e in cc) (inl (over.0, over.1, stays_itself (machine_of ds no_records)))
      bare_judged answer (inr (inl told)) = listed told.0 told.1 answer told.2
      bare_judged answer (inr (inr is)) =
          settled_as (machine_of ds no_records) answer (λ e. let never : refused Memory ≡ refused Store = sym is ∙ e in cc) (inr (inr (Memory, tt, is, stays_itself (machine_of ds no_records))))

  -- ---- other requests

  -- a command that is there is what is asked
  pub bare_asked : (o : Option Request) (r : Request) (answer : Answer) → Some r ≡ o → ServesBare means ds now r answer → ServesBare means ds now (unwrap_or o shape) answer
  bare_asked o r answer is serves = subst (λ (p : Option Request). ServesBare means ds now (unwrap_or p shape) answer) is serves

  pub bare_forgets : (r : Request) → is_too_long r ≡ false → ServesBare means ds now r (refused Memory)
  bare_forgets r short = stepped r (machine_of ds no_records) (refused Memory) (λ e. cc) (out_of_memory means now r (machine_of ds no_records) (machine_of ds no_records) (stays_itself (machine_of ds no_records)) short)

  pub bare_shape : ServesBare means ds now shape (refused Shape)
  bare_shape = stepped shape (machine_of ds no_records) (refused Shape) (λ e. cc) (refused_at_once means now shape (machine_of ds no_records) Shape refl tt refl)

  pub bare_not_json : ServesBare means ds now not_json (refused NotJson)
  bare_not_json = stepped not_json (machine_of ds no_records) (refused NotJson) (λ e. cc) (refused_at_once means now not_json (machine_of ds no_records) NotJson refl tt refl)

  pub bare_get : (id : List ℕ) → ServesBare means ds now (get id) (refused NoRecord)
  bare_get id = stepped (get id) (machine_of ds no_records) (refused NoRecord) (λ e. cc) (got_none means now id (machine_of ds no_records) (machine_of ds no_records) (stays_itself (machine_of ds no_records)) refl refl)

  pub bare_check : (id : List ℕ) (names : List (List ℕ)) → ServesBare means ds now (check id names) (refused NoRecord)
  bare_check id names = stepped (check id names) (machine_of ds no_records) (refused NoRecord) (λ e. cc)
      (checked_none means now id names (machine_of ds no_records) (machine_of ds no_records) (stays_itself (machine_of ds no_records)) refl refl)

  pub bare_check_field : (id object field : List ℕ) (names : List (List ℕ)) → ServesBare means ds now (check_field id object field names) (refused NoRecord)
  bare_check_field id object field names = stepped (check_field id object field names) (machine_of ds no_records) (refused NoRecord) (λ e. cc)
      (field_none means now id object field names (machine_of ds no_records) (machine_of ds no_records) (stays_itself (machine_of ds no_records)) refl refl)

  -- a checkvalue takes no rowid: the store would have no cause
  pub bare_value : (type field : List ℕ) (value : json.Data) (names : List (List ℕ)) (answer : Answer)
      → Handles means now (check_value type field value names) (machine_of ds no_records) answer (machine_of ds no_records) → ServesBare means ds now (check_value type field value names) answer
  bare_value type field value names answer handles = stepped (check_value type field value names) (machine_of ds no_records) answer (λ e. unfailed ds no_records no_records (failed (handles.1.cause e))) handles
    where
      failed : HasCause means now (check_value type field value names) (machine_of ds no_records) (machine_of ds no_records) → StoreHasFailed (machine_of ds no_records) (machine_of ds no_records)
      failed (inl is) = is
      failed (inr taken) = taken.2 (omega arith, λ id k touched. let never : false ≡ true = touched.0 in absurd cc)

  -- ---- lists

  pub bare_unlisted : (form : List ℕ) (after : Option (List ℕ)) (limit : ℕ) → at_name form ds.forms ≡ None → ServesBare means ds now (list form after limit) (refused UnknownForm)
  bare_unlisted form after limit none = stepped (list form after limit) (machine_of ds no_records) (refused UnknownForm) (λ e. cc)
      (unlisted means now form after limit (machine_of ds no_records) (machine_of ds no_records) none (stays_itself (machine_of ds no_records)))

  none_listed : (form above : List ℕ) (limit : ℕ) → Lists no_records form above limit []
  none_listed form above limit = (
    [],
    record { ascending = nothing; sound = λ id has. absurd has; complete = λ id is. let never : None ≡ Some is.kept = is.known in absurd cc },
    sym (take_nil limit),
  )

  pub bare_listed : (form : List ℕ) (after : Option (List ℕ)) (limit : ℕ) (type : List ℕ) → at_name form ds.forms ≡ Some type → ServesBare means ds now (list form after limit) (ids [])
  bare_listed form after limit type some = stepped (list form after limit) (machine_of ds no_records) (ids []) (λ e. cc)
      (listed_ids means now form after limit (machine_of ds no_records) (machine_of ds no_records) type some (stays_itself (machine_of ds no_records)) refl [] (none_listed form (unwrap_or after []) limit))

-- ---- judging

module _ (means : Meanings) (ds : Declarations) (now : ℤ) (way : Way) (what : Done) where
  pub judged_none : AreListingsOf means ds now (IsStanding way) [] → JudgesWay means ds now way what (done what)
  judged_none none = inr (inl ([], none, refl))

  pub judged_some : (ls : List Judged) → AreListingsOf means ds now (IsStanding way) ls → (ls ≡ [] → ⊥) → JudgesWay means ds now way what (violated ls)
  judged_some [] are some = absurd (some refl)
  judged_some (l ∷ ls) are some = inr (inl (l ∷ ls, are, refl))

  pub judged_not : (fault : ValidateFault) → IsOfJudging fault → (fault ≡ validate.TooManyVisits → OneIsOverAmong ds (IsStanding way)) → JudgesWay means ds now way what (refused (unjudged fault))
  judged_not validate.UnknownGroup other many = absurd (other.0 refl)
  judged_not validate.NoSuchField other many = absurd (other.1 refl)
  judged_not validate.TooManyVisits other many = inl (many refl, refl)
  judged_not validate.Memory other many = inr (inr refl)

-- ---- declarations

module _ (known : Known) (means : Meanings) (ds : Declarations) (now : ℤ) where
  all_again : (types : Declared) (forms : Roots) → AllReadAgain types forms no_records
  all_again types forms id k is = let never : None ≡ Some k = is in absurd cc

  nobody : (next : Declarations) → AreListingsOf means next now (IsAgain next no_records) []
  nobody next = record { ascending = nothing; sound = λ l has. absurd has; complete = λ id k is. let never : None ≡ Some k = is in absurd cc }

  pub bare_redeclared : (given : List ℕ) (next : Declarations) → Declares known given (Ok next) → AnswersBare known means ds now (redeclare given) redeclared
  bare_redeclared given next declares = (
    λ e. cc,
    (record { declared = next; records = under next no_records }, inl (inr (next, declares, inr (all_again next.types next.forms, inr (inl (nobody next, refl, refl)))))),
  )

  pub bare_misdeclared : (given : List ℕ) (fault : DeclFault) (answer : Answer) → (fault ≡ decl.Memory → answer ≡ refused Memory) → (fault ≢ decl.Memory → answer ≡ misdeclared fault)
      → (fault ≢ decl.Memory → Declares known given (Err fault)) → (fault ≡ decl.Memory) ⊎ (fault ≢ decl.Memory) → AnswersBare known means ds now (redeclare given) answer
  bare_misdeclared given fault answer memory other declares (inl is) = subst (AnswersBare known means ds now (redeclare given)) (sym (memory is)) (λ e. cc, (bare ds, inr (inl (refl, refl))))
  bare_misdeclared given fault answer memory other declares (inr is) = subst (AnswersBare known means ds now (redeclare given)) (sym (other is)) (λ e. cc, (bare ds, inl (inl (fault, declares is, refl, refl))))

  -- ---- what is asked

  pub bare_served : (r : Request) (answer : Answer) → ServesBare means ds now r answer → AnswersBare known means ds now (of_records r) answer
  bare_served r answer serves = (serves.0, (record { declared = ds; records = serves.1.0 }, (serves.1.1, refl)))

  forgotten : (what : Asked) → IsShort what → AnswersBare known means ds now what (refused Memory)
  forgotten (redeclare given) short = (λ e. cc, (bare ds, inr (inl (refl, refl))))
  forgotten (of_records r) short = bare_served r (refused Memory) (bare_forgets means ds now r short)

  -- a text that tells an answer is a reply, also where memory was refused for it
  pub bare_told : (what : Asked) → IsShort what → (answer : Answer) (text : List ℕ) → Tells text answer → AnswersBare known means ds now what answer → RepliesBare known means ds now what text
  bare_told what short answer text (inl is) answers = (answer, is, answers)
  bare_told what short answer text (inr made) answers = (refused Memory, made.1, forgotten what short)

  pub bare_unread : (what : Asked) → IsShort what → (text : List ℕ) → Tells text (refused Memory) → RepliesBare known means ds now what text
  bare_unread what short text tells = bare_told what short (refused Memory) text tells (forgotten what short)
