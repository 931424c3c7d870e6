-- Laws of a call: each from the step that it is.
use Rattle.std.proofs.Common.{arith, codes, ◌<◌, ◌≤◌, ◌≡◌, ◌≢◌, ◌⊎◌, ◌||◌, ℕ, ℤ, IsTrue, not, bytes_eq, Bool, true, false, if◌then◌else◌, List, [], ◌∷◌, Option, Some, None, is_some, option_map, option_and_then, Result, Ok, Err, inl, inr, refl, sym, ap, subst, ◌∙◌}
use Rattle.std.specs.List.{AllByRecursion, list_any}
use Rattle.std.specs.List.Sorted.{IsStrictlySortedBy}
use Rattle.std.specs.Result.{result_err}
use Rattle.std.proofs.Math.Path.{fun_ext}
use Rattle.std.proofs.lemmas.Slice.Eq.{bytes_eq-Decides}
use Rattle.sqlite.specs.Disk.{MoreFaults}
use Rattle.sqlite.specs.State.{State, HasCleanDisk}
use Rattle.sqlite_rules.specs.Lists.{Has}
use Rattle.serde_json.specs.Data as json
use Rattle.fv_datum.specs.Ascending.{IsAscending}
use Rattle.fv_datum.specs.Lookup.{at_name}
use Rattle.fv_declare_schema.specs.Declarations.{Declarations}
use Rattle.fv_engine.specs.Laws.{IsDone, IsFailure, IsRedeclared, IsNoMisfit, OnlyAdd, AreNamesOf, ShowsTheSame, LeavesNothingAtAll, FitsWhereAdded, FailsForRoomAlone, ShowsWhatWasPut, ChangesNoGet, HasSome, ListsSome, MayChangePlaces, LooksFor, FailsWhereShut, LeavesNothingToList}
use Rattle.fv_engine_machine.specs.Causes.{StoreHasFailed, Caused, Handles}
use Rattle.fv_engine_machine.specs.Machines.{Machine, contents}
use Rattle.fv_engine_machine.specs.Redeclaring.{IsAgain, JudgesAll, RedeclareStep, Refits, Reign, misfit, under}
use Rattle.fv_engine_machine.specs.Services.{Attends, GoesOn, ServiceKeeps, RedeclareCauses, Responds, Service, TellsOfRecords, Turned, reign_of, with_mapped}
use Rattle.fv_engine_machine.proofs.Becoming.{checked_other, step_stays}
use Rattle.fv_engine_machine.specs.Refusals.{when, first_of, is_too_long, is_no_json, is_misshapen_line, lacks_form, value_fault, part_fault, lacks_record, lacks_group, lacks_field, part_refusal, told_fault, made, batch_parts, refusal}
use Rattle.fv_engine_machine.specs.Step.{done_by, Changes, Checked, FieldChecked, Serves, LooksUp, Step, Told}
use Rattle.fv_engine.proofs.Lifts.{follows, redeclare_rests, turned_of, weaker}
use Rattle.fv_engine_machine.proofs.Changes.{by_itself, refusal_of}
use Rattle.fv_engine_command.specs.Commands.{Part, put, set, remove, Request, too_long, not_json, shape, alone, batch, get, check, check_field, check_value, list, asked, Asked, redeclare, of_records, asks}
use Rattle.fv_engine_command.proofs.Asking.{asks_inner, asks_shape}
use Rattle.fv_declare_schema.specs.Groups.{numbers_of}
use Rattle.fv_declare_schema.specs.Judged.{unknown_group_in}
use Rattle.fv_engine_pending.specs.Judging.{groups_of, IsListingOf, AreListings, AreListingsOf}
use Rattle.fv_bundle.specs.Bundles.{Thing, Bundled}
use Rattle.fv_model.specs.Reading.{value_read}
use Rattle.fv_model.specs.declared.fault.BundleFault.{BundleFault}
use Rattle.fv_engine_pending.specs.Parts.{bundle_under, kept_as, and_then, is_misread, part_made}
use Rattle.fv_engine_pending.specs.Steps.{numbered}
use Rattle.fv_engine_pending.specs.Touched.{IsTouched, needed_id, touches}
use Rattle.fv_engine_pending.specs.declared.fault.PartFault.{PartFault}
use Rattle.fv_engine_pending.specs.declared.fault.PartFault.TheVariants as part
use Rattle.fv_registry.specs.Meanings.{Meanings}
use Rattle.fv_registry.specs.Rules.{Known}
use Rattle.fv_declare_judging.specs.Declares.{Declares}
use Rattle.fv_engine_pending.specs.Again.{AllReadAgain}
use Rattle.fv_engine_pending.proofs.Again.{again_extended}
use Rattle.fv_model.specs.Writing.{bundle_json}
use Rattle.fv_model.proofs.Again.{same_json}
use Rattle.serde_json.specs.Written.{compact_text}
use Rattle.fv_engine_reply.specs.Answers.{Answer, done, shown, violated, checked, field_checked, value_checked, ids, refused, part_refused, redeclared, misdeclared, unfit}
use Rattle.fv_validate.specs.Violations.{Judged}
use Rattle.fv_engine_reply.specs.Texts.{answer_text, reply_members}
use Rattle.fv_engine_reply.specs.declared.answer.Done.{Done}
use Rattle.fv_engine_reply.specs.declared.answer.Done.TheVariants.{Put, Batch}
use Rattle.fv_engine_reply.specs.declared.answer.Refusal.{Refusal}
use Rattle.fv_engine_reply.specs.declared.answer.Refusal.TheVariants.{LineTooLong, NotJson, Shape, UnknownForm, Bundle, NoRecord, UnknownGroup, NoSuchField, TooManyVisits, Store, Memory}
use Rattle.fv_engine.proofs.OnlyStore.{only_store}
use Rattle.fv_engine_reply.proofs.Apart.{only_done, only_redeclared}
use Rattle.fv_store.specs.Records.{Kept, Records, with_record}
use Rattle.fv_store.specs.Written.{Written, written_of, writings}
use Rattle.fv_walk.specs.Visits.{HasFewVisits}
use Rattle.fv_local.specs.Requests.{asked_groups, judging, request_of, unjudged, visiting}
use Rattle.fv_walk_traces.specs.Finite.{AreSoMany}
use Rattle.fv_walk_traces.specs.Traces.{IsVisit}
use Rattle.fv_walk_traces.specs.Violations.{IsViolation}
use Rattle.fv_walk_traces.proofs.Told.{one_number}
use Rattle.fv_bundle.specs.Types.{TypeUse, FieldsApart}
use Rattle.fv_validate.specs.Values.{field_use, valued}
use Rattle.fv_validate.specs.Violations.{Reported, AreListed, IsListing}
use Rattle.fv_validate.proofs.Alike.{one_listing}

-- the declarations with these records
abbrev reign : Declarations → Records → Reign
reign ds m = record { declared = ds; records = m }

-- ---- answers of different kinds

done_or_refused : (what : Done) (why : Refusal) → done what ≡ refused why → ⊥
done_or_refused what why e = cc

-- it doesn't tell that the store failed
abbrev IsJudged : Refusal → Type 0
IsJudged Store = ⊥
IsJudged _ = Unit {0}

-- a refusal, of a command or of a part, and not for violations, nor because the store failed
abbrev IsRefusal : Answer → Type 0
IsRefusal (refused why) = IsJudged why
IsRefusal (part_refused n why) = Unit {0}
IsRefusal _ = ⊥

refusal_some : (a : Answer) → IsRefusal a → HasSome a
refusal_some (done what) is = absurd is
refusal_some (shown id form b) is = absurd is
refusal_some (violated ls) is = absurd is
refusal_some (checked vs) is = absurd is
refusal_some (field_checked vs) is = absurd is
refusal_some (value_checked vs) is = absurd is
refusal_some (ids found) is = absurd is
refusal_some (refused why) is = tt
refusal_some (part_refused n why) is = tt
refusal_some redeclared is = absurd is
refusal_some (misdeclared fault) is = absurd is
refusal_some (unfit id why) is = absurd is

-- the same of what may be one
abbrev Refuses : Option Answer → Type 0
Refuses None = Unit {0}
Refuses (Some a) = IsRefusal a

when_refuses : (b : Bool) (why : Refusal) → IsJudged why → Refuses (when b why)
when_refuses true why is = is
when_refuses false why is = tt

part_judged : (f : PartFault) → IsJudged (part_refusal f)
part_judged part.UnknownForm = tt
part_judged (part.Bundle fault) = tt
part_judged part.NoRecord = tt
part_judged part.Memory = tt

fault_refuses : (tells : ℕ → Refusal → Answer) → ((n : ℕ) (why : Refusal) → IsJudged why → IsRefusal (tells n why)) → (r : Result Records (ℕ × PartFault)) → Refuses (told_fault tells r)
fault_refuses tells each (Ok m) = tt
fault_refuses tells each (Err e) = each e.0 (part_refusal e.1) (part_judged e.1)

part_refuses : (ds : Declarations) (m : Records) (r : Request) → Refuses (part_fault ds m r)
part_refuses ds m too_long = tt
part_refuses ds m not_json = tt
part_refuses ds m shape = tt
part_refuses ds m (alone p) = fault_refuses (λ n why. refused why) (λ n why is. is) (made ds (p ∷ []) m)
part_refuses ds m (batch ps) = fault_refuses part_refused (λ n why is. tt) (made ds ps m)
part_refuses ds m (get id) = tt
part_refuses ds m (check id names) = tt
part_refuses ds m (check_field id object field names) = tt
part_refuses ds m (check_value type field value names) = tt
part_refuses ds m (list form after limit) = tt

read_refuses : {X : Type 0} (r : Result X BundleFault) → Refuses (option_map (λ (f : BundleFault). refused (Bundle f)) (result_err r))
read_refuses (Ok x) = tt
read_refuses (Err fault) = tt

use_refuses : (value : json.Data) (o : Option TypeUse) → Refuses (option_and_then (λ u. option_map (λ (f : BundleFault). refused (Bundle f)) (result_err (value_read u value))) o)
use_refuses value None = tt
use_refuses value (Some u) = read_refuses (value_read u value)

value_refuses : (ds : Declarations) (r : Request) → Refuses (value_fault ds r)
value_refuses ds too_long = tt
value_refuses ds not_json = tt
value_refuses ds shape = tt
value_refuses ds (alone p) = tt
value_refuses ds (batch ps) = tt
value_refuses ds (get id) = tt
value_refuses ds (check id names) = tt
value_refuses ds (check_field id object field names) = tt
value_refuses ds (check_value type field value names) = use_refuses value (field_use ds.types type field)
value_refuses ds (list form after limit) = tt

first_refuses : (os : List (Option Answer)) → AllByRecursion Refuses os → Refuses (first_of os)
first_refuses [] all = tt
first_refuses (Some a ∷ os) all = all.0
first_refuses (None ∷ os) all = first_refuses os all.1

refusal_refuses : (ds : Declarations) (m : Records) (r : Request) → Refuses (refusal ds m r)
refusal_refuses ds m r = first_refuses (
    when (is_too_long r) LineTooLong
    ∷ when (is_no_json r) NotJson
    ∷ when (is_misshapen_line ds r) Shape
    ∷ when (lacks_form ds r) UnknownForm
    ∷ value_fault ds r
    ∷ part_fault ds m r
    ∷ when (lacks_record m r) NoRecord
    ∷ when (lacks_group ds r) UnknownGroup
    ∷ when (lacks_field ds m r) NoSuchField
    ∷ []
    ) (
      when_refuses (is_too_long r) LineTooLong tt,
      (
        when_refuses (is_no_json r) NotJson tt,
        (
          when_refuses (is_misshapen_line ds r) Shape tt,
          (
            when_refuses (lacks_form ds r) UnknownForm tt,
            (value_refuses ds r, (part_refuses ds m r, (when_refuses (lacks_record m r) NoRecord tt, (when_refuses (lacks_group ds r) UnknownGroup tt, (when_refuses (lacks_field ds m r) NoSuchField tt, tt))))),
          ),
        ),
      ),
    )

told_refusal : (ds : Declarations) (m : Records) (r : Request) (answer : Answer) → refusal ds m r ≡ Some answer → IsRefusal answer
told_refusal ds m r answer is = subst Refuses is (refusal_refuses ds m r)

-- ---- what a taken command did

-- parts were made, what they left has no violation, and these are the records
abbrev Took : Meanings → Declarations → ℤ → List Part → Records → Records → Type 0
Took means ds now parts m n = (made ds parts m ≡ Ok n) × AreListings means ds now parts n []

module _ (means : Meanings) (ds : Declarations) (now : ℤ) (what : Done) (m n : Records) where
  changed_took : (parts : List Part) (told : Done) → Changes means ds now parts told m (done what) n → Took means ds now parts m n
  changed_took parts told (copy, is, inl over) = absurd (done_or_refused what TooManyVisits over.1)
  changed_took parts told (copy, is, inr (inl taken)) = (
    subst (λ (c : Records). made ds parts m ≡ Ok c) (sym taken.2) is,
    subst (λ (c : Records). AreListings means ds now parts c []) (sym taken.2) taken.0,
  )
  changed_took parts told (copy, is, inr (inr some)) = let never : done what ≡ violated some.0 = some.3 in absurd cc

  field_other : (o : Thing) (field : List ℕ) (groups : List ℕ) (lists : List Reported → Answer) → ((vs : List Reported) → done what ≡ lists vs → ⊥)
      → FieldChecked means ds now o field groups lists (done what) → ⊥
  field_other o field groups lists other (inl many) = done_or_refused what TooManyVisits many.1
  field_other o field groups lists other (inr told) = other told.0 told.3

  served_took : (r : Request) → Serves means ds now r m (done what) n → Took means ds now (batch_parts r) m n
  served_took too_long s = absurd s
  served_took not_json s = absurd s
  served_took shape s = absurd s
  served_took (alone p) s = changed_took (p ∷ []) (done_by p) s
  served_took (batch ps) s = changed_took ps Batch s
  served_took (get id) s = let never : done what ≡ shown id s.0.form s.0.bundle = s.2 in absurd cc
  served_took (check id names) s = absurd (checked_other means ds now s.0.bundle (numbers_of ds.groups names) (done what) s.2)
  served_took (check_field id object field names) s =
      absurd (field_other s.2.0 field (numbers_of ds.groups names) field_checked (λ vs never. cc) s.2.2)
  served_took (check_value type field value names) s =
      absurd (field_other (valued ds.types type field s.2.0) field (numbers_of ds.groups names) value_checked (λ vs never. cc) s.2.2)
  served_took (list form after limit) s = let never : done what ≡ ids s.0 = s.2 in absurd cc

  took : (r : Request) → Step means ds m r now (done what) n → Took means ds now (batch_parts r) m n
  took r (inl (inl refuses)) = absurd (told_refusal ds m r (done what) refuses.0)
  took r (inl (inr serves)) = served_took r serves.1
  took r (inr (inl memory)) = absurd (done_or_refused what Memory memory.0)
  took r (inr (inr store)) = absurd (done_or_refused what Store store.0)

  told_took : (line reply : List ℕ) → IsDone what reply → Told means ds m line now reply n → Took means ds now (batch_parts (asked line)) m n
  told_took line reply is_done told = took (asked line)
      (subst (λ (a : Answer). Step means ds m (asked line) now a n) (only_done told.0 what (sym told.1 ∙ is_done)) told.2)

-- ---- what a taken put did

abbrev keep : List ℕ → Bundled → Kept
keep form b = record { form = form; bundle = b }

abbrev TookPut : Meanings → Declarations → ℤ → List ℕ → List ℕ → json.Data → Records → Records → Type 0
TookPut means ds now id form bundle m n =
    (is_some (at_name form ds.forms) ≡ true) × (b : Bundled) × (bundle_under ds.types ds.forms form bundle ≡ Ok b)
    × IsListingOf means ds now (keep form b) [] × (n ≡ with_record id (keep form b) m)

none_ascend : IsAscending []
unfolding IsStrictlySortedBy
none_ascend = tt

one_made : (r : Result Records PartFault) (m : Records) → and_then (λ (n : Records). Ok n) (numbered 0 r) ≡ Ok m → r ≡ Ok m
one_made (Ok n) m e = cc
one_made (Err why) m e = cc

same_kept : (k l : Kept) → Some k ≡ Some l → k ≡ l
same_kept k l e = cc

there : (id : List ℕ) (kept : Kept) (m : Records) → with_record id kept m id ≡ Some kept
there id kept m = ap (λ (b : Bool). if b then Some kept else m id) ((bytes_eq-Decides id id).1 refl)

module _ (means : Meanings) (ds : Declarations) (now : ℤ) (id form : List ℕ) (bundle : json.Data) where
  abbrev the_part : List Part
  the_part = put id form bundle ∷ []

  -- the id is touched, and no other
  put_touches : list_any (touches id) the_part ≡ true
  put_touches = ap (λ (b : Bool). b || false) ((bytes_eq-Decides id id).1 refl)

  only_touched : (m : Records) (i : List ℕ) (k kept : Kept) → IsTouched the_part (with_record id kept m) i k → k ≡ kept
  only_touched m i k kept touched =
      let same = (bytes_eq-Decides i id).0 (either (bytes_eq i id) touched.0) in
      same_kept k kept (sym touched.1 ∙ ap (λ (n : List ℕ). with_record id kept m n) same ∙ there id kept m)
    where
      either : (b : Bool) → (b || false) ≡ true → b ≡ true
      either true e = refl
      either false e = e

  put_in_is : (m n : Records) → part_made ds.types ds.forms (put id form bundle) m ≡ Ok n
      → (is_some (at_name form ds.forms) ≡ true) × (b : Bundled) × (bundle_under ds.types ds.forms form bundle ≡ Ok b) × (n ≡ with_record id (keep form b) m)
  put_in_is m n is = go (is_some (at_name form ds.forms)) (bundle_under ds.types ds.forms form bundle) refl refl is
    where
      go : (declared : Bool) (read : Result Bundled BundleFault) → is_some (at_name form ds.forms) ≡ declared → bundle_under ds.types ds.forms form bundle ≡ read
          → (if declared then kept_as id form m read else Err part.UnknownForm) ≡ Ok n
          → (is_some (at_name form ds.forms) ≡ true) × (b : Bundled) × (bundle_under ds.types ds.forms form bundle ≡ Ok b) × (n ≡ with_record id (keep form b) m)
      go true (Ok b) declared read e = let same : Ok (with_record id (keep form b) m) ≡ Ok n = e in (declared, b, read, cc)
      go true (Err f) declared read e = cc
      go false read declared is_read e = cc

  put_makes : (m : Records) (b : Bundled) → is_some (at_name form ds.forms) ≡ true → bundle_under ds.types ds.forms form bundle ≡ Ok b
      → made ds the_part m ≡ Ok (with_record id (keep form b) m)
  put_makes m b declared read =
      ap (λ (r : Result Records PartFault). and_then (λ (n : Records). Ok n) (numbered 0 r))
      (ap (λ (d : Bool). if d then kept_as id form m (bundle_under ds.types ds.forms form bundle) else Err part.UnknownForm) declared ∙ ap (kept_as id form m) read)

  took_put : (m n : Records) → Took means ds now the_part m n → TookPut means ds now id form bundle m n
  took_put m n (is, none) =
      let p = put_in_is m n (one_made (part_made ds.types ds.forms (put id form bundle) m) n is) in
      let known : n id ≡ Some (keep form p.1) = ap (λ (q : Records). q id) p.3 ∙ there id (keep form p.1) m in
      let listing : IsListingOf means ds now (keep form p.1) [] = elim (none.complete id (keep form p.1) (put_touches, known)) [ inl listed ↦ listed | inr some ↦ absurd some.1 ] in
      (p.0, p.1, p.2, listing, p.3)

  -- one record without a violation
  none_listed : (m : Records) (kept : Kept) → IsListingOf means ds now kept [] → AreListings means ds now the_part (with_record id kept m) []
  none_listed m kept none = record {
    ascending = none_ascend;
    sound = λ l has. absurd has;
    complete = λ i k touched. inl (subst (λ (j : Kept). IsListingOf means ds now j []) (sym (only_touched m i k kept touched)) none);
  }

  takes_put : (m n : Records) → TookPut means ds now id form bundle m n → Step means ds m (alone (put id form bundle)) now (done Put) n
  takes_put m n (declared, b, read, none, same) =
      let kept = keep form b in
      let is : made ds the_part m ≡ Ok (with_record id kept m) = put_makes m b declared read in
      let shaped = ap (λ (r : Result Bundled BundleFault). is_misread r || false) read in
      inl (inr (
        refusal_of ds m the_part Put shaped (alone (put id form bundle)) (by_itself (put id form bundle)) (Ok (with_record id kept m)) is,
        (with_record id kept m, is, inr (inl (none_listed m kept none, refl, same))),
      ))

  module _ (line reply : List ℕ) (asks : asked line ≡ alone (put id form bundle)) (is_done : IsDone Put reply) where
    told_took_put : (m n : Records) → Told means ds m line now reply n → TookPut means ds now id form bundle m n
    told_took_put m n told = took_put m n (subst (λ (r : Request). Took means ds now (batch_parts r) m n) asks (told_took means ds now Put m n line reply is_done told))

    took_told : (m n : Records) → TookPut means ds now id form bundle m n → Told means ds m line now reply n
    took_told m n t = (done Put, is_done, subst (λ (r : Request). Step means ds m r now (done Put) n) (sym asks) (takes_put m n t))

-- ---- records of different ids

either_first : (a b : Bool) (p q r : Option Kept) → (a ≡ true → b ≡ true → ⊥) → (if a then p else (if b then q else r)) ≡ (if b then q else (if a then p else r))
either_first true true p q r apart = absurd (apart refl refl)
either_first true false p q r apart = refl
either_first false true p q r apart = refl
either_first false false p q r apart = refl

changed_places : (id other : List ℕ) (k l : Kept) (m : Records) → other ≢ id → with_record other l (with_record id k m) ≡ with_record id k (with_record other l m)
changed_places id other k l m apart = fun_ext (λ n. either_first (bytes_eq n other) (bytes_eq n id) (Some l) (Some k) (m n)
    (λ first second. apart (sym ((bytes_eq-Decides n other).0 first) ∙ (bytes_eq-Decides n id).0 second)))

-- ---- what a get shows

module _ (means : Meanings) (ds : Declarations) (now : ℤ) (id : List ℕ) where
  abbrev kept_or : Kept → Option Kept → Kept
  kept_or k None = k
  kept_or k (Some found) = found

  -- what a get answers where there is a record
  get_shows : (kept : Kept) (m n : Records) (answer : Answer) → m id ≡ Some kept → Step means ds m (get id) now answer n
      → (answer ≡ shown id kept.form kept.bundle) ⊎ ((answer ≡ refused Store) ⊎ (answer ≡ refused Memory))
  get_shows kept m n answer some (inl (inl refuses)) =
      let never : None ≡ Some answer = sym (ap (λ (o : Option Kept). first_of (when (not (is_some o)) NoRecord ∷ None ∷ None ∷ [])) some) ∙ refuses.0 in absurd cc
  get_shows kept m n answer some (inl (inr serves)) =
      let s = serves.1 in inl (s.2 ∙ ap (λ (o : Option Kept). shown id (kept_or kept o).form (kept_or kept o).bundle) (sym s.1 ∙ some))
  get_shows kept m n answer some (inr (inl memory)) = inr (inr memory.0)
  get_shows kept m n answer some (inr (inr store)) = inr (inl store.0)

  told_shows : (kept : Kept) (line reply : List ℕ) (m n : Records) → asked line ≡ get id → m id ≡ Some kept → Told means ds m line now reply n
      → (reply ≡ answer_text (shown id kept.form kept.bundle)) ⊎ IsFailure reply
  told_shows kept line reply m n asks some told = elim (get_shows kept m n told.0 some (subst (λ (r : Request). Step means ds m r now told.0 n) asks told.2)) [
    | inl e ↦ inl (told.1 ∙ ap answer_text e)
    | inr (inl e) ↦ inr (inl (told.1 ∙ ap answer_text e))
    | inr (inr e) ↦ inr (inr (told.1 ∙ ap answer_text e))
  ]

  -- what a get answers where there is none
  get_none : (m n : Records) (answer : Answer) → m id ≡ None → Step means ds m (get id) now answer n → (answer ≡ refused NoRecord) ⊎ ((answer ≡ refused Store) ⊎ (answer ≡ refused Memory))
  get_none m n answer none (inl (inl refuses)) =
      let is : Some (refused NoRecord) ≡ Some answer = sym (ap (λ (o : Option Kept). first_of (when (not (is_some o)) NoRecord ∷ None ∷ None ∷ [])) none) ∙ refuses.0 in inl cc
  get_none m n answer none (inl (inr serves)) = let never : Some serves.1.0 ≡ None = sym serves.1.1 ∙ none in absurd cc
  get_none m n answer none (inr (inl memory)) = inr (inr memory.0)
  get_none m n answer none (inr (inr store)) = inr (inl store.0)

  told_none : (line reply : List ℕ) (m n : Records) → asked line ≡ get id → m id ≡ None → Told means ds m line now reply n → (reply ≡ answer_text (refused NoRecord)) ⊎ IsFailure reply
  told_none line reply m n asks none told = elim (get_none m n told.0 none (subst (λ (r : Request). Step means ds m r now told.0 n) asks told.2)) [
    | inl e ↦ inl (told.1 ∙ ap answer_text e)
    | inr (inl e) ↦ inr (inl (told.1 ∙ ap answer_text e))
    | inr (inr e) ↦ inr (inr (told.1 ∙ ap answer_text e))
  ]

-- ---- what two gets show of what is written alike

shown_text : List ℕ → List ℕ → json.Data → List ℕ
shown_text id form bundle = compact_text (json.object (reply_members (
    (codes "bundle", bundle) ∷ (codes "form", json.string form) ∷ (codes "id", json.string id) ∷ (codes "ok", json.string (codes "get")) ∷ [])))

same_shown : (id : List ℕ) (k l : Kept) → written_of k ≡ written_of l → answer_text (shown id k.form k.bundle) ≡ answer_text (shown id l.form l.bundle)
unfolding shown_text
same_shown id k l is =
    ap (λ (j : json.Data). shown_text id k.form j) (same_json k.bundle l.bundle (ap (λ (w : Written). (w.root, w.objects)) is))
    ∙ ap (λ (w : Written). shown_text id w.form (bundle_json l.bundle)) is

-- both show the same, or one fails
either_fails : (a b s t : List ℕ) → a ≡ b → (s ≡ a) ⊎ IsFailure s → (t ≡ b) ⊎ IsFailure t → (t ≡ s) ⊎ (IsFailure s ⊎ IsFailure t)
either_fails a b s t same (inl first) (inl second) = inl (second ∙ sym same ∙ sym first)
either_fails a b s t same (inl first) (inr fails) = inr (inr fails)
either_fails a b s t same (inr fails) second = inr (inl fails)

module _ (means : Meanings) (old new : Declarations) (m n : Records) (written : writings n ≡ writings m) (id next : List ℕ) (asks : asked next ≡ get id)
    (before later : ℤ) (showed shows : List ℕ) (first last : Records) (was : Told means old m next before showed first) (is : Told means new n next later shows last) where
  shows_by : (o p : Option Kept) → m id ≡ o → n id ≡ p → option_map written_of p ≡ option_map written_of o → (shows ≡ showed) ⊎ (IsFailure showed ⊎ IsFailure shows)
  shows_by None None none gone same = either_fails _ _ showed shows refl (told_none means old before id next showed m first asks none was) (told_none means new later id next shows n last asks gone is)
  shows_by (Some k) (Some l) some there same =
      let alike : written_of l ≡ written_of k = cc in
      either_fails (answer_text (shown id k.form k.bundle)) (answer_text (shown id l.form l.bundle)) showed shows (sym (same_shown id l k alike))
      (told_shows means old before id k next showed m first asks some was) (told_shows means new later id l next shows n last asks there is)
  shows_by None (Some l) none there same = cc
  shows_by (Some k) None some gone same = cc

  shows_alike : (shows ≡ showed) ⊎ (IsFailure showed ⊎ IsFailure shows)
  shows_alike = shows_by (m id) (n id) refl refl (ap (λ ws. ws id) written)

-- ---- what a check lists

-- a bundle has no violation for groups
abbrev HasNone : Meanings → Declarations → ℤ → Bundled → List ℕ → Type 0
HasNone means ds now b groups = HasFewVisits ds b groups × IsListing means ds now b groups []

number_or : (a b n : ℕ) → a ≡ b → n < a → b ≤ n → ⊥
number_or a b n same more few = omega arith

none_told : (means : Meanings) (ds : Declarations) (now : ℤ) (b : Bundled) (groups : List ℕ) (answer : Answer) → Checked means ds now b groups answer → HasNone means ds now b groups → answer ≡ checked []
none_told means ds now b groups answer (inl many) none =
    absurd (number_or many.0.0 none.0.0 4096 (one_number (IsVisit (unjudged ds b groups)) many.0.0 none.0.0 many.0.1 none.0.1) many.0.2 none.0.2)
none_told means ds now b groups answer (inr (vs, few, listing, is)) none =
    is ∙ ap checked (one_listing ds.occurrences ds.messages (IsViolation (request_of means ds now b groups)) vs [] listing none.1)

module _ (means : Meanings) (ds : Declarations) (now : ℤ) (id : List ℕ) (names : List (List ℕ)) (kept : Kept) (m : Records) (some : m id ≡ Some kept)
    (known : unknown_group_in ds.groups names ≡ false) (none : HasNone means ds now kept.bundle (numbers_of ds.groups names)) where
  -- what a check answers where there is a record and it has no violation
  check_lists : (n : Records) (answer : Answer) → Step means ds m (check id names) now answer n → (answer ≡ checked []) ⊎ ((answer ≡ refused Store) ⊎ (answer ≡ refused Memory))
  check_lists n answer (inl (inl refuses)) =
      let never : None ≡ Some answer = sym (
      ap (λ (o : Option Kept). first_of (when (not (is_some o)) NoRecord ∷ when (unknown_group_in ds.groups names) UnknownGroup ∷ None ∷ [])) some
      ∙ ap (λ (u : Bool). first_of (when u UnknownGroup ∷ None ∷ [])) known
      ) ∙ refuses.0 in absurd cc
  check_lists n answer (inl (inr serves)) =
      let s = serves.1 in
      inl (none_told means ds now kept.bundle (numbers_of ds.groups names) answer
      (subst (λ (k : Kept). Checked means ds now k.bundle (numbers_of ds.groups names) answer) (same_kept s.0 kept (sym s.1 ∙ some)) s.2) none)
  check_lists n answer (inr (inl memory)) = inr (inr memory.0)
  check_lists n answer (inr (inr store)) = inr (inl store.0)

  told_lists : (line reply : List ℕ) (n : Records) → asked line ≡ check id names → Told means ds m line now reply n → (reply ≡ answer_text (checked [])) ⊎ IsFailure reply
  told_lists line reply n asks told = elim (check_lists n told.0 (subst (λ (r : Request). Step means ds m r now told.0 n) asks told.2)) [
    | inl e ↦ inl (told.1 ∙ ap answer_text e)
    | inr (inl e) ↦ inr (inl (told.1 ∙ ap answer_text e))
    | inr (inr e) ↦ inr (inr (told.1 ∙ ap answer_text e))
  ]

-- lists of groups that ask for the same have none of the same
same_groups : (means : Meanings) (ds : Declarations) (now : ℤ) (b : Bundled) (gs hs : List ℕ) → asked_groups gs ≡ asked_groups hs → HasNone means ds now b gs → HasNone means ds now b hs
same_groups means ds now b gs hs same none =
    subst
    (λ (g : List ℕ). ((n : ℕ) × AreSoMany (IsVisit (visiting ds b g)) n × (n ≤ 4096)) × AreListed ds.occurrences ds.messages (IsViolation (judging means ds now b g)) [])
    same none

-- ---- a refusal for violations

all_have : (ls : List Judged) → ((l : Judged) → Has ls l → l.1 ≢ []) → AllByRecursion (λ l. l.1 ≢ []) ls
all_have [] each = tt
all_have (l ∷ ls) each = (each l (inl refl), all_have ls (λ k has. each k (inr has)))

module _ (means : Meanings) (ds : Declarations) (now : ℤ) (m n : Records) where
  -- no command is told as a redeclare that was taken
  changed_other : (parts : List Part) (what : Done) → Changes means ds now parts what m redeclared n → ⊥
  changed_other parts what (copy, is, inl over) = let never : redeclared ≡ refused TooManyVisits = over.1 in cc
  changed_other parts what (copy, is, inr (inl taken)) = let never : redeclared ≡ done what = taken.1 in cc
  changed_other parts what (copy, is, inr (inr told)) = let never : redeclared ≡ violated told.0 = told.3 in cc

  served_other : (r : Request) → Serves means ds now r m redeclared n → ⊥
  served_other too_long s = absurd s
  served_other not_json s = absurd s
  served_other shape s = absurd s
  served_other (alone p) s = changed_other (p ∷ []) (done_by p) s
  served_other (batch ps) s = changed_other ps Batch s
  served_other (get id) s = let never : redeclared ≡ shown id s.0.form s.0.bundle = s.2 in cc
  served_other (check id names) s = elim s.2 [ inl many ↦ cc | inr (vs, few, listing, is) ↦ cc ]
  served_other (check_field id object field names) s = elim s.2.2 [ inl many ↦ cc | inr (vs, few, listing, is) ↦ cc ]
  served_other (check_value type field value names) s = elim s.2.2 [ inl many ↦ cc | inr (vs, few, listing, is) ↦ cc ]
  served_other (list form after limit) s = let never : redeclared ≡ ids s.0 = s.2 in cc

  step_other : (r : Request) → Step means ds m r now redeclared n → ⊥
  step_other r (inl (inl refuses)) = told_refusal ds m r redeclared refuses.0
  step_other r (inl (inr serves)) = served_other r serves.1
  step_other r (inr (inl memory)) = let never : redeclared ≡ refused Memory = memory.0 in cc
  step_other r (inr (inr store)) = let never : redeclared ≡ refused Store = store.0 in cc

module _ (means : Meanings) (ds : Declarations) (now : ℤ) (m n : Records) (answer : Answer) where
  changed_some : (parts : List Part) (what : Done) → Changes means ds now parts what m answer n → HasSome answer
  changed_some parts what (copy, is, inl over) = subst HasSome (sym over.1) tt
  changed_some parts what (copy, is, inr (inl taken)) = subst HasSome (sym taken.1) tt
  changed_some parts what (copy, is, inr (inr (ls, are, some, told, same))) = subst HasSome (sym told) (some, all_have ls (λ l has. (are.sound l has).0))

  served_some : (r : Request) → Serves means ds now r m answer n → HasSome answer
  served_some too_long s = absurd s
  served_some not_json s = absurd s
  served_some shape s = absurd s
  served_some (alone p) s = changed_some (p ∷ []) (done_by p) s
  served_some (batch ps) s = changed_some ps Batch s
  served_some (get id) s = subst HasSome (sym s.2) tt
  served_some (check id names) s = elim s.2 [ inl many ↦ subst HasSome (sym many.1) tt | inr (vs, few, listing, is) ↦ subst HasSome (sym is) tt ]
  served_some (check_field id object field names) s = elim s.2.2 [ inl many ↦ subst HasSome (sym many.1) tt | inr (vs, few, listing, is) ↦ subst HasSome (sym is) tt ]
  served_some (check_value type field value names) s = elim s.2.2 [ inl many ↦ subst HasSome (sym many.1) tt | inr (vs, few, listing, is) ↦ subst HasSome (sym is) tt ]
  served_some (list form after limit) s = subst HasSome (sym s.2) tt

  has_some : (r : Request) → Step means ds m r now answer n → HasSome answer
  has_some r (inl (inl refuses)) = refusal_some answer (told_refusal ds m r answer refuses.0)
  has_some r (inl (inr serves)) = served_some r serves.1
  has_some r (inr (inl memory)) = subst HasSome (sym memory.0) tt
  has_some r (inr (inr store)) = subst HasSome (sym store.0) tt

-- ---- a redeclare

module _ (known : Known) (means : Meanings) (given : List ℕ) (now : ℤ) (old new : Reign) where
  -- it is never told as a command that changed records
  judged_not_done : (what : Done) (ds : Declarations) → JudgesAll means ds now old (done what) new → ⊥
  judged_not_done what ds (inl over) = done_or_refused what TooManyVisits over.1
  judged_not_done what ds (inr (inl taken)) = let never : done what ≡ redeclared = taken.1 in cc
  judged_not_done what ds (inr (inr told)) = let never : done what ≡ violated told.0 = told.3 in cc

  refits_not_done : (what : Done) (ds : Declarations) → Refits means ds now old (done what) new → ⊥
  refits_not_done what ds (inl unfits) = let never : done what ≡ unfit unfits.0 (misfit unfits.1) = unfits.3 in cc
  refits_not_done what ds (inr all) = judged_not_done what ds all.1

  redeclare_not_done : (what : Done) → RedeclareStep known means old given now (done what) new → ⊥
  redeclare_not_done what (inl (inl misdeclares)) = let never : done what ≡ misdeclared misdeclares.0 = misdeclares.2 in cc
  redeclare_not_done what (inl (inr declares)) = refits_not_done what declares.0 declares.2
  redeclare_not_done what (inr (inl memory)) = done_or_refused what Memory memory.0
  redeclare_not_done what (inr (inr store)) = done_or_refused what Store store.0

  -- where it is told as taken, all records could be read again, none of them has a violation, and they are what is there now
  abbrev Adopted : Type 0
  Adopted = (ds : Declarations) × AllReadAgain ds.types ds.forms old.records × AreListingsOf means ds now (IsAgain ds old.records) []
      × (new ≡ record { declared = ds; records = under ds old.records })

  judged_adopted : (ds : Declarations) → AllReadAgain ds.types ds.forms old.records → JudgesAll means ds now old redeclared new → Adopted
  judged_adopted ds all (inl over) = let never : redeclared ≡ refused TooManyVisits = over.1 in absurd cc
  judged_adopted ds all (inr (inl taken)) = (ds, all, taken.0, taken.2)
  judged_adopted ds all (inr (inr told)) = let never : redeclared ≡ violated told.0 = told.3 in absurd cc

  refits_adopted : (ds : Declarations) → Refits means ds now old redeclared new → Adopted
  refits_adopted ds (inl unfits) = let never : redeclared ≡ unfit unfits.0 (misfit unfits.1) = unfits.3 in absurd cc
  refits_adopted ds (inr all) = judged_adopted ds all.0 all.1

  redeclare_adopted : RedeclareStep known means old given now redeclared new → Adopted
  redeclare_adopted (inl (inl misdeclares)) = let never : redeclared ≡ misdeclared misdeclares.0 = misdeclares.2 in absurd cc
  redeclare_adopted (inl (inr declares)) = refits_adopted declares.0 declares.2
  redeclare_adopted (inr (inl memory)) = let never : redeclared ≡ refused Memory = memory.0 in absurd cc
  redeclare_adopted (inr (inr store)) = let never : redeclared ≡ refused Store = store.0 in absurd cc

  -- it lists something where it is refused for violations
  judged_some : (answer : Answer) (ds : Declarations) → JudgesAll means ds now old answer new → HasSome answer
  judged_some answer ds (inl over) = subst HasSome (sym over.1) tt
  judged_some answer ds (inr (inl taken)) = subst HasSome (sym taken.1) tt
  judged_some answer ds (inr (inr (ls, are, some, told, same))) = subst HasSome (sym told) (some, all_have ls (λ l has. (are.sound l has).0))

  refits_some : (answer : Answer) (ds : Declarations) → Refits means ds now old answer new → HasSome answer
  refits_some answer ds (inl unfits) = subst HasSome (sym unfits.3) tt
  refits_some answer ds (inr all) = judged_some answer ds all.1

  redeclare_some : (answer : Answer) → RedeclareStep known means old given now answer new → HasSome answer
  redeclare_some answer (inl (inl misdeclares)) = subst HasSome (sym misdeclares.2) tt
  redeclare_some answer (inl (inr declares)) = refits_some answer declares.0 declares.2
  redeclare_some answer (inr (inl memory)) = subst HasSome (sym memory.0) tt
  redeclare_some answer (inr (inr store)) = subst HasSome (sym store.0) tt

same_given : (given other : List ℕ) → redeclare given ≡ redeclare other → given ≡ other
same_given given other e = cc

-- ---- which of both a line is

-- a line asks for other declarations, and is no command then
pub record IsRedeclare (means : Meanings) (x : Service Records) (line : List ℕ) (now : ℤ) (reply : List ℕ) (y : Service Records) : Type 0 where
  pub given : List ℕ
  pub asks : asks line ≡ redeclare given
  pub none : asked line ≡ shape
  pub answer : Answer
  pub told : reply ≡ answer_text answer
  pub step : RedeclareStep x.known means (reign_of x) given now answer (reign_of y)
  pub causes : RedeclareCauses given answer x y

-- the answer to what a line asks for
abbrev Attended : Meanings → Service Records → List ℕ → ℤ → List ℕ → Service Records → Type 0
Attended means x line now reply y = IsRedeclare means x line now reply y ⊎ ((asks line ≡ of_records (asked line)) × Caused means x.machine line now reply y.machine)

by_asked : (means : Meanings) (x y : Service Records) (line : List ℕ) (now : ℤ) (reply : List ℕ) (answer : Answer) → reply ≡ answer_text answer
    → (a : Asked) → asks line ≡ a → Attends means now a x answer y → Attended means x line now reply y
by_asked means x y line now reply answer told (redeclare given) is t =
    inl (record { given = given; asks = is; none = asks_shape line given is; answer = answer; told = told; step = t.0; causes = t.1 })
by_asked means x y line now reply answer told (of_records r) is t =
    inr (is ∙ ap of_records (asks_inner line r is), (answer, told, subst (λ (q : Request). Handles means now q x.machine answer y.machine) (asks_inner line r is) t.0))

attended : (means : Meanings) (x y : Service Records) (line : List ℕ) (now : ℤ) (reply : List ℕ) → Responds means x line now reply y → Attended means x line now reply y
attended means x y line now reply t = by_asked means x y line now reply t.0 t.1 (asks line) refl t.2

-- only a failure of the disk shuts a connection that is open
pub closes_only_failed : (means : Meanings) (x y : Service Records) (line : List ℕ) (now : ℤ) (reply : List ℕ) → Responds means x line now reply y → IsTrue x.machine.is_open
    → IsTrue y.machine.is_open ⊎ MoreFaults x.machine.faults y.machine.faults
closes_only_failed means x y line now reply t live = elim (attended means x y line now reply t) [ inl is ↦ is.causes.closes live | inr is ↦ is.1.2.1.closes live ]

told_of : (means : Meanings) (x : Machine Records) (line : List ℕ) (now : ℤ) (reply : List ℕ) (y : Machine Records) → Caused means x line now reply y
    → Told means x.declared x.records line now reply y.records
told_of means x line now reply y told = (told.0, told.1, told.2.0)

-- ---- declarations that only add

-- of a service whose database stands for these records
module _ {H : Type 0} (held : H → State) (means : Meanings) (line : List ℕ) (now : ℤ) (reply : List ℕ) (old new : Service H) (apart : FieldsApart old.machine.declared.types)
    (was_clean : HasCleanDisk (held old.machine.records)) (m n : Records) (before : ServiceKeeps held old m) where
  abbrev first : Service Records
  first = with_mapped held old m

  abbrev last : Service Records
  last = with_mapped held new n

  all_fit_again : IsTrue first.machine.is_open → (ds : Declarations) → OnlyAdd first.machine.declared ds → AllReadAgain ds.types ds.forms m
  all_fit_again live ds adds = again_extended (contents old.text old.machine.declared m) ds.types ds.forms adds.0 apart adds.1 (before was_clean live).0.fit

  refits_no_misfit : (answer : Answer) (ds : Declarations) → OnlyAdd first.machine.declared ds → (TellsOfRecords answer → IsTrue first.machine.is_open)
      → Refits means ds now (reign_of first) answer (reign_of last) → IsNoMisfit answer
  refits_no_misfit answer ds adds live (inl (id, why, unfit_there, is, same)) =
      let stood = live (subst TellsOfRecords (sym is) tt) in
      let read = all_fit_again stood ds adds id unfit_there.kept unfit_there.known in
      let never : Err why ≡ Ok read.0 = sym unfit_there.unread ∙ read.1 in absurd cc
  refits_no_misfit answer ds adds live (inr (all, inl over)) = subst IsNoMisfit (sym over.1) tt
  refits_no_misfit answer ds adds live (inr (all, inr (inl taken))) = subst IsNoMisfit (sym taken.1) tt
  refits_no_misfit answer ds adds live (inr (all, inr (inr told))) = subst IsNoMisfit (sym told.3) tt

  step_no_misfit : (given : List ℕ) (answer : Answer) → ((ds : Declarations) → Declares first.known given (Ok ds) → OnlyAdd first.machine.declared ds)
      → (TellsOfRecords answer → IsTrue first.machine.is_open) → RedeclareStep first.known means (reign_of first) given now answer (reign_of last) → IsNoMisfit answer
  step_no_misfit given answer adds live (inl (inl misdeclares)) = subst IsNoMisfit (sym misdeclares.2) tt
  step_no_misfit given answer adds live (inl (inr (ds, declares, refitted))) = refits_no_misfit answer ds (adds ds declares) live refitted
  step_no_misfit given answer adds live (inr (inl memory)) = subst IsNoMisfit (sym memory.0) tt
  step_no_misfit given answer adds live (inr (inr store)) = subst IsNoMisfit (sym store.0) tt

  fits_by : Attended means first line now reply last → FitsWhereAdded first.known line reply (reign_of first)
  fits_by (inl is) = λ given asks_given adds.
      let same : is.given ≡ given = same_given is.given given (sym is.asks ∙ asks_given) in (
        is.answer,
        is.told,
        step_no_misfit is.given is.answer (λ ds declares. adds ds (subst (λ (t : List ℕ). Declares first.known t (Ok ds)) same declares)) (λ of. is.causes.was_open (is.causes.live of)) is.step,
      )
  fits_by (inr (is, told)) = λ given asks_given adds. let never : of_records (asked line) ≡ redeclare given = sym is ∙ asks_given in absurd cc

-- ---- the laws of a call

module _ {H : Type 0} (held : H → State) (means : Meanings) (line : List ℕ) (now : ℤ) (reply : List ℕ) (old new : Service H)
    (going : GoesOn held old new (λ x y. Responds means x line now reply y)) where
  -- what follows of a redeclare, and of what else a line asks for
  each : (U : Service Records → Service Records → Type 0) → ((x y : Service Records) → IsRedeclare means x line now reply y → U x y)
      → ((x y : Service Records) → Caused means x.machine line now reply y.machine → U x y) → GoesOn held old new U
  each U redeclares others = weaker held old new _ _ (λ x y t. elim (attended means x y line now reply t) [ inl is ↦ redeclares x y is | inr is ↦ others x y is.1 ]) going

  pub goes_turned : GoesOn held old new (λ x y. Turned x.known means (reign_of x) line now reply (reign_of y))
  goes_turned = weaker held old new _ _ (λ x y told. turned_of means x line now reply y told) going

  pub shows_what_was_put : GoesOn held old new (λ x y. ShowsWhatWasPut means x.machine.declared line reply y.machine.records)
  shows_what_was_put = each _ (λ x y is id form bundle asks_put is_taken. let never : shape ≡ alone (put id form bundle) = sym is.none ∙ asks_put in absurd cc)
      (λ x y told. shows x.machine.declared x.machine.records y.machine.records (told_of means x.machine line now reply y.machine told))
    where
      shows : (ds : Declarations) (m n : Records) → Told means ds m line now reply n → ShowsWhatWasPut means ds line reply n
      shows ds m n told = λ id form bundle asks_put is_taken.
          let t = told_took_put means ds now id form bundle line reply asks_put is_taken m n told in (
            t.1,
            t.2,
            λ next later text last asks_next got. told_shows means ds later id (keep form t.1) next text n last asks_next
                (ap (λ (q : Records). q id) t.4 ∙ there id (keep form t.1) m) got,
          )

  pub changes_no_get : GoesOn held old new (λ x y. ChangesNoGet reply (reign_of x) (reign_of y))
  changes_no_get = each _
      (λ x y is other same. redeclare_rests x.known means is.given now (reign_of x) (reign_of y) is.answer (λ e. same (is.told ∙ ap answer_text e)) is.step)
      (λ x y told other same. same_reign x y told.2.1.declared
      (step_stays means x.machine.declared now x.machine.records y.machine.records told.0 (λ what e. other what (told.1 ∙ ap answer_text e)) (asked line) told.2.0))
    where
      same_reign : (x y : Service Records) → y.machine.declared ≡ x.machine.declared → y.machine.records ≡ x.machine.records → reign_of y ≡ reign_of x
      same_reign x y ds m = ap (λ (d : Declarations). reign d y.machine.records) ds ∙ ap (λ (r : Records). reign x.machine.declared r) m

  pub lists_some : GoesOn held old new (λ x y. ListsSome reply)
  lists_some = each _ (λ x y is. (is.answer, is.told, redeclare_some x.known means is.given now (reign_of x) (reign_of y) is.answer is.step))
      (λ x y told. (told.0, told.1, has_some means x.machine.declared now x.machine.records y.machine.records told.0 (asked line) told.2.0))

  pub may_change_places : GoesOn held old new (λ x y. MayChangePlaces means x.machine.declared line now reply x.machine.records y.machine.records)
  may_change_places = each _ (λ x y is id form bundle asks_put is_taken. let never : shape ≡ alone (put id form bundle) = sym is.none ∙ asks_put in absurd cc)
      (λ x y told. swapped x.machine.declared x.machine.records y.machine.records (told_of means x.machine line now reply y.machine told))
    where
      swapped : (ds : Declarations) (m n : Records) → Told means ds m line now reply n → MayChangePlaces means ds line now reply m n
      swapped ds m n told = λ id form bundle asks_put is_taken next later other form_there bundle_there asks_next apart last told_next.
          let one = told_took_put means ds now id form bundle line reply asks_put is_taken m n told in
          let two = told_took_put means ds later other form_there bundle_there next reply asks_next is_taken n last told_next in
          let mid = with_record other (keep form_there two.1) m in (
            mid,
            took_told means ds later other form_there bundle_there next reply asks_next is_taken m mid (two.0, two.1, two.2, two.3, refl),
            took_told means ds now id form bundle line reply asks_put is_taken mid last (
              one.0,
              one.1,
              one.2,
              one.3,
              two.4 ∙ ap (λ (q : Records). with_record other (keep form_there two.1) q) one.4 ∙ changed_places id other (keep form one.1) (keep form_there two.1) m apart,
            ),
          )

  pub fails_where_shut : GoesOn held old new (λ x y. FailsWhereShut line reply x.machine)
  fails_where_shut = each _ (λ x y is id looks shut. absurd (subst (λ (r : Request). LooksFor r id) is.none looks)) (λ x y told. failed x.machine y.machine told)
    where
      looks_up : (ds : Declarations) (r : Request) (id : List ℕ) → LooksFor r id → LooksUp ds r
      looks_up ds too_long id looks = absurd looks
      looks_up ds not_json id looks = absurd looks
      looks_up ds shape id looks = absurd looks
      looks_up ds (alone p) id looks = part p looks
        where
          part : (q : Part) → needed_id q ≡ Some id → LooksUp ds (alone q)
          part (put i form bundle) needs = let never : None ≡ Some id = needs in absurd cc
          part (set i object field value) needs = (refl, refl, refl)
          part (remove i) needs = (refl, refl, refl)
      looks_up ds (batch ps) id looks = absurd looks
      looks_up ds (get i) id looks = (refl, refl, refl)
      looks_up ds (check i names) id looks = (refl, refl, refl)
      looks_up ds (check_field i object field names) id looks = (refl, refl, refl)
      looks_up ds (check_value type field value names) id looks = absurd looks
      looks_up ds (list form after limit) id looks = absurd looks

      failed : (x y : Machine Records) → Caused means x line now reply y → FailsWhereShut line reply x
      failed x y told = λ id looks shut. elim (told.2.1.finds (looks_up x.declared (asked line) id looks)) [
        | inl live ↦ let never : false ≡ true = sym shut ∙ live in absurd cc
        | inr (inl e) ↦ inl (told.1 ∙ ap answer_text e)
        | inr (inr e) ↦ inr (told.1 ∙ ap answer_text e)
      ]

  steady : (x y : Machine Records) → IsTrue x.is_open → (MoreFaults x.faults y.faults → ⊥) → StoreHasFailed x y → ⊥
  steady x y live none (inl more) = none more
  steady x y live none (inr shut) = let never : false ≡ true = sym shut ∙ live in cc

  pub fails_for_room_alone : GoesOn held old new (λ x y. FailsForRoomAlone means line now reply x.machine y.machine)
  fails_for_room_alone = each _ (λ x y is failed live none. inr (
    is.given,
    is.asks,
    λ short few. steady x.machine y.machine live none
        (is.causes.cause (only_store is.answer (sym is.told ∙ failed)) short few),
  )) (λ x y told. lacks x.machine y.machine told)
    where
      lacks : (x y : Machine Records) → Caused means x line now reply y → FailsForRoomAlone means line now reply x y
      lacks x y told = λ is live none. elim (told.2.1.cause (only_store told.0 (sym told.1 ∙ is))) [
        | inl failed ↦ absurd (steady x y live none failed)
        | inr (m, taken, failed) ↦ inl (m, taken, λ room. steady x y live none (failed room))
      ]

  pub leaves_nothing_to_list : GoesOn held old new (λ x y. LeavesNothingToList means x.machine.declared line now reply y.machine.records)
  leaves_nothing_to_list = each _
      (λ x y is what is_done. absurd (redeclare_not_done x.known means is.given now (reign_of x) (reign_of y) what
      (subst (λ (a : Answer). RedeclareStep x.known means (reign_of x) is.given now a (reign_of y)) (only_done is.answer what (sym is.told ∙ is_done)) is.step)))
      (λ x y told. nothing x.machine.declared x.machine.records y.machine.records (told_of means x.machine line now reply y.machine told))
    where
      nothing : (ds : Declarations) (m n : Records) → Told means ds m line now reply n → LeavesNothingToList means ds line now reply n
      nothing ds m n told = λ what is_done id kept touched next names lists last asks_next are got.
          let t = told_took means ds now what m n line reply is_done told in
          let none : IsListingOf means ds now kept [] = elim (t.1.complete id kept touched) [ inl listed ↦ listed | inr some ↦ absurd some.1 ] in
          told_lists means ds now id names kept n touched.1 are.0
          (same_groups means ds now kept.bundle (groups_of ds kept.form) (numbers_of ds.groups names) (sym are.1) none) next lists last asks_next got

  -- ---- changed declarations

  -- what a taken redeclare did
  taken_adopted : (x y : Service Records) (is : IsRedeclare means x line now reply y) → IsRedeclared reply → Adopted x.known means is.given now (reign_of x) (reign_of y)
  taken_adopted x y is same = redeclare_adopted x.known means is.given now (reign_of x) (reign_of y)
      (subst (λ (a : Answer). RedeclareStep x.known means (reign_of x) is.given now a (reign_of y)) (only_redeclared is.answer (sym is.told ∙ same)) is.step)

  -- another line isn't told so
  other_not : (x y : Machine Records) → Caused means x line now reply y → IsRedeclared reply → ⊥
  other_not x y told same = step_other means x.declared now x.records y.records (asked line)
      (subst (λ (a : Answer). Step means x.declared x.records (asked line) now a y.records) (only_redeclared told.0 (sym told.1 ∙ same)) told.2.0)

  pub leaves_nothing_at_all : GoesOn held old new (λ x y. LeavesNothingAtAll means now reply (reign_of y))
  leaves_nothing_at_all = each _ (λ x y is same. nothing x.known is.given (reign_of x) (reign_of y) (taken_adopted x y is same)) (λ x y told same. absurd (other_not x.machine y.machine told same))
    where
      nothing : (known : Known) (given : List ℕ) (r s : Reign) → Adopted known means given now r s → (id : List ℕ) (kept : Kept) → s.records id ≡ Some kept → (next : List ℕ) (names : List (List ℕ)) (lists : List ℕ) (last : Records)
          → asked next ≡ check id names → AreNamesOf s.declared kept.form names → Told means s.declared s.records next now lists last → (lists ≡ answer_text (checked [])) ⊎ IsFailure lists
      nothing known given r s (ds, all, none, is) = subst
          (λ (t : Reign). (id : List ℕ) (kept : Kept) → t.records id ≡ Some kept → (next : List ℕ) (names : List (List ℕ)) (lists : List ℕ) (last : Records) → asked next ≡ check id names
          → AreNamesOf t.declared kept.form names → Told means t.declared t.records next now lists last → (lists ≡ answer_text (checked [])) ⊎ IsFailure lists)
          (sym is) (λ id kept some next names lists last asks_next are got.
          let listed : IsListingOf means ds now kept [] = elim (none.complete id kept some) [ inl listed ↦ listed | inr has ↦ absurd has.1 ] in
          told_lists means ds now id names kept (under ds r.records) some are.0
          (same_groups means ds now kept.bundle (groups_of ds kept.form) (numbers_of ds.groups names) (sym are.1) listed) next lists last asks_next got)

  pub shows_the_same : GoesOn held old new (λ x y. ShowsTheSame means reply (reign_of x) (reign_of y))
  shows_the_same = each _
      (λ x y is same id next asks_next before later showed shows first last was got.
      shows_alike means x.machine.declared y.machine.declared x.machine.records y.machine.records is.causes.written id next asks_next before later showed shows first last was got)
      (λ x y told same. absurd (other_not x.machine y.machine told same))

  -- ---- declarations that only add

  pub fits_where_added : FieldsApart old.machine.declared.types → GoesOn held old new (λ x y. FitsWhereAdded x.known line reply (reign_of x))
  fits_where_added apart = follows held old new _ _ (λ clean m n before after t.
      fits_by held means line now reply old new apart (going.clean clean) m n before (attended means (with_mapped held old m) (with_mapped held new n) line now reply t)) going
