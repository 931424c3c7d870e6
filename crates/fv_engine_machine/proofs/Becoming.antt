-- What a call makes of the machine.
use Rattle.std.proofs.Common.{codes, bytes_eq, ◌≡◌, ◌≢◌, ◌⊎◌, ℕ, ℤ, ◌≤◌, ◌<◌, length, map, not, nat_lt, IsTrue, if◌then◌else◌, List, [], ◌∷◌, Bool, true, false, Option, Some, None, is_some, option_map, option_and_then, inl, inr, refl, sym, ap, subst, ◌∙◌, arith}
use Rattle.std.specs.List.{AllByRecursion}
use Rattle.std.specs.Option.{unwrap_or}
use Rattle.std.proofs.lemmas.Bool.{lt-ltb, le-ltb}
use Rattle.sqlite.specs.State.{State, HasCleanDisk}
use Rattle.serde_json.specs.Data as json
use Rattle.serde_json.specs.Find.{as_str, get as get_at}
use Rattle.serde_json.specs.Read.{read}
use Rattle.serde_json.specs.Written.{compact_text}
use Rattle.fv_datum.specs.Forms.{required, maybe, optional, map2, map3, map4}
use Rattle.fv_datum.specs.Members.{has_only}
use Rattle.fv_datum.specs.Lookup.{at_name}
use Rattle.fv_declare_schema.specs.Declarations.{Declarations}
use Rattle.fv_engine_machine.specs.Causes.{StoreHasFailed, HasCause, GivesOut, Causes, Handles, IsReplied}
use Rattle.fv_engine_machine.specs.Keeping.{Unchanged, Fails, Checks, unjudged}
use Rattle.fv_engine_machine.specs.Machines.{Machine, over, with_map, contents, room_in, Becomes}
use Rattle.fv_engine_machine.specs.Refusals.{when, first_of, is_too_long, batch_parts, refusal}
use Rattle.fv_engine_command.specs.Commands.{Part, Request, too_long, not_json, shape, alone, batch, get, check, check_field, check_value, list, id_in, id_at, put_of, set_of, remove_of, parts_in, batch_of, get_of, groups_at, check_of, check_field_of, check_value_of, limit_in, list_request, forms, command_of, of_json}
use Rattle.fv_engine_machine.specs.Step.{done_by, Changes, Checked, Serves, Answers, IsTaken, looks_up, LooksUp, Step}
use Rattle.fv_declare_schema.specs.Groups.{numbers_of}
use Rattle.fv_declare_schema.specs.Judged.{unknown_group_in}
use Rattle.fv_bundle.specs.Bundles.{Bundled}
use Rattle.fv_model.specs.Writing.{bundle_json}
use Rattle.fv_model.specs.declared.fault.BundleFault.{BundleFault}
use Rattle.fv_model.specs.declared.fault.BundleFault.TheVariants as fault
use Rattle.fv_registry.specs.Meanings.{Meanings}
use Rattle.fv_engine_reply.specs.Answers.{Answer, done, shown, violated, checked, field_checked, value_checked, ids, refused, part_refused, redeclared, misdeclared, unfit}
use Rattle.fv_engine_reply.specs.Texts.{TakesMemory, Tells}
use Rattle.fv_engine_reply.specs.declared.answer.Done.{Done}
use Rattle.fv_engine_reply.specs.declared.answer.Done.TheVariants.{Batch}
use Rattle.fv_engine_reply.specs.declared.answer.Refusal.{Refusal}
use Rattle.fv_engine_reply.specs.declared.answer.Refusal.TheVariants.{LineTooLong, NotJson, Shape, UnknownForm, Bundle, NoRecord, UnknownGroup, NoSuchField, TooManyVisits, Store, Memory}
use Rattle.fv_store.specs.Lists.{Lists}
use Rattle.fv_store.specs.Records.{Kept, Records}
use Rattle.fv_store.specs.declared.fault.StoreFault.{StoreFault}
use Rattle.fv_store.specs.declared.fault.StoreFault.TheVariants as store
use Rattle.fv_store.specs.Stored.{text_of, untyped}
use Rattle.fv_store.specs.Texts.{bundle_text}
use Rattle.fv_store.specs.Stands.{Frame, HoldsRecords, Stays}
use Rattle.fv_validate.specs.declared.fault.ValidateFault.{ValidateFault}
use Rattle.fv_validate.specs.declared.fault.ValidateFault.TheVariants as validate
use Rattle.fv_walk.specs.Visits.{HasTooManyVisits}

-- a relation between machines
abbrev Relation : Type 1
Relation = Machine Records → Machine Records → Type 0

pub stays_itself : (x : Machine Records) → Unchanged x x
stays_itself x = record { declared = refl; records = refl; was_open = λ live. live; counts = omega arith; closes = λ live. inl live; room = λ live. refl }

module _ {H : Type 0} (held : H → State) where
  -- the same, by a relation that is weaker
  pub weaker : (old new : Machine H) (T U : Relation) → ((x y : Machine Records) → T x y → U x y) → Becomes held old new T → Becomes held old new U
  weaker old new T U w becoming = record {
    declared = becoming.declared;
    clean = becoming.clean;
    related = λ c bytes m stands. let t = becoming.related c bytes m stands in (t.0, w _ _ t.1, t.2);
  }

  -- nothing is done
  pub rests : (e : Machine H) (T : Relation) → ((x : Machine Records) → T x x) → Becomes held e e T
  rests e T same = record { declared = refl; clean = λ c. c; related = λ c bytes m stands. (m, same _, stands) }

  -- one call and then another
  pub onwards : (a b c : Machine H) (T U : Relation) → Becomes held a b T → Becomes held b c U → Becomes held a c (λ x z. (y : Machine Records) × T x y × U y z)
  onwards a b c T U one two = record {
    declared = two.declared ∙ one.declared;
    clean = λ k. one.clean (two.clean k);
    related = λ k bytes m stands.
        let t = one.related (two.clean k) bytes m stands in
        let u = two.related k bytes t.0 t.2 in
        (u.0, (_, t.1, u.1), u.2);
  }

  -- the same for the machines over one connection, with any records
  pub unmoved : (ds : Declarations) (h : H) (T : Relation) → ((m : Records) → T (with_map held (over held ds h) m) (with_map held (over held ds h) m)) → Becomes held (over held ds h) (over held ds h) T
  unmoved ds h T same = record { declared = refl; clean = λ c. c; related = λ c bytes m stands. (m, same m, stands) }

  pub becomes_so : (ds : Declarations) (old new : H) (T U : Relation)
      → ((m n : Records) → T (with_map held (over held ds old) m) (with_map held (over held ds new) n) → U (with_map held (over held ds old) m) (with_map held (over held ds new) n))
      → Becomes held (over held ds old) (over held ds new) T → Becomes held (over held ds old) (over held ds new) U
  becomes_so ds old new T U w becoming = record {
    declared = refl;
    clean = becoming.clean;
    related = λ c bytes m stands. let t = becoming.related c bytes m stands in (t.0, w m t.0 t.1, t.2);
  }

  -- a call on the store
  module _ (ds : Declarations) (old new : H) (frame : Frame (held old) (held new)) where
    -- it changes no record
    pub unchanged : ((bytes : List ℕ) (m : Records) → HoldsRecords (held old) (contents bytes ds m) → Stays (held old) (held new)) → (T : Relation)
        → (HasCleanDisk (held new) → (bytes : List ℕ) (m : Records) → HoldsRecords (held old) (contents bytes ds m)
        → Unchanged (with_map held (over held ds old) m) (with_map held (over held ds new) m) → T (with_map held (over held ds old) m) (with_map held (over held ds new) m))
        → ((bytes : List ℕ) (m : Records) → HoldsRecords (held old) (contents bytes ds m) → HoldsRecords (held new) (contents bytes ds m)) → Becomes held (over held ds old) (over held ds new) T
    unchanged untouched T does undone = record {
      declared = refl;
      clean = frame.clean;
      related = λ c bytes m stands. (
        m,
        does c bytes m stands (record { declared = refl; records = refl; was_open = frame.was_open c; counts = frame.counts; closes = frame.closes c; room = λ live. ap room_in (untouched bytes m stands c live).2 }),
        undone bytes m stands,
      );
    }

-- ---- failures

-- what holds of want of memory, and of the store by its cause, holds of a failure
pub fails_by : (P : Refusal → Type 0) (Cause : Type 0) (why : Refusal) → Fails why Cause → P Memory → (Cause → P Store) → P why
fails_by P Cause Memory f memory store = memory
fails_by P Cause Store f memory store = store f
fails_by P Cause LineTooLong f memory store = absurd f
fails_by P Cause NotJson f memory store = absurd f
fails_by P Cause Shape f memory store = absurd f
fails_by P Cause UnknownForm f memory store = absurd f
fails_by P Cause (Bundle e) f memory store = absurd f
fails_by P Cause NoRecord f memory store = absurd f
fails_by P Cause UnknownGroup f memory store = absurd f
fails_by P Cause NoSuchField f memory store = absurd f
fails_by P Cause TooManyVisits f memory store = absurd f

-- ---- requests by which nothing changes

-- an answer that tells neither that a command was taken nor that the store failed
abbrev pub IsOther : Answer → Type 0
IsOther (done what) = ⊥
IsOther (refused Store) = ⊥
IsOther _ = Unit {0}

-- where no command is taken, no rowid is given out
gives_none : (answer : Answer) (parts : List Part) (x y : Machine Records) → ((what : Done) → answer ≡ done what → ⊥) → (IsTrue y.is_open → y.room ≡ x.room) → GivesOut answer parts x y
gives_none (done what) parts x y other room = absurd (other what refl)
gives_none (shown id form b) parts x y other room = room
gives_none (violated ls) parts x y other room = room
gives_none (checked vs) parts x y other room = room
gives_none (field_checked vs) parts x y other room = room
gives_none (value_checked vs) parts x y other room = room
gives_none (ids found) parts x y other room = room
gives_none (refused why) parts x y other room = room
gives_none (part_refused n why) parts x y other room = room
gives_none redeclared parts x y other room = room
gives_none (misdeclared fault) parts x y other room = room
gives_none (unfit id why) parts x y other room = room

-- and back
none_given : (answer : Answer) (parts : List Part) (x y : Machine Records) → ((what : Done) → answer ≡ done what → ⊥) → GivesOut answer parts x y → IsTrue y.is_open → y.room ≡ x.room
none_given (done what) parts x y other gives = absurd (other what refl)
none_given (shown id form b) parts x y other gives = gives
none_given (violated ls) parts x y other gives = gives
none_given (checked vs) parts x y other gives = gives
none_given (field_checked vs) parts x y other gives = gives
none_given (value_checked vs) parts x y other gives = gives
none_given (ids found) parts x y other gives = gives
none_given (refused why) parts x y other gives = gives
none_given (part_refused n why) parts x y other gives = gives
none_given redeclared parts x y other gives = gives
none_given (misdeclared fault) parts x y other gives = gives
none_given (unfit id why) parts x y other gives = gives

module _ (means : Meanings) (now : ℤ) (r : Request) (x y : Machine Records) (stay : Unchanged x y) where
  caused : (answer : Answer) → ((what : Done) → answer ≡ done what → ⊥) → (LooksUp x.declared r → IsTrue x.is_open ⊎ ((answer ≡ refused Store) ⊎ (answer ≡ refused Memory)))
      → (answer ≡ refused Store → HasCause means now r x y) → Causes means now r answer x y
  caused answer other finds cause = record {
    declared = stay.declared;
    counts = stay.counts;
    was_open = stay.was_open;
    closes = stay.closes;
    gives = gives_none answer (batch_parts r) x y other stay.room;
    finds = finds;
    cause = cause;
  }

  pub still : (answer : Answer) → IsOther answer → Answers means x.declared now r x.records answer y.records → (LooksUp x.declared r → IsTrue x.is_open) → Handles means now r x answer y
  still answer other answers live = (
    inl answers,
    caused answer (λ what e. subst IsOther e other) (λ looks. inl (live looks)) (λ e. absurd (subst IsOther e other)),
  )

  pub out_of_memory : is_too_long r ≡ false → Handles means now r x (refused Memory) y
  out_of_memory short = (inr (inl (refl, short, stay.records)), caused (refused Memory) (λ what e. cc) (λ looks. inr (inr refl)) (λ e. cc))

  pub unstored : LooksUp x.declared r ⊎ ((m : Records) × IsTaken means x.declared now r x.records m) → HasCause means now r x y → Handles means now r x (refused Store) y
  unstored may cause = (inr (inr (refl, may, stay.records)), caused (refused Store) (λ what e. cc) (λ looks. inr (inl refl)) (λ e. cause))

  -- it isn't found out what it looks up
  pub not_found : is_too_long r ≡ false → LooksUp x.declared r → (why : Refusal) → Fails why (StoreHasFailed x y) → Handles means now r x (refused why) y
  not_found short looks why f = fails_by (λ (w : Refusal). Handles means now r x (refused w) y) _ why f (out_of_memory short) (λ cause. unstored (inl looks) (inl cause))

-- a request that looks nothing up is refused
pub refused_at_once : (means : Meanings) (now : ℤ) (r : Request) (x : Machine Records) (why : Refusal) → looks_up r ≡ false → IsOther (refused why) → refusal x.declared x.records r ≡ Some (refused why)
    → Handles means now r x (refused why) x
refused_at_once means now r x why not other is = still means now r x x (stays_itself x) (refused why) other (inl (is, refl))
    (λ looks. let never : false ≡ true = sym not ∙ looks.0 in absurd cc)

-- ---- faults of bundles

pub is_memory : (f : BundleFault) → (f ≡ fault.Memory) ⊎ (f ≢ fault.Memory)
is_memory fault.Memory = inl refl
is_memory fault.Shape = inr (λ e. cc)
is_memory fault.BadName = inr (λ e. cc)
is_memory fault.RootMissing = inr (λ e. cc)
is_memory fault.UnknownType = inr (λ e. cc)
is_memory fault.UnknownField = inr (λ e. cc)
is_memory fault.WrongKind = inr (λ e. cc)
is_memory fault.DanglingRef = inr (λ e. cc)
is_memory fault.RefType = inr (λ e. cc)
is_memory fault.TooLarge = inr (λ e. cc)
is_memory fault.RootType = inr (λ e. cc)
is_memory fault.NoObject = inr (λ e. cc)

-- ---- gets

-- want of memory is told as such, and another fault of the store with its cause
pub fails_so : (fault : StoreFault) (why : Refusal) (Cause : Type 0) → (fault ≡ store.Store → why ≡ Store) → (fault ≡ store.Memory → why ≡ Memory) → (fault ≡ store.Store → Cause) → Fails why Cause
fails_so store.Store why Cause as_store as_memory cause = subst (λ (r : Refusal). Fails r Cause) (sym (as_store refl)) (cause refl)
fails_so store.Memory why Cause as_store as_memory cause = subst (λ (r : Refusal). Fails r Cause) (sym (as_memory refl)) tt

module _ (means : Meanings) (now : ℤ) (id : List ℕ) (x y : Machine Records) (stay : Unchanged x y) where
  pub got_none : IsTrue x.is_open → x.records id ≡ None → Handles means now (get id) x (refused NoRecord) y
  got_none live none = still means now (get id) x y stay (refused NoRecord) tt
      (inl (ap (λ (o : Option Kept). first_of (when (not (is_some o)) NoRecord ∷ None ∷ None ∷ [])) none, stay.records)) (λ looks. live)

  pub got_some : IsTrue x.is_open → (kept : Kept) → x.records id ≡ Some kept → Handles means now (get id) x (shown id kept.form kept.bundle) y
  got_some live kept some = still means now (get id) x y stay (shown id kept.form kept.bundle) tt
      (inr (ap (λ (o : Option Kept). first_of (when (not (is_some o)) NoRecord ∷ None ∷ None ∷ [])) some, (kept, some, refl, stay.records))) (λ looks. live)

-- ---- checks

-- the refusals of a check by whether its id has a record and by whether it names a group that isn't declared
check_refusal : Option Kept → Bool → Option Answer
check_refusal o unknown = first_of (when (not (is_some o)) NoRecord ∷ when unknown UnknownGroup ∷ None ∷ [])

-- a bundle that isn't validated
pub not_checked : (means : Meanings) (ds : Declarations) (now : ℤ) (b : Bundled) (names : List (List ℕ)) (fault : ValidateFault) → unknown_group_in ds.groups names ≡ false → fault ≢ validate.UnknownGroup → fault ≢ validate.NoSuchField
    → (fault ≡ validate.TooManyVisits → HasTooManyVisits ds b (numbers_of ds.groups names)) → Checks means ds now b names (refused (unjudged fault))
not_checked means ds now b names validate.UnknownGroup known named other many = absurd (named refl)
not_checked means ds now b names validate.NoSuchField known named other many = absurd (other refl)
not_checked means ds now b names validate.TooManyVisits known named other many = inr (inl (known, inl (many refl, refl)))
not_checked means ds now b names validate.Memory known named other many = inr (inr refl)

-- the answer of a check is another than that a command was taken or that the store failed
pub checked_other : (means : Meanings) (ds : Declarations) (now : ℤ) (b : Bundled) (groups : List ℕ) (answer : Answer) → Checked means ds now b groups answer → IsOther answer
checked_other means ds now b groups answer (inl many) = subst IsOther (sym many.1) tt
checked_other means ds now b groups answer (inr told) = subst IsOther (sym told.3) tt

module _ (means : Meanings) (now : ℤ) (id : List ℕ) (names : List (List ℕ)) (x y : Machine Records) (stay : Unchanged x y) where
  pub checked_none : IsTrue x.is_open → x.records id ≡ None → Handles means now (check id names) x (refused NoRecord) y
  unfolding check_refusal
  checked_none live none = still means now (check id names) x y stay (refused NoRecord) tt
      (inl (ap (λ (o : Option Kept). check_refusal o (unknown_group_in x.declared.groups names)) none, stay.records)) (λ looks. live)

  -- the refusals of a check of a record that is there
  there : (kept : Kept) (unknown : Bool) → x.records id ≡ Some kept → unknown_group_in x.declared.groups names ≡ unknown
      → refusal x.declared x.records (check id names) ≡ when unknown UnknownGroup
  unfolding check_refusal
  there kept true some is = ap (λ (o : Option Kept). check_refusal o (unknown_group_in x.declared.groups names)) some ∙ ap (check_refusal (Some kept)) is
  there kept false some is = ap (λ (o : Option Kept). check_refusal o (unknown_group_in x.declared.groups names)) some ∙ ap (check_refusal (Some kept)) is

  pub checked_some : IsTrue x.is_open → (kept : Kept) → x.records id ≡ Some kept → (answer : Answer) → Checks means x.declared now kept.bundle names answer → Handles means now (check id names) x answer y
  checked_some live kept some answer (inl (unknown, is)) = subst (λ (a : Answer). Handles means now (check id names) x a y) (sym is)
      (still means now (check id names) x y stay (refused UnknownGroup) tt (inl (there kept true some unknown, stay.records)) (λ looks. live))
  checked_some live kept some answer (inr (inl (known, told))) = still means now (check id names) x y stay answer
      (checked_other means x.declared now kept.bundle (numbers_of x.declared.groups names) answer told)
      (inr (there kept false some known, (kept, some, told, stay.records))) (λ looks. live)
  checked_some live kept some answer (inr (inr is)) = subst (λ (a : Answer). Handles means now (check id names) x a y) (sym is) (out_of_memory means now (check id names) x y stay refl)

-- ---- where no command is taken, all stays

module _ (means : Meanings) (ds : Declarations) (now : ℤ) (m n : Records) (answer : Answer) (other : (what : Done) → answer ≡ done what → ⊥) where
  changes_stay : (parts : List Part) (what : Done) → Changes means ds now parts what m answer n → n ≡ m
  changes_stay parts what (copy, is, inl over) = over.2
  changes_stay parts what (copy, is, inr (inl taken)) = absurd (other what taken.1)
  changes_stay parts what (copy, is, inr (inr told)) = told.4

  served_stays : (r : Request) → Serves means ds now r m answer n → n ≡ m
  served_stays too_long s = absurd s
  served_stays not_json s = absurd s
  served_stays shape s = absurd s
  served_stays (alone p) s = changes_stay (p ∷ []) (done_by p) s
  served_stays (batch ps) s = changes_stay ps Batch s
  served_stays (get id) s = s.3
  served_stays (check id names) s = s.3
  served_stays (check_field id object field names) s = s.3
  served_stays (check_value type field value names) s = s.3
  served_stays (list form after limit) s = s.3

  pub step_stays : (r : Request) → Step means ds m r now answer n → n ≡ m
  step_stays r (inl (inl refuses)) = refuses.1
  step_stays r (inl (inr serves)) = served_stays r serves.1
  step_stays r (inr (inl memory)) = memory.2
  step_stays r (inr (inr store)) = store.2

module _ (means : Meanings) (now : ℤ) where
  not_done_stays : (r : Request) (x y : Machine Records) (answer : Answer) → ((what : Done) → answer ≡ done what → ⊥) → Handles means now r x answer y → Unchanged x y
  not_done_stays r x y answer other (step, causes) = record {
    declared = causes.declared;
    records = step_stays means x.declared now x.records y.records answer other r step;
    was_open = causes.was_open;
    counts = causes.counts;
    closes = causes.closes;
    room = none_given answer (batch_parts r) x y other causes.gives;
  }

  -- where memory was refused for the text of an answer, that is the answer
  pub told_memory : (r : Request) → is_too_long r ≡ false → (x y : Machine Records) (answer : Answer) → TakesMemory answer → Handles means now r x answer y → Handles means now r x (refused Memory) y
  told_memory r short x y answer takes answers =
      out_of_memory means now r x y (not_done_stays r x y answer (λ what e. subst TakesMemory e takes) answers) short

  -- a text that tells an answer is a reply, also where memory was refused for it
  pub told_reply : (r : Request) → is_too_long r ≡ false → (x y : Machine Records) (answer : Answer) (text : List ℕ) → Tells text answer → Handles means now r x answer y → IsReplied means now r x text y
  told_reply r short x y answer text (inl is) handles = (answer, is, handles)
  told_reply r short x y answer text (inr made) handles = (refused Memory, made.1, told_memory r short x y answer made.0 handles)

-- ---- the text of a record

-- no text is that of no record
pub got_no_text : (o : Option Kept) → None ≡ option_map text_of o → o ≡ None
got_no_text None is = refl
got_no_text (Some k) is = cc

-- the record whose form and whose bundle's text these are
got_text : (o : Option Kept) (form bundle : List ℕ) → Some (form, bundle) ≡ option_map text_of o → Some (form, read bundle) ≡ option_map untyped o
    → (k : Kept) × (o ≡ Some k) × (form ≡ k.form) × (bundle ≡ compact_text (bundle_json k.bundle)) × (read bundle ≡ Some (bundle_json k.bundle))
unfolding bundle_text
got_text None form bundle texts reads = cc
got_text (Some k) form bundle texts reads = (
  k,
  refl,
  ap (λ (o : Option (List ℕ × List ℕ)). (unwrap_or o ([], [])).0) texts,
  ap (λ (o : Option (List ℕ × List ℕ)). (unwrap_or o ([], [])).1) texts,
  ap (λ (o : Option (List ℕ × Option json.Data)). (unwrap_or o ([], None)).1) reads,
)

module _ (means : Meanings) (now : ℤ) (id : List ℕ) (x y : Machine Records) (stay : Unchanged x y) where
  pub got_shown : IsTrue x.is_open → (form bundle text : List ℕ) → Some (form, bundle) ≡ option_map text_of (x.records id) → Some (form, read bundle) ≡ option_map untyped (x.records id)
      → ((b : Bundled) → bundle ≡ compact_text (bundle_json b) → read bundle ≡ Some (bundle_json b) → Tells text (shown id form b)) → IsReplied means now (get id) x text y
  got_shown live form bundle text texts reads tells =
      let got = got_text (x.records id) form bundle texts reads in
      told_reply means now (get id) refl x y (shown id got.0.form got.0.bundle) text (subst (λ (f : List ℕ). Tells text (shown id f got.0.bundle)) got.2 (tells got.0.bundle got.3 got.4))
      (got_some means now id x y stay live got.0 got.1)

-- ---- requests

short_if : (b : Bool) (p q : Option Request) → is_too_long (unwrap_or p shape) ≡ false → is_too_long (unwrap_or q shape) ≡ false → is_too_long (unwrap_or (if b then p else q) shape) ≡ false
short_if true p q first second = first
short_if false p q first second = second

short_then : {X : Type 0} (f : X → Option Request) (o : Option X) → ((x : X) → is_too_long (unwrap_or (f x) shape) ≡ false) → is_too_long (unwrap_or (option_and_then f o) shape) ≡ false
short_then f None each = refl
short_then f (Some x) each = each x

short_map : {X : Type 0} (f : X → Request) (o : Option X) → ((x : X) → is_too_long (f x) ≡ false) → is_too_long (unwrap_or (option_map f o) shape) ≡ false
short_map f None each = refl
short_map f (Some x) each = each x

short_map3 : {X Y Z : Type 0} (f : X → Y → Z → Request) (x : Option X) (y : Option Y) (z : Option Z)
    → ((a : X) (b : Y) (c : Z) → is_too_long (f a b c) ≡ false) → is_too_long (unwrap_or (map3 f x y z) shape) ≡ false
short_map3 f None y z each = refl
short_map3 f (Some a) None z each = refl
short_map3 f (Some a) (Some b) None each = refl
short_map3 f (Some a) (Some b) (Some c) each = each a b c

short_map2 : {X Y : Type 0} (f : X → Y → Request) (x : Option X) (y : Option Y) → ((a : X) (b : Y) → is_too_long (f a b) ≡ false) → is_too_long (unwrap_or (map2 f x y) shape) ≡ false
short_map2 f None y each = refl
short_map2 f (Some a) None each = refl
short_map2 f (Some a) (Some b) each = each a b

short_alone : (form : json.Data → Option Part) (j : json.Data) → is_too_long (unwrap_or (option_map alone (form j)) shape) ≡ false
short_alone form j = short_map alone (form j) (λ p. refl)

short_batch : (j : json.Data) → is_too_long (unwrap_or (batch_of j) shape) ≡ false
short_batch j = short_if (has_only (codes "do" ∷ codes "parts" ∷ []) j) (option_map batch (required parts_in (codes "parts") j)) None
    (short_map batch (required parts_in (codes "parts") j) (λ ps. refl)) refl

short_get : (j : json.Data) → is_too_long (unwrap_or (get_of j) shape) ≡ false
short_get j = short_if (has_only (codes "do" ∷ codes "id" ∷ []) j) (option_map get (id_at j)) None (short_map get (id_at j) (λ id. refl)) refl

short_check : (j : json.Data) → is_too_long (unwrap_or (check_of j) shape) ≡ false
short_check j = short_if (has_only (codes "do" ∷ codes "id" ∷ codes "groups" ∷ []) j) (map2 check (id_at j) (groups_at j)) None (short_map2 check (id_at j) (groups_at j) (λ id names. refl)) refl

short_map4 : {V X Y Z : Type 0} (f : V → X → Y → Z → Request) (v : Option V) (x : Option X) (y : Option Y) (z : Option Z)
    → ((a : V) (b : X) (c : Y) (d : Z) → is_too_long (f a b c d) ≡ false) → is_too_long (unwrap_or (map4 f v x y z) shape) ≡ false
short_map4 f None x y z each = refl
short_map4 f (Some a) x y z each = short_map3 (f a) x y z (each a)

short_check_field : (j : json.Data) → is_too_long (unwrap_or (check_field_of j) shape) ≡ false
short_check_field j =
    let object = required as_str (codes "object") j in
    let field = required as_str (codes "field") j in
    short_if (has_only (codes "do" ∷ codes "id" ∷ codes "object" ∷ codes "field" ∷ codes "groups" ∷ []) j) (map4 check_field (id_at j) object field (groups_at j)) None
    (short_map4 check_field (id_at j) object field (groups_at j) (λ i o f names. refl)) refl

short_check_value : (j : json.Data) → is_too_long (unwrap_or (check_value_of j) shape) ≡ false
short_check_value j =
    let type = required as_str (codes "type") j in
    let field = required as_str (codes "field") j in
    let value = get_at (codes "value") j in
    short_if (has_only (codes "do" ∷ codes "type" ∷ codes "field" ∷ codes "value" ∷ codes "groups" ∷ []) j) (map4 check_value type field value (groups_at j)) None
    (short_map4 check_value type field value (groups_at j) (λ t f v names. refl)) refl

short_list : (j : json.Data) → is_too_long (unwrap_or (list_request j) shape) ≡ false
short_list j =
    let form = required as_str (codes "form") j in
    let after = maybe id_in (codes "after") j in
    let limit = optional 100 limit_in (codes "limit") j in
    short_if (has_only (codes "do" ∷ codes "form" ∷ codes "after" ∷ codes "limit" ∷ []) j) (map3 list form after limit) None
    (short_map3 list form after limit (λ f a n. refl)) refl

short_among : (fs : List (List ℕ × (json.Data → Option Request))) → AllByRecursion (λ f. (j : json.Data) → is_too_long (unwrap_or (f.1 j) shape) ≡ false) fs → (name : List ℕ) (j : json.Data)
    → is_too_long (unwrap_or (option_and_then (λ form. form j) (at_name name fs)) shape) ≡ false
short_among [] each name j = refl
short_among (f ∷ fs) each name j = picked (bytes_eq name f.0) (short_among fs each.1 name j)
  where
    picked : (same : Bool) → is_too_long (unwrap_or (option_and_then (λ (form : json.Data → Option Request). form j) (at_name name fs)) shape) ≡ false
        → is_too_long (unwrap_or (option_and_then (λ (form : json.Data → Option Request). form j) (if same then Some f.1 else at_name name fs)) shape) ≡ false
    picked true rest = each.0 j
    picked false rest = rest

short_done : (name : List ℕ) (j : json.Data) → is_too_long (unwrap_or (option_and_then (λ form. form j) (at_name name forms)) shape) ≡ false
short_done name j = short_among forms
    (short_alone put_of, (short_alone set_of, (short_alone remove_of, (short_batch, (short_get, (short_check, (short_check_field, (short_check_value, (short_list, tt))))))))) name j

-- a command isn't a line that is too long
pub short_command : (j : json.Data) → is_too_long (unwrap_or (command_of j) shape) ≡ false
short_command j = short_then (λ name. option_and_then (λ form. form j) (at_name name forms)) (required as_str (codes "do") j) (λ name. short_done name j)

pub short_json : (o : Option json.Data) → is_too_long (of_json o) ≡ false
short_json None = refl
short_json (Some j) = short_command j

-- a command that is there is what is asked
pub asked_of : {H : Type 0} (held : H → State) (old new : Machine H) (means : Meanings) (now : ℤ) (answer : Answer) (o : Option Request) (r : Request) → Some r ≡ o
    → Becomes held old new (λ x y. Handles means now r x answer y) → Becomes held old new (λ x y. Handles means now (unwrap_or o shape) x answer y)
asked_of held old new means now answer o r is becoming = subst (λ (p : Option Request). Becomes held old new (λ x y. Handles means now (unwrap_or p shape) x answer y)) is becoming

-- the same of its reply
pub asked_reply : {H : Type 0} (held : H → State) (old new : Machine H) (means : Meanings) (now : ℤ) (text : List ℕ) (o : Option Request) (r : Request) → Some r ≡ o
    → Becomes held old new (λ x y. IsReplied means now r x text y) → Becomes held old new (λ x y. IsReplied means now (unwrap_or o shape) x text y)
asked_reply held old new means now text o r is becoming = subst (λ (p : Option Request). Becomes held old new (λ x y. IsReplied means now (unwrap_or p shape) x text y)) is becoming

-- the text that tells the answer to a command is its reply
pub replied : {H : Type 0} (held : H → State) (old new : Machine H) (means : Meanings) (now : ℤ) (j : json.Data) (r : Request) → Some r ≡ command_of j → (answer : Answer) (text : List ℕ) → Tells text answer
    → Becomes held old new (λ x y. Handles means now r x answer y) → Becomes held old new (λ x y. IsReplied means now (unwrap_or (command_of j) shape) x text y)
replied held old new means now j r is answer text tells becoming =
    weaker held old new _ _ (λ x y handles. told_reply means now _ (short_command j) x y answer text tells handles) (asked_of held old new means now answer (command_of j) r is becoming)

-- ---- lines

-- a length within a limit, and one above it
pub within : (n limit : ℕ) → n ≤ limit → nat_lt limit n ≡ false
within n limit le = le-ltb limit n le

pub above : (n limit : ℕ) → limit < n → nat_lt limit n ≡ true
above n limit lt = lt-ltb limit n lt

-- ---- lists that are empty or not

pub no_items : {X Y : Type 0} (f : X → Y) (xs : List X) → length xs ≡ 0 → map f xs ≡ []
no_items f [] none = refl
no_items f (x ∷ xs) none = cc

pub some_items : {X Y : Type 0} (f : X → Y) (xs : List X) → (length xs ≡ 0 → ⊥) → map f xs ≡ [] → ⊥
some_items f [] some none = some refl
some_items f (x ∷ xs) some none = cc

-- ---- lists

module _ (means : Meanings) (now : ℤ) (form : List ℕ) (after : Option (List ℕ)) (limit : ℕ) (x y : Machine Records) where
  -- the refusals of a list by what its form is declared as
  list_refusal : Option (List ℕ) → Option Answer
  list_refusal o = first_of (when (not (is_some o)) UnknownForm ∷ None ∷ None ∷ None ∷ None ∷ None ∷ [])

  -- the form isn't declared
  pub unlisted : at_name form x.declared.forms ≡ None → Unchanged x y → Handles means now (list form after limit) x (refused UnknownForm) y
  unfolding list_refusal
  unlisted none stay = still means now (list form after limit) x y stay (refused UnknownForm) tt (inl (ap list_refusal none, stay.records))
      (λ looks. let never : true ≡ false = sym (ap (λ (o : Option (List ℕ)). not (is_some o)) none) ∙ looks.2 in absurd cc)

  module _ (type : List ℕ) (some : at_name form x.declared.forms ≡ Some type) (stay : Unchanged x y) where
    pub listed_ids : IsTrue x.is_open → (found : List (List ℕ)) → Lists x.records form (unwrap_or after []) limit found → Handles means now (list form after limit) x (ids found) y
    unfolding list_refusal
    listed_ids live found lists = still means now (list form after limit) x y stay (ids found) tt (inr (ap list_refusal some, (found, lists, refl, stay.records))) (λ looks. live)

    pub listed_not : (why : Refusal) → Fails why (StoreHasFailed x y) → Handles means now (list form after limit) x (refused why) y
    listed_not = not_found means now (list form after limit) x y stay refl (refl, refl, ap (λ (o : Option (List ℕ)). not (is_some o)) some)
