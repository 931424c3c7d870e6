-- What a command that changes records makes of the machine.
use Rattle.std.proofs.Common.{◌≡◌, ◌≢◌, ◌+◌, ◌*◌, ◌≤◌, ◌⊎◌, map, IfOk, Vec, ℕ, ℤ, IsTrue, length, List, [], ◌∷◌, Bool, true, false, Option, Some, None, Result, Ok, Err, inl, inr, refl, sym, ap, subst, ◌∙◌, arith}
use Rattle.std.specs.List.{AllByRecursion, list_any}
use Rattle.std.specs.declared.alloc.Global.{Global}
use Rattle.sqlite.specs.State.{State, HasCleanDisk}
use Rattle.fv_engine_command.specs.Commands.{Part, put, set, remove, Request, alone, batch}
use Rattle.fv_declare_schema.specs.Declarations.{Declarations}
use Rattle.fv_engine_pending.specs.Judging.{AreListings, AreListingsOf, IsOfJudging, IsStanding, OneIsOverAmong, OneIsOverVisited}
use Rattle.fv_engine_machine.specs.Causes.{StoreHasFailed, HasRoomFor, Handles, rows_taken}
use Rattle.fv_engine_machine.specs.Keeping.{Unchanged, Takes, TakesOrTells, Fails, Moves, FitsWhereHeld, HasRoomOn, IsOneSet, set_object, Keeps, Settles, told_part, IsCommand, ChangesSo, rows_on, unjudged}
use Rattle.fv_engine_machine.specs.Machines.{Machine, over, with_map, contents, room_in}
use Rattle.fv_engine_machine.specs.Refusals.{first_of, made, part_refusal, refusal, told_fault, when}
use Rattle.fv_engine_machine.specs.Step.{done_by, Answers, IsTaken, LooksUp}
use Rattle.fv_engine_machine.proofs.Becoming.{fails_by, stays_itself, IsOther, still, out_of_memory, unstored}
use Rattle.fv_engine_machine.proofs.Rooms.{room_left}
use Rattle.fv_engine_pending.specs.Altering.{IsOneObject, most_rows}
use Rattle.fv_engine_pending.specs.Fits.{Agrees, AreFitting, AreTyped, Covers}
use Rattle.fv_engine_pending.specs.Parts.{are_misshapen}
use Rattle.fv_engine_pending.specs.Steps.{staged, steps_made}
use Rattle.fv_engine_pending.specs.Touched.{IsTouched, count_left, count_needed, needs_record}
use Rattle.fv_engine_pending.specs.Ways.{Way, overlay, standing}
use Rattle.fv_engine_pending.proofs.OneObject.{set_alone}
use Rattle.fv_engine_pending.specs.declared.fault.PartFault.{PartFault}
use Rattle.fv_engine_pending.specs.declared.fault.PartFault.TheVariants as part
use Rattle.fv_registry.specs.Meanings.{Meanings}
use Rattle.fv_engine_reply.specs.Answers.{Answer, done, violated, refused, part_refused}
use Rattle.fv_validate.specs.Violations.{Judged}
use Rattle.fv_engine_reply.specs.declared.answer.Done.{Done}
use Rattle.fv_engine_reply.specs.declared.answer.Done.TheVariants as what
use Rattle.fv_engine_reply.specs.declared.answer.Refusal.{Refusal}
use Rattle.fv_engine_reply.specs.declared.answer.Refusal.TheVariants.{Shape, TooManyVisits, Memory}
use Rattle.fv_store.specs.Causes.{LeavesRoom, rows_of_all}
use Rattle.fv_store.specs.Changes.{after_all, changed, ChangesFit}
use Rattle.fv_store.specs.Records.{Contents, Kept, Records, Roots}
use Rattle.fv_store.specs.Stands.{Frame, HoldsRecords, Stays}
use Rattle.fv_store.specs.declared.changes.Change.{Change}
use Rattle.fv_bundle.specs.Types.{Declared}
use Rattle.fv_validate.specs.declared.fault.ValidateFault.{ValidateFault}
use Rattle.fv_validate.specs.declared.fault.ValidateFault.TheVariants as validate

-- ---- machines one after another

-- nothing has changed, and then nothing
pub still_unchanged : (x y z : Machine Records) → Unchanged x y → Unchanged y z → Unchanged x z
still_unchanged x y z one two = record {
  declared = two.declared ∙ one.declared;
  records = two.records ∙ one.records;
  was_open = λ live. one.was_open (two.was_open live);
  counts = omega (arith, one.counts, two.counts);
  closes = λ live. elim (one.closes live) [
    | inl live ↦ elim (two.closes live) [ inl still ↦ inl still | inr more ↦ inr (omega (arith, more, one.counts)) ]
    | inr more ↦ inr (omega (arith, more, two.counts))
  ];
  room = λ live. two.room live ∙ one.room (two.was_open live);
}

-- nothing has changed, and then records are taken
pub then_takes : (m : Records) (few many : ℕ) (x y z : Machine Records) → few ≤ many → Unchanged x y → Takes m few y z → Takes m many x z
then_takes m few many x y z less one two = record {
  declared = two.declared ∙ one.declared;
  records = two.records;
  was_open = one.was_open two.was_open;
  is_open = two.is_open;
  counts = omega (arith, one.counts, two.counts);
  room = omega (arith, less, one.room two.was_open, two.room);
}

-- the store has failed since where it has failed later
pub failed_since : (x y z : Machine Records) → Unchanged x y → y.faults ≤ z.faults → StoreHasFailed y z → StoreHasFailed x z
failed_since x y z stay counts (inl more) = inl (omega (arith, more, stay.counts))
failed_since x y z stay counts (inr shut) = go x.is_open refl
  where
    go : (b : Bool) → x.is_open ≡ b → StoreHasFailed x z
    go false is = inr is
    go true is = elim (stay.closes is) [
      | inl live ↦ let never : false ≡ true = sym shut ∙ live in absurd cc
      | inr more ↦ inl (omega (arith, more, counts))
    ]

-- ---- storing

pub frame_still : (s : State) → Frame s s
frame_still s = record { clean = λ clean. clean; was_open = λ clean live. live; counts = omega arith; closes = λ clean live. inl live }

module _ {H : Type 0} (held : H → State) (ds : Declarations) (bytes : List ℕ) (m : Records) (old new : H) where
  -- nothing was written
  pub moves_not : (T : Machine Records → Machine Records → Type 0) → Frame (held old) (held new) → (HoldsRecords (held old) (contents bytes ds m) → HoldsRecords (held new) (contents bytes ds m))
      → (HoldsRecords (held old) (contents bytes ds m) → Stays (held old) (held new))
      → (HasCleanDisk (held new) → HoldsRecords (held old) (contents bytes ds m) → Unchanged (with_map held (over held ds old) m) (with_map held (over held ds new) m)
      → T (with_map held (over held ds old) m) (with_map held (over held ds new) m)) → Moves held ds bytes m old new T
  moves_not T frame undone untouched does = λ clean holds. (
    m,
    does clean holds (record { declared = refl; records = refl; was_open = frame.was_open clean; counts = frame.counts; closes = frame.closes clean; room = λ live. ap room_in (untouched holds clean live).2 }),
    undone holds,
  )

  -- what stands on the way was written
  pub moves_on : (given : ℕ) (way : Way) (what : Done) (changes : List Change) → Frame (held old) (held new) → (HasCleanDisk (held new) → IsTrue (held new).is_open)
      → ((c : Contents) → ChangesFit c.types c.roots changes c.records → HoldsRecords (held old) c → HoldsRecords (held new) (changed changes c)) → after_all changes m ≡ overlay way m
      → rows_of_all changes ≤ given
      → (HasCleanDisk (held new) → (c : Contents) → HoldsRecords (held old) c → LeavesRoom (rows_of_all changes) (held old).now (held new).now)
      → (AreFitting ds.types ds.forms way → ChangesFit ds.types ds.forms changes m) → FitsWhereHeld (held old) (contents bytes ds m) way
      → Moves held ds bytes m old new (λ x y. Keeps given way what x (done what) y)
  moves_on given way what changes frame live stored after rows leaves fitting fits = λ clean holds.
      let now_live = live clean in
      let was = frame.was_open clean now_live in
      let left = room_left (rows_of_all changes) (held old).now (held new).now (leaves clean (contents bytes ds m) holds) in (
        overlay way m,
        inl (refl, record { declared = refl; records = refl; was_open = was; is_open = now_live; counts = frame.counts; room = omega (arith, left, rows) }),
        subst (λ (n : Records). HoldsRecords (held new) (contents bytes ds n)) after
            (stored (contents bytes ds m) (fitting (fits (frame.clean clean) was holds)) holds),
      )

-- ---- judging

-- the listings of some records are those of others, where these are the same
listed_as : (means : Meanings) (ds : Declarations) (now : ℤ) (Among Others : List ℕ → Kept → Type 0) → ((id : List ℕ) (k : Kept) → Among id k → Others id k) → ((id : List ℕ) (k : Kept) → Others id k → Among id k) → (ls : List Judged)
    → AreListingsOf means ds now Among ls → AreListingsOf means ds now Others ls
listed_as means ds now Among Others to back ls are = record {
  ascending = are.ascending;
  sound = λ l has. let found = are.sound l has in (found.0, found.1, to l.0 found.1 found.2, found.3);
  complete = λ id k is. are.complete id k (back id k is);
}

over_as : (ds : Declarations) (Among Others : List ℕ → Kept → Type 0) → ((id : List ℕ) (k : Kept) → Among id k → Others id k) → OneIsOverAmong ds Among → OneIsOverAmong ds Others
over_as ds Among Others to (id, k, is, over) = (id, k, to id k is, over)

module _ (means : Meanings) (now : ℤ) (given : ℕ) (way : Way) (what : Done) (x y : Machine Records) where
  -- nothing of what stands on the way has a violation
  pub settled_none : (answer : Answer) → AreListingsOf means x.declared now (IsStanding way) [] → Keeps given way what x answer y → Settles means now given way what x answer y
  settled_none answer none (inl took) = inr (inl ([], none, took))
  settled_none answer none (inr failed) = inr (inr (
    failed.0,
    fails_by (λ (why : Refusal). Fails why (AreListingsOf means x.declared now (IsStanding way) [] × (HasRoomOn given way x → StoreHasFailed x y))) _ failed.0 failed.1 tt (λ cause. (none, cause)),
    failed.2,
    failed.3,
  ))

  -- some of it has
  pub settled_some : (ls : List Judged) → AreListingsOf means x.declared now (IsStanding way) ls → (ls ≡ [] → ⊥) → Unchanged x y → Settles means now given way what x (violated ls) y
  settled_some [] judged some stay = absurd (some refl)
  settled_some (l ∷ ls) judged some stay = inr (inl (l ∷ ls, judged, (refl, stay)))

  -- it isn't judged
  pub settled_not : (fault : ValidateFault) → IsOfJudging fault → (fault ≡ validate.TooManyVisits → OneIsOverAmong x.declared (IsStanding way)) → Unchanged x y
      → Settles means now given way what x (refused (unjudged fault)) y
  settled_not validate.UnknownGroup other many stay = absurd (other.0 refl)
  settled_not validate.NoSuchField other many stay = absurd (other.1 refl)
  settled_not validate.TooManyVisits other many stay = inl (many refl, refl, stay)
  settled_not validate.Memory other many stay = inr (inr (Memory, tt, refl, stay))

-- ---- parts

-- want of memory, or another fault
pub is_part_memory : (f : PartFault) → (f ≡ part.Memory) ⊎ (f ≢ part.Memory)
is_part_memory part.Memory = inl refl
is_part_memory part.UnknownForm = inr (λ e. cc)
is_part_memory (part.Bundle fault) = inr (λ e. cc)
is_part_memory part.NoRecord = inr (λ e. cc)

last_of : (o : Option Answer) → first_of (o ∷ []) ≡ o
last_of None = refl
last_of (Some a) = refl

-- how a part that can't be done is told
part_other : (f : PartFault) → IsOther (refused (part_refusal f))
part_other part.UnknownForm = tt
part_other (part.Bundle fault) = tt
part_other part.NoRecord = tt
part_other part.Memory = tt

pub told_other : (what : Done) (n : ℕ) (f : PartFault) → IsOther (told_part what n (part_refusal f))
told_other what.Put n f = part_other f
told_other what.Set n f = part_other f
told_other what.Remove n f = part_other f
told_other what.Batch n f = tt

-- what refuses a command whose parts have the form of parts: the first of them that can't be done
pub refusal_of : (ds : Declarations) (m : Records) (parts : List Part) (what : Done) → are_misshapen ds.types ds.forms parts ≡ false → (r : Request) → IsCommand r parts what
    → (made_so : Result Records (ℕ × PartFault)) → made ds parts m ≡ made_so → refusal ds m r ≡ told_fault (told_part what) made_so
refusal_of ds m parts what shaped r command made_so is =
    command.refusal_is ds m
    ∙ ap (λ (b : Bool). first_of (when b Shape ∷ told_fault (told_part what) (made ds parts m) ∷ [])) shaped
    ∙ ap (λ (s : Result Records (ℕ × PartFault)). first_of (told_fault (told_part what) s ∷ [])) is ∙ last_of (told_fault (told_part what) made_so)

module _ (means : Meanings) (now : ℤ) (parts : List Part) (what : Done) (x : Machine Records) where
  pub change_memory : (y : Machine Records) → Unchanged x y → ChangesSo means now parts what x (refused Memory) y
  change_memory y stay = λ r command. out_of_memory means now r x y stay command.short

  -- one of the puts has a bundle that is none
  pub change_misshapen : are_misshapen x.declared.types x.declared.forms parts ≡ true → ChangesSo means now parts what x (refused Shape) x
  change_misshapen is = λ r command. still means now r x x (stays_itself x) (refused Shape) tt
      (inl (command.refusal_is x.declared x.records ∙ ap (λ (b : Bool). first_of (when b Shape ∷ told_fault (told_part what) (made x.declared parts x.records) ∷ [])) is, refl))
      (λ looks. let never : true ≡ false = sym is ∙ (command.needs x.declared looks).0 in absurd cc)

  module _ (shaped : are_misshapen x.declared.types x.declared.forms parts ≡ false) where
    -- one of the parts can't be done
    pub change_unmade : (e : ℕ × PartFault) → made x.declared parts x.records ≡ Err e → (y : Machine Records) → Unchanged x y → (IsTrue (list_any needs_record parts) → IsTrue x.is_open)
        → ChangesSo means now parts what x (told_part what e.0 (part_refusal e.1)) y
    change_unmade e is y stay live = λ r command. still means now r x y stay (told_part what e.0 (part_refusal e.1)) (told_other what e.0 e.1)
        (inl (refusal_of x.declared x.records parts what shaped r command (Err e) is, stay.records)) (λ looks. live (command.needs x.declared looks).1)

    -- the records that they need aren't found
    pub change_unfound : (why : Refusal) (y : Machine Records) → Unchanged x y → Fails why (IsTrue (list_any needs_record parts) × StoreHasFailed x y) → ChangesSo means now parts what x (refused why) y
    change_unfound why y stay f = λ r command. fails_by (λ (w : Refusal). Handles means now r x (refused w) y) _ why f (out_of_memory means now r x y stay command.short)
        (λ cause. unstored means now r x y stay (inl (command.looks x.declared shaped cause.0)) (inl cause.1))

    -- all are made: what they leave stands on the way, over a machine that is as it was
    module _ (given : ℕ) (way : Way) (mid y : Machine Records) (is : made x.declared parts x.records ≡ Ok (overlay way x.records)) (stay : Unchanged x mid)
        (room : mid.room ≡ x.room) (live : IsTrue (list_any needs_record parts) → IsTrue x.is_open)
        (few : given ≤ rows_taken parts) (stands : (id : List ℕ) (k : Kept) → IsTouched parts (overlay way x.records) id k → IsStanding way id k)
        (touched : (id : List ℕ) (k : Kept) → IsStanding way id k → IsTouched parts (overlay way x.records) id k) where
      same_records : overlay way mid.records ≡ overlay way x.records
      same_records = ap (overlay way) stay.records

      are_listed : (ls : List Judged) → AreListingsOf means mid.declared now (IsStanding way) ls → AreListings means x.declared now parts (overlay way x.records) ls
      are_listed ls judged = listed_as means x.declared now (IsStanding way) (IsTouched parts (overlay way x.records)) touched stands ls
          (subst (λ (ds : Declarations). AreListingsOf means ds now (IsStanding way) ls) stay.declared judged)

      has_room : HasRoomFor parts (overlay way x.records) x → HasRoomOn given way mid
      has_room r = (omega (arith, few, room, r.0), λ id k is. r.1 id k (touched id k is))

      module _ (r : Request) (command : IsCommand r parts what) where
        -- no part refuses the command
        serves : (answer : Answer) (n : Records) → (OneIsOverVisited x.declared parts (overlay way x.records) × (answer ≡ refused TooManyVisits) × (n ≡ x.records))
            ⊎ ((AreListings means x.declared now parts (overlay way x.records) [] × (answer ≡ done what) × (n ≡ overlay way x.records))
            ⊎ ((ls : List Judged) × AreListings means x.declared now parts (overlay way x.records) ls × (ls ≢ []) × (answer ≡ violated ls) × (n ≡ x.records)))
            → Answers means x.declared now r x.records answer n
        serves answer n judged = inr (refusal_of x.declared x.records parts what shaped r command (Ok (overlay way x.records)) is, command.serves means x.declared now x.records answer n (overlay way x.records, is, judged))

        looks_live : LooksUp x.declared r → IsTrue x.is_open
        looks_live looks = live (command.needs x.declared looks).1

        taken_so : AreListings means x.declared now parts (overlay way x.records) [] → IsTaken means x.declared now r x.records (overlay way x.records)
        taken_so none = (what, serves (done what) (overlay way x.records) (inr (inl (none, refl, refl))))

        taken : AreListings means x.declared now parts (overlay way x.records) [] → Takes (overlay way x.records) (rows_taken parts) x y → Handles means now r x (done what) y
        taken none takes = (
          inl (serves (done what) y.records (inr (inl (none, refl, takes.records)))),
          record {
            declared = takes.declared;
            counts = takes.counts;
            was_open = λ after. takes.was_open;
            closes = λ before. inl takes.is_open;
            gives = (takes.was_open, takes.is_open, subst (λ (ps : List Part). x.room ≤ y.room + rows_taken ps) (sym command.parts_are) takes.room);
            finds = λ looks. inl takes.was_open;
            cause = λ e. cc;
          },
        )

        decided : (ls : List Judged) → AreListings means x.declared now parts (overlay way x.records) ls → (answer : Answer) → TakesOrTells what given ls (overlay way mid.records) mid answer y
            → Handles means now r x answer y
        decided [] none answer d = subst (λ (a : Answer). Handles means now r x a y) (sym d.0)
            (taken none (then_takes (overlay way x.records) given (rows_taken parts) x mid y few stay
            (subst (λ (m : Records). Takes m given mid y) same_records d.1)))
        decided (l ∷ ls) are answer d =
            let stays = still_unchanged x mid y stay d.1 in
            subst (λ (a : Answer). Handles means now r x a y) (sym d.0)
            (still means now r x y stays (violated (l ∷ ls)) tt (serves (violated (l ∷ ls)) y.records (inr (inr (l ∷ ls, are, λ e. cc, refl, stays.records)))) looks_live)

        settled : (answer : Answer) → Settles means now given way what mid answer y → Handles means now r x answer y
        settled answer (inl over) =
            let stays = still_unchanged x mid y stay over.2 in
            let one = over_as x.declared (IsStanding way) (IsTouched parts (overlay way x.records)) touched (subst (λ (ds : Declarations). OneIsOverAmong ds (IsStanding way)) stay.declared over.0) in
            subst (λ (a : Answer). Handles means now r x a y) (sym over.1)
            (still means now r x y stays (refused TooManyVisits) tt (serves (refused TooManyVisits) y.records (inl (one, refl, stays.records))) looks_live)
        settled answer (inr (inl judged)) = decided judged.0 (are_listed judged.0 judged.1) answer judged.2
        settled answer (inr (inr failed)) =
            let stays = still_unchanged x mid y stay failed.3 in
            subst (λ (a : Answer). Handles means now r x a y) (sym failed.2)
            (fails_by (λ (w : Refusal). Handles means now r x (refused w) y) _ failed.0 failed.1 (out_of_memory means now r x y stays command.short) (λ cause.
            let takes = taken_so (are_listed [] cause.0) in
            unstored means now r x y stays (inr (overlay way x.records, takes)) (inr (
              overlay way x.records,
              takes,
              λ has. failed_since x mid y stay failed.3.counts
                  (cause.1 (has_room (subst (λ (ps : List Part). HasRoomFor ps (overlay way x.records) x) command.parts_are has))),
            ))))

      pub change_settled : (answer : Answer) → Settles means now given way what mid answer y → ChangesSo means now parts what x answer y
      change_settled answer settles = λ r command. settled r command answer settles

-- ---- one set

-- where the parts are one set, one object was set in the one record on the way
pub one_set : (types : Declared) (forms : Roots) (parts : List Part) (start way : Way) (m : Records) → Agrees start m → AllByRecursion (Covers start) parts → length start ≤ count_needed parts
    → steps_made types 0 (map (staged types forms) parts) start ≡ Ok way → IsOneSet (set_object parts) way m
one_set types forms [] start way m agrees covers few made = tt
one_set types forms (put id form j ∷ ps) start way m agrees covers few made = tt
one_set types forms (remove id ∷ ps) start way m agrees covers few made = tt
one_set types forms (set id object field j ∷ p ∷ ps) start way m agrees covers few made = tt
one_set types forms (set id object field j ∷ []) start way m agrees covers few made =
    (id, set_alone types id object field j start way m agrees (covers.0 id refl) (omega (arith, few)) made)

-- they take no more rowids than the parts
pub few_taken : (parts : List Part) (way : Way) → length (standing way) ≤ count_left parts → rows_on (set_object parts) way ≤ rows_taken parts
few_taken [] way few = omega (arith, few)
few_taken (put id form j ∷ ps) way few = omega (arith, few)
few_taken (remove id ∷ ps) way few = omega (arith, few)
few_taken (set id object field j ∷ p ∷ ps) way few = omega (arith, few)
few_taken (set id object field j ∷ []) way few = omega arith

-- where no object's name is given, all that stand are counted
pub all_rows : {E : Type 0} (way : Way) (r : Result (Vec Change Global) E) → IfOk r (λ v. (types : Declared) → AreTyped types way → rows_of_all v.items ≤ most_rows * length (standing way))
    → IfOk r (λ v. (types : Declared) (m : Records) → AreTyped types way → IsOneSet None way m → rows_of_all v.items ≤ rows_on None way)
all_rows way (Ok v) rows = λ types m typed one. rows types typed
all_rows way (Err e) rows = tt

-- the changes of it serve for what a set leaves
module _ {E : Type 0} (object : List ℕ) (way : Way) where
  pub set_after : (r : Result (Vec Change Global) E) → IfOk r (λ v. (id : List ℕ) (m : Records) → IsOneObject id object way m → after_all v.items m ≡ overlay way m)
      → IfOk r (λ v. (m : Records) → IsOneSet (Some object) way m → after_all v.items m ≡ overlay way m)
  set_after (Ok v) after = λ m one. after one.0 m one.1
  set_after (Err e) after = tt

  pub set_fit : (r : Result (Vec Change Global) E)
      → IfOk r (λ v. (types : Declared) (forms : Roots) (id : List ℕ) (m : Records) → IsOneObject id object way m → AreFitting types forms way → ChangesFit types forms v.items m)
      → IfOk r (λ v. (types : Declared) (forms : Roots) (m : Records) → IsOneSet (Some object) way m → AreFitting types forms way → ChangesFit types forms v.items m)
  set_fit (Ok v) fit = λ types forms m one fitting. fit types forms one.0 m one.1 fitting
  set_fit (Err e) fit = tt

  pub set_rows : (r : Result (Vec Change Global) E) → IfOk r (λ v. (id : List ℕ) (m : Records) → IsOneObject id object way m → rows_of_all v.items ≡ 0)
      → IfOk r (λ v. (types : Declared) (m : Records) → AreTyped types way → IsOneSet (Some object) way m → rows_of_all v.items ≤ rows_on (Some object) way)
  set_rows (Ok v) none = λ types m typed one. let is = none one.0 m one.1 in omega (arith, is)
  set_rows (Err e) none = tt

-- ---- a part by itself, and a batch

first_both : (a b : Option Answer) → first_of (a ∷ None ∷ None ∷ b ∷ None ∷ None ∷ None ∷ []) ≡ first_of (a ∷ b ∷ [])
first_both (Some a) b = refl
first_both None (Some b) = refl
first_both None None = refl

-- a part by itself is told without a number
told_alone : (p : Part) (r : Result Records (ℕ × PartFault)) → told_fault (λ n why. refused why) r ≡ told_fault (told_part (done_by p)) r
told_alone (put id form j) r = refl
told_alone (set id object field j) r = refl
told_alone (remove id) r = refl

pub by_itself : (p : Part) → IsCommand (alone p) (p ∷ []) (done_by p)
by_itself p = record {
  short = refl;
  parts_are = refl;
  refusal_is = λ ds m. first_both (when (are_misshapen ds.types ds.forms (p ∷ [])) Shape) (told_fault (λ n why. refused why) (made ds (p ∷ []) m))
      ∙ ap (λ (o : Option Answer). first_of (when (are_misshapen ds.types ds.forms (p ∷ [])) Shape ∷ o ∷ [])) (told_alone p (made ds (p ∷ []) m));
  serves = λ means ds now old answer new changes. changes;
  needs = λ ds looks. (looks.1, looks.0);
  looks = λ ds shaped needs. (needs, shaped, refl);
}

pub in_batch : (ps : List Part) → IsCommand (batch ps) ps what.Batch
in_batch ps = record {
  short = refl;
  parts_are = refl;
  refusal_is = λ ds m. first_both (when (are_misshapen ds.types ds.forms ps) Shape) (told_fault part_refused (made ds ps m));
  serves = λ means ds now old answer new changes. changes;
  needs = λ ds looks. (looks.1, looks.0);
  looks = λ ds shaped needs. (needs, shaped, refl);
}
