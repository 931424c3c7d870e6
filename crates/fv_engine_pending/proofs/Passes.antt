-- How far a pass over all stored records has come, and how it ends.
use Rattle.std.proofs.Common.{◌≡◌, ℕ, ℤ, ◌+◌, ◌-◌, ◌*◌, ◌^◌, ◌<◌, ◌≤◌, suc, inl, List, [], ◌∷◌, ◌++◌, length, Option, Some, None, option_map, option_and_then, Result, Ok, Err, MatchResult, IfOk, IfErr, string_bytes, refl, sym, ap, subst, ◌∙◌, append_assoc, arith, IfSome, String, Global}
use Rattle.std.specs.List.{AllByRecursion}
use Rattle.std.specs.Map.{keys_of}
use Rattle.std.specs.Result.{result_map_both}
use Rattle.std.proofs.lemmas.List.{append-nil, length-append}
use Rattle.serde_json.specs.Data as json
use Rattle.sqlite.specs.State.{State, HasCleanDisk}
use Rattle.sqlite_rules.specs.Lists.{Has}
use Rattle.fv_declare_schema.specs.Declarations.{Declarations}
use Rattle.fv_engine_pending.specs.Judging.{AreListingsOf, OneIsOverAmong}
use Rattle.fv_engine_pending.specs.Passes.{reread, all_reread, IsReread, AreKnown, AreAll, Reaches, last_of, OnlyReads, Sure, WrittenFails, of_store, OneFails, FirstFails, PageFails, NextDone, NextFails}
use Rattle.fv_engine_pending.specs.Records.{AreJudged, OneIsOver, with_some}
use Rattle.fv_engine_pending.specs.Rejudging.{IsFirstUnfit, HasFewIds, IsOfRecord, RejudgeFails}
use Rattle.fv_engine_pending.specs.declared.rejudging.RejudgeFault.{RejudgeFault}
use Rattle.fv_engine_pending.specs.declared.rejudging.RejudgeFault.TheVariants.{Unfit, TooManyVisits, Store, Memory}
use Rattle.fv_engine_pending.specs.declared.rejudging.Verdicts.{Verdicts}
use Rattle.fv_engine_pending.proofs.Listings.{listings_of, over_of}
use Rattle.fv_engine_pending.proofs.Pages.{Below, IsAbove, IsFirstFault, Pages, all_append, all_done, all_has, below_empty, fault_in, has_right, keys_append, known_at, length_keys, page_known, reach_none, reach_only, reach_page}
use Rattle.fv_engine_pending.proofs.Found.{stays_then}
use Rattle.fv_engine_pending.specs.Again.{again, all_again, if_read, AllReadAgain}
use Rattle.fv_engine_pending.specs.declared.fault.PartFault.{PartFault}
use Rattle.fv_validate.specs.Violations.{Judged}
use Rattle.fv_bundle.specs.Bundles.{Bundled}
use Rattle.fv_registry.specs.Meanings.{Meanings}
use Rattle.fv_store.proofs.Steps.{frame_then, failed_then}
use Rattle.fv_store.specs.Again.{with_bundle}
use Rattle.fv_store.specs.Causes.{HasFailed}
use Rattle.fv_store.specs.Lists.{ListsOf}
use Rattle.fv_store.specs.Records.{Contents, Kept, Records}
use Rattle.fv_store.specs.Stands.{HoldsRecords, IsLive}
use Rattle.fv_store.specs.Stored.{untyped}
use Rattle.fv_store.specs.declared.fault.StoreFault.{StoreFault}
use Rattle.fv_store.specs.declared.fault.StoreFault.TheVariants as store

-- ---- what a call keeps

pub reads_then : (old mid new : State) → OnlyReads old mid → OnlyReads mid new → OnlyReads old new
reads_then old mid new a b = record {
  frame = frame_then old mid new a.frame b.frame;
  stays = λ c holds. b.stays c (a.stays c holds);
  untouched = λ c holds. stays_then old mid new (a.untouched c holds) (b.untouched c (a.stays c holds));
}

pub reads_none : (s : State) → OnlyReads s s
reads_none s = record {
  frame = record { clean = λ clean. clean; was_open = λ clean live. live; counts = omega arith; closes = λ clean live. inl live };
  stays = λ c holds. holds;
  untouched = λ c holds clean live. (clean, live, refl, refl);
}

-- ---- a record that is read again

both_ok : {X Y E : Type 0} (f : X → Y) (r : Result X E) (y : Y) → result_map_both f (λ e. e) r ≡ Ok y → (x : X) × (r ≡ Ok x) × (f x ≡ y)
both_ok f (Ok x) y is = (x, refl, cc)
both_ok f (Err e) y is = cc

both_err : {X Y E : Type 0} (f : X → Y) (r : Result X E) (e : E) → result_map_both f (λ e. e) r ≡ Err e → r ≡ Err e
both_err f (Ok x) e is = cc
both_err f (Err d) e is = let same : d ≡ e = cc in ap (λ x. Err x) same

of_some : {X Y : Type 0} (f : X → Y) (o : Option X) (y : Y) → Some y ≡ option_map f o → (x : X) × (o ≡ Some x) × (y ≡ f x)
of_some f None y is = cc
of_some f (Some x) y is = (x, refl, cc)

module _ (ds : Declarations) where
  -- the record that is there gives this
  reread_found : (m : Records) (id : List ℕ) (w : List ℕ × Option json.Data) (r : Result Kept PartFault) → IsReread ds w r → Some w ≡ option_map untyped (m id) → all_reread ds m id ≡ Some r
  reread_found m id w r told is = let found = of_some untyped (m id) w is in ap (option_map (reread ds)) found.1 ∙ ap (λ x. Some x) (told found.0 found.2)

  reread_ok : (k : Kept) → (j : Kept) × (reread ds k ≡ Ok j) → (b : Bundled) × (again ds.types ds.forms k ≡ Ok b)
  reread_ok k (j, is) = let found = both_ok (with_bundle k) (again ds.types ds.forms k) j is in (found.0, found.1)

  pub first_unfit : (m : Records) (id : List ℕ) (why : PartFault) → IsFirstFault (all_reread ds m) id why → IsFirstUnfit ds.types ds.forms m id why
  first_unfit m id why first =
      let found = of_some (reread ds) (m id) (Err why) (sym first.known) in
      record {
        kept = found.0;
        known = found.1;
        unread = both_err (with_bundle found.0) (again ds.types ds.forms found.0) why (sym found.2);
        first = λ other k is less. reread_ok k (first.first other (reread ds k) (ap (option_map (reread ds)) is) less);
      }

  -- it is the same to read all again and to look at one of them
  read_as : (k s : Kept) (r : Result Bundled PartFault) → option_map (with_bundle k) (if_read r) ≡ Some s → result_map_both (with_bundle k) (λ why. why) r ≡ Ok s
  read_as k s (Ok b) is = let same : with_bundle k b ≡ s = cc in ap (λ x. Ok x) same
  read_as k s (Err why) is = cc

  as_read : (k s : Kept) (r : Result Bundled PartFault) → result_map_both (with_bundle k) (λ why. why) r ≡ Ok s → option_map (with_bundle k) (if_read r) ≡ Some s
  as_read k s (Ok b) is = let same : with_bundle k b ≡ s = cc in ap (λ x. Some x) same
  as_read k s (Err why) is = cc

  again_reread : (m : Records) (id : List ℕ) (s : Kept) → all_again ds.types ds.forms m id ≡ Some s → all_reread ds m id ≡ Some (Ok s)
  again_reread m id s is = at (m id) is
    where
      at : (o : Option Kept) → option_and_then (λ k. option_map (with_bundle k) (if_read (again ds.types ds.forms k))) o ≡ Some s → option_map (reread ds) o ≡ Some (Ok s)
      at None is = cc
      at (Some k) is = ap (λ x. Some x) (read_as k s (again ds.types ds.forms k) is)

  reread_again : (m : Records) (id : List ℕ) (s : Kept) → all_reread ds m id ≡ Some (Ok s) → all_again ds.types ds.forms m id ≡ Some s
  reread_again m id s is =
      let found = of_some (reread ds) (m id) (Ok s) (sym is) in
      ap (option_and_then (λ k. option_map (with_bundle k) (if_read (again ds.types ds.forms k)))) found.1 ∙ as_read found.0 s (again ds.types ds.forms found.0) (sym found.2)

  -- ids that are known have records
  each_there : (m : Records) (ks : List (List ℕ × Kept)) → AreKnown (all_reread ds m) ks → AllByRecursion (λ id. (k : Kept) × (m id ≡ Some k)) (keys_of ks)
  each_there m [] known = tt
  each_there m (k ∷ ks) known = let found = of_some (reread ds) (m k.0) (Ok k.1) (sym known.0) in ((found.0, found.1), each_there m ks known.1)

  -- ---- ids of records are ids of what they are read as

  as_above : (m : Records) (above id : List ℕ) → IsAbove m above id → IsAbove (all_reread ds m) above id
  as_above m above id l = record { value = reread ds l.value; known = ap (option_map (reread ds)) l.known; is_above = l.is_above }

  pages_reread : (m : Records) (above : List ℕ) (n : ℕ) (ids : List (List ℕ)) → Pages m above n ids → Pages (all_reread ds m) above n ids
  pages_reread m above n ids (all, listed, is) = (
    all,
    record {
      ascending = listed.ascending;
      sound = λ id has. as_above m above id (listed.sound id has);
      complete = λ id l. let found = of_some (reread ds) (m id) l.value (sym l.known) in listed.complete id (record { value = found.0; known = found.1; is_above = l.is_above });
    },
    is,
  )

pub pages_of : (m : Records) (above : List ℕ) (n : ℕ) (ids : List (List ℕ)) → ListsOf m (λ k. Unit {0}) above n ids → Pages m above n ids
pages_of m above n ids (all, listed, is) = (
  all,
  record {
    ascending = listed.ascending;
    sound = λ id has. let l = listed.sound id has in record { value = l.kept; known = l.known; is_above = l.is_above };
    complete = λ id l. listed.complete id (record { kept = l.value; known = l.known; wanted = tt; is_above = l.is_above });
  },
  is,
)

-- ---- one record

-- what reading a record and judging it gives
abbrev pub WrittenDone : {X : Type 0} → Declarations → List ℕ → List ℕ × Option json.Data → (Kept → Type 0) → Result X RejudgeFault → Type 0
WrittenDone ds id w Judges r = MatchResult r (λ _. (s : Kept) × IsReread ds w (Ok s) × Judges s) (λ f. WrittenFails ds id w f)

module _ (ds : Declarations) (old new : State) where
  pub one_read : {X : Type 0} (id : List ℕ) (w : List ℕ × Option json.Data) (Judges : Kept → Type 0) (r : Result X RejudgeFault) → Sure old new (λ m. Some w ≡ option_map untyped (m id)) → WrittenDone ds id w Judges r
      → MatchResult r (λ _. (s : Kept) × Sure old new (λ m. all_reread ds m id ≡ Some (Ok s)) × Judges s) (λ f. OneFails ds old new id f)
  one_read id w Judges (Ok x) sure told = (told.0, λ clean c shallow holds. reread_found ds c.records id w (Ok told.0) told.1 (sure clean c shallow holds), told.2)
  one_read id w Judges (Err (Unfit i why)) sure told = (told.0, λ clean c shallow holds. reread_found ds c.records id w (Err why) told.1 (sure clean c shallow holds))
  one_read id w Judges (Err TooManyVisits) sure told = absurd told
  one_read id w Judges (Err Store) sure told = λ clean c shallow holds k is. let found = of_some untyped (c.records id) w (sure clean c shallow holds) in absurd (told found.0 found.2)
  one_read id w Judges (Err Memory) sure told = tt

-- what is read of a record that is judged behind it
pub written_done : {X : Type 0} (ds : Declarations) (id : List ℕ) (w : List ℕ × Option json.Data) (s : Kept) (Judges : Kept → Type 0) (r : Result X RejudgeFault) → IsReread ds w (Ok s) → MatchResult r (λ _. Judges s) (λ f. f ≡ Memory) → WrittenDone ds id w Judges r
written_done ds id w s Judges (Ok x) is told = (s, is, told)
written_done ds id w s Judges (Err f) is told = subst (WrittenFails ds id w) (sym told) tt

none_found : (o : Option Kept) (k : Kept) → None ≡ option_map untyped o → o ≡ Some k → ⊥
none_found None k none is = cc
none_found (Some j) k none is = cc

-- ---- faults of the store

-- what the store tells of its fault
abbrev pub IsCaused : State → State → StoreFault → Type 0
IsCaused old new e = HasCleanDisk new → e ≡ store.Store → (c : Contents) → HoldsRecords old c → HasFailed old new

pub no_record : (e : StoreFault) → IsOfRecord (of_store e) → ⊥
no_record store.Store of = of
no_record store.Memory of = of

pub one_store : (ds : Declarations) (old new : State) (id : List ℕ) (e : StoreFault) → IsCaused old new e → OneFails ds old new id (of_store e)
one_store ds old new id store.Store cause = λ clean c shallow holds k is. cause clean refl c holds
one_store ds old new id store.Memory cause = tt

pub one_none : (ds : Declarations) (old new : State) (id : List ℕ) → Sure old new (λ m. None ≡ option_map untyped (m id)) → OneFails ds old new id Store
one_none ds old new id sure = λ clean c shallow holds k is. absurd (none_found (c.records id) k (sure clean c shallow holds) is)

pub first_store : (ds : Declarations) (old new : State) (e : StoreFault) → IsCaused old new e → FirstFails ds old new (of_store e)
first_store ds old new store.Store cause = λ clean c shallow holds. cause clean refl c holds
first_store ds old new store.Memory cause = tt

pub next_store : (ds : Declarations) (old new : State) (above : List ℕ) (e : StoreFault) → IsCaused old new e → NextFails ds old new above (of_store e)
next_store ds old new above store.Store cause = λ clean c shallow holds. cause clean refl c holds
next_store ds old new above store.Memory cause = tt

-- an open connection is told of, whatever is answered
pub live_told : {X : Type 0} (r : Result X RejudgeFault) (P : Type 0) → P → MatchResult r (λ _. P) (λ f. IsOfRecord f → P)
live_told (Ok x) P p = p
live_told (Err f) P p = λ of. p

pub live_err : {X : Type 0} (r : Result X RejudgeFault) (P : Type 0) → P → IfErr r (λ f. IsOfRecord f → P)
live_err (Ok x) P p = tt
live_err (Err f) P p = λ of. p

-- ---- the record of the empty id

module _ (So : Verdicts → List (List ℕ × Kept) → Type 0) (ds : Declarations) (old new : State) (v w : Verdicts) where
  -- what is read and judged of it
  abbrev pub FirstDone : Type 0
  FirstDone = (read : List (List ℕ × Kept)) × Sure old new (λ m. Reaches (all_reread ds m) [] read) × (So v [] → So w read)

  pub first_some : {X : Type 0} (t : List ℕ × Option json.Data) (r : Result X RejudgeFault) → Sure old new (λ m. Some t ≡ option_map untyped (m []))
      → WrittenDone ds [] t (λ s. (ks : List (List ℕ × Kept)) → So v ks → So w (ks ++ ([], s) ∷ [])) r → MatchResult r (λ _. FirstDone) (λ f. FirstFails ds old new f)
  first_some t (Ok x) sure told = (
    ([], told.0) ∷ [],
    λ clean c shallow holds. reach_only (all_reread ds c.records) told.0 (reread_found ds c.records [] t (Ok told.0) told.1 (sure clean c shallow holds)),
    λ so. told.2 [] so,
  )
  first_some t (Err (Unfit i why)) sure told = λ clean c shallow holds.
      let known : all_reread ds c.records [] ≡ Some (Err why) = reread_found ds c.records [] t (Err why) told.1 (sure clean c shallow holds) in
      first_unfit ds c.records (string_bytes i) why (record {
        known = ap (all_reread ds c.records) told.0 ∙ known;
        first = λ other r is less. absurd (below_empty other (subst (Below other) told.0 less));
      })
  first_some t (Err TooManyVisits) sure told = absurd told
  first_some t (Err Store) sure told = λ clean c shallow holds. let found = of_some untyped (c.records []) t (sure clean c shallow holds) in absurd (told found.0 found.2)
  first_some t (Err Memory) sure told = tt

none_there : (ds : Declarations) (o : Option Kept) (r : Result Kept PartFault) → None ≡ option_map untyped o → option_map (reread ds) o ≡ Some r → ⊥
none_there ds None r none some = cc
none_there ds (Some k) r none some = cc

pub first_none : (So : Verdicts → List (List ℕ × Kept) → Type 0) (ds : Declarations) (old new : State) (v : Verdicts) → Sure old new (λ m. None ≡ option_map untyped (m [])) → FirstDone So ds old new v v
first_none So ds old new v sure = ([], λ clean c shallow holds. reach_none (all_reread ds c.records) (λ r some. none_there ds (c.records []) r (sure clean c shallow holds) some), λ so. so)

-- ---- a page

-- what a loop keeps that has judged the records of these ids
pub record Page (So : Verdicts → List (List ℕ × Kept) → Type 0) (ds : Declarations) (old now : State) (was is : Verdicts) (front : List (List ℕ)) : Type 0 where
  pub reads : OnlyReads old now
  pub live : IsLive old → IsLive now
  pub read : List (List ℕ × Kept)
  pub keys : keys_of read ≡ front
  pub known : Sure old now (λ m. AreKnown (all_reread ds m) read)
  pub so : (ks : List (List ℕ × Kept)) → So was ks → So is (ks ++ read)

pub page_first : (So : Verdicts → List (List ℕ × Kept) → Type 0) (ds : Declarations) (old : State) (v : Verdicts) → Page So ds old old v v []
page_first So ds old v = record {
  reads = reads_none old;
  live = λ live. live;
  read = [];
  keys = refl;
  known = λ clean c shallow holds. tt;
  so = λ ks so. subst (So v) (sym (append-nil ks)) so;
}

pub page_more : (So : Verdicts → List (List ℕ × Kept) → Type 0) (ds : Declarations) (old mid new : State) (was v w : Verdicts) (front longer : List (List ℕ)) (id : List ℕ) (s : Kept) → Page So ds old mid was v front → OnlyReads mid new → IsLive new → longer ≡ front ++ id ∷ []
    → Sure mid new (λ m. all_reread ds m id ≡ Some (Ok s)) → ((ks : List (List ℕ × Kept)) → So v ks → So w (ks ++ (id, s) ∷ [])) → Page So ds old new was w longer
page_more So ds old mid new was v w front longer id s p reads live longer-is sure so = record {
  reads = reads_then old mid new p.reads reads;
  live = λ was-live. live;
  read = p.read ++ (id, s) ∷ [];
  keys = keys_append p.read ((id, s) ∷ []) ∙ ap (λ ids. ids ++ id ∷ []) p.keys ∙ sym longer-is;
  known = λ clean c shallow holds. all_append (λ k. all_reread ds c.records k.0 ≡ Some (Ok k.1)) p.read ((id, s) ∷ []) (p.known (reads.frame.clean clean) c shallow holds) (sure clean c shallow (p.reads.stays c holds), tt);
  so = λ ks were. subst (So w) (append_assoc ks p.read ((id, s) ∷ [])) (so (ks ++ p.read) (p.so ks were));
}

pub page_fails : (So : Verdicts → List (List ℕ × Kept) → Type 0) (ds : Declarations) (old mid new : State) (was v : Verdicts) (front ids rest : List (List ℕ)) (id : List ℕ) (f : RejudgeFault) → Page So ds old mid was v front → OnlyReads mid new → ids ≡ front ++ id ∷ rest
    → OneFails ds mid new id f → PageFails ds old new ids f
page_fails So ds old mid new was v front ids rest id (Unfit i why) p reads is (same, sure) = (
  p.read,
  rest,
  is ∙ ap (λ (xs : List (List ℕ)). xs ++ id ∷ rest) (sym p.keys) ∙ ap (λ (x : List ℕ). keys_of p.read ++ x ∷ rest) (sym same),
  λ clean c shallow holds. (p.known (reads.frame.clean clean) c shallow holds, ap (all_reread ds c.records) same ∙ sure clean c shallow (p.reads.stays c holds)),
)
page_fails So ds old mid new was v front ids rest id TooManyVisits p reads is told = absurd told
page_fails So ds old mid new was v front ids rest id Store p reads is sure = λ clean c shallow holds all.
    let there = all_has (λ x. (k : Kept) × (c.records x ≡ Some k)) ids id all (subst (λ (xs : List (List ℕ)). Has xs id) (sym is) (has_right front (id ∷ rest) id (inl refl))) in
    failed_then old mid new (reads.frame.clean clean) p.reads.frame reads.frame.counts (sure clean c shallow (p.reads.stays c holds) there.0 there.1)
page_fails So ds old mid new was v front ids rest id Memory p reads is told = tt

-- ---- the next page

-- what judging a page gives
abbrev pub PageDone : (Verdicts → List (List ℕ × Kept) → Type 0) → Declarations → State → State → Verdicts → Verdicts → List (List ℕ) → Type 0
PageDone So ds old new v w ids = (read : List (List ℕ × Kept)) × (keys_of read ≡ ids) × Sure old new (λ m. AreKnown (all_reread ds m) read) × ((ks : List (List ℕ × Kept)) → So v ks → So w (ks ++ read))

-- a page of ids above one was asked for, and its records were read
module _ (ds : Declarations) (a b c : State) (above : List ℕ) (limit : ℕ) (ids : List (List ℕ)) (asked : OnlyReads a b) (page : Sure a b (λ m. Pages m above limit ids)) (reads : OnlyReads b c) where
  pub next_failed : (f : RejudgeFault) → PageFails ds b c ids f → NextFails ds a c above f
  next_failed (Unfit i why) (read, rest, is, sure) = λ clean k shallow holds done reaches.
      let there = sure clean k shallow (asked.stays k holds) in
      let listed = pages_reread ds k.records above limit (keys_of read ++ string_bytes i ∷ rest) (subst (Pages k.records above limit) is (page (reads.frame.clean clean) k shallow holds)) in
      let came = reach_page (all_reread ds k.records) limit above done read (string_bytes i ∷ rest) reaches listed there.0 in
      first_unfit ds k.records (string_bytes i) why (fault_in (all_reread ds k.records) (limit - length read) (last_of above (keys_of read)) (done ++ read) (string_bytes i) why rest came.0 came.1 there.1)
  next_failed TooManyVisits told = absurd told
  next_failed Store sure = λ clean k shallow holds.
      let known = page_known k.records limit above ids (page (reads.frame.clean clean) k shallow holds) in
      failed_then a b c (reads.frame.clean clean) asked.frame reads.frame.counts (sure clean k shallow (asked.stays k holds) known)
  next_failed Memory told = tt

  module _ (So : Verdicts → List (List ℕ × Kept) → Type 0) (v w : Verdicts) (told : PageDone So ds b c v w ids) where
    counted : length told.0 ≡ length ids
    counted = sym (length_keys told.0) ∙ ap length told.1

    came : Sure a c (λ m. (done : List (List ℕ × Kept)) → Reaches (all_reread ds m) above done → Reaches (all_reread ds m) (last_of above ids) (done ++ told.0) × Pages (all_reread ds m) (last_of above ids) (limit - length ids) [])
    came clean k shallow holds done reaches =
        let m = all_reread ds k.records in
        let listed : Pages m above limit (keys_of told.0 ++ []) =
        pages_reread ds k.records above limit (keys_of told.0 ++ []) (subst (Pages k.records above limit) (sym told.1 ∙ sym (append-nil (keys_of told.0))) (page (reads.frame.clean clean) k shallow holds)) in
        let got = reach_page m limit above done told.0 [] reaches listed (told.2 clean k shallow (asked.stays k holds)) in (
          subst (λ (xs : List (List ℕ)). Reaches m (last_of above xs) (done ++ told.0)) told.1 got.0,
          subst (λ (n : ℕ). Pages m (last_of above ids) (limit - n) []) counted (subst (λ (xs : List (List ℕ)). Pages m (last_of above xs) (limit - length told.0) []) told.1 got.1),
        )

    -- a page that isn't full is the last
    all_came : length ids < limit → Sure a c (λ m. (done : List (List ℕ × Kept)) → Reaches (all_reread ds m) above done → AreAll (all_reread ds m) (done ++ told.0))
    all_came few clean k shallow holds done reaches =
        let is : limit - length ids ≡ suc (limit - length ids - 1) = omega arith in
        let got = came clean k shallow holds done reaches in
        let left = subst (λ (n : ℕ). Pages (all_reread ds k.records) (last_of above ids) n []) is got.1 in
        record {
          ascending = got.0.ascending;
          known = got.0.known;
          complete = all_done (all_reread ds k.records) (last_of above ids) (limit - length ids - 1) (done ++ told.0) got.0 left;
        }

    pub next_done : (o : Option (String Global)) → IfSome o (λ s. (above : List ℕ) → string_bytes s ≡ last_of above ids) → IfSome o (λ _. 1000 ≤ length ids) → (o ≡ None → length ids < limit) → NextDone So ds a c v w above (option_map string_bytes o)
    next_done (Some s) last full few = (
      told.0,
      subst (λ (n : ℕ). 1000 ≤ n) (sym counted) full,
      told.3,
      λ clean k shallow holds done reaches. subst (λ (x : List ℕ). Reaches (all_reread ds k.records) x (done ++ told.0)) (sym (last above)) (came clean k shallow holds done reaches).0,
    )
    next_done None last full few = (told.0, tt, told.3, all_came (few refl))

-- ---- pages

-- what a loop keeps that has judged all records whose ids aren't above one, so many at least
pub record Pass (So : Verdicts → List (List ℕ × Kept) → Type 0) (ds : Declarations) (old now : State) (v : Verdicts) (above : List ℕ) (count : ℕ) : Type 0 where
  pub reads : OnlyReads old now
  pub done : List (List ℕ × Kept)
  pub so : So v done
  pub reaches : Sure old now (λ m. Reaches (all_reread ds m) above done)
  pub many : count ≤ length done

pub pass_first : (So : Verdicts → List (List ℕ × Kept) → Type 0) (ds : Declarations) (old new : State) (v w : Verdicts) (above : List ℕ) → OnlyReads old new → So v [] → FirstDone So ds old new v w → above ≡ [] → Pass So ds old new w above 0
pass_first So ds old new v w above reads none first is = record {
  reads = reads;
  done = first.0;
  so = first.2 none;
  reaches = subst (λ (x : List ℕ). Sure old new (λ m. Reaches (all_reread ds m) x first.0)) (sym is) first.1;
  many = omega arith;
}

module _ (So : Verdicts → List (List ℕ × Kept) → Type 0) (ds : Declarations) (old a c : State) (v : Verdicts) (above : List ℕ) (count : ℕ) (p : Pass So ds old a v above count) (reads : OnlyReads a c) where
  pub pass_failed : (f : RejudgeFault) → NextFails ds a c above f → Sure old c (λ m. RejudgeFails ds m (HasFailed old c) f)
  pass_failed (Unfit i why) sure = λ clean k shallow holds. sure clean k shallow (p.reads.stays k holds) p.done (p.reaches (reads.frame.clean clean) k shallow holds)
  pass_failed TooManyVisits told = absurd told
  pass_failed Store sure = λ clean k shallow holds few. failed_then old a c (reads.frame.clean clean) p.reads.frame reads.frame.counts (sure clean k shallow (p.reads.stays k holds))
  pass_failed Memory told = λ clean k shallow holds. tt

  pub pass_more : (w : Verdicts) (last next : List ℕ) (more : ℕ) → NextDone So ds a c v w above (Some last) → next ≡ last → more ≤ count + 1000 → Pass So ds old c w next more
  pass_more w last next more told is fewer = record {
    reads = reads_then old a c p.reads reads;
    done = p.done ++ told.0;
    so = told.2 p.done p.so;
    reaches = λ clean k shallow holds. subst (λ (x : List ℕ). Reaches (all_reread ds k.records) x (p.done ++ told.0)) (sym is) (told.3 clean k shallow (p.reads.stays k holds) p.done (p.reaches (reads.frame.clean clean) k shallow holds));
    many = omega (arith, p.many, told.1, length-append p.done told.0);
  }

  -- all are judged
  pub pass_end : (w : Verdicts) → NextDone So ds a c v w above None → (all : List (List ℕ × Kept)) × So w all × Sure old c (λ m. AreAll (all_reread ds m) all)
  pass_end w told = (
    p.done ++ told.0,
    told.2 p.done p.so,
    λ clean k shallow holds. told.3 clean k shallow (p.reads.stays k holds) p.done (p.reaches (reads.frame.clean clean) k shallow holds),
  )

-- ---- the end

-- the ids that may be looked at were looked at
pub pass_over : (So : Verdicts → List (List ℕ × Kept) → Type 0) (ds : Declarations) (old now : State) (v : Verdicts) (above : List ℕ) (count : ℕ) → Pass So ds old now v above count → 2 ^ 32 * 1000 ≤ count → Sure old now (λ m. HasFewIds m → HasFailed old now)
pass_over So ds old now v above count p enough clean c shallow holds few =
    let r = p.reaches clean c shallow holds in
    let less : length (keys_of p.done) < 2 ^ 32 * 1000 = few (keys_of p.done) r.ascending (each_there ds c.records p.done r.known) in
    let same : length (keys_of p.done) ≡ length p.done = length_keys p.done in
    absurd (omega (arith, p.many, less, same, enough))

module _ (means : Meanings) (ds : Declarations) (moment : ℤ) (all : List (List ℕ × Kept)) where
  -- what all are told to be judged as
  abbrev pub AllTold : {V : Type 0} → (V → List Judged) → Result V RejudgeFault → Type 0
  AllTold view r = MatchResult r (λ x. (ls : List Judged) × AreJudged means ds moment all ls × (view x ≡ with_some ls)) (λ f. (f ≡ TooManyVisits) × OneIsOver ds all)

  module _ (m : Records) (are : AreAll (all_reread ds m) all) where
    all_fit : AllReadAgain ds.types ds.forms m
    all_fit id k is =
        let known = ap (option_map (reread ds)) is in
        reread_ok ds k (known_at (all_reread ds m) all id (reread ds k) are.known known (are.complete id (reread ds k) known))

    -- the records among which they are
    abbrev Among : List ℕ → Kept → Type 0
    Among id k = all_again ds.types ds.forms m id ≡ Some k

    back : (k : List ℕ × Kept) → Has all k → Among k.0 k.1
    back k has = reread_again ds m k.0 k.1 (all_has (λ j. all_reread ds m j.0 ≡ Some (Ok j.1)) all k are.known has)

    among : (id : List ℕ) (k : Kept) → Among id k → Has all (id, k)
    among id k is =
        let known = again_reread ds m id k is in
        let found = are.complete id (Ok k) known in
        let other : all_reread ds m id ≡ Some (Ok found.0) = all_has (λ j. all_reread ds m j.0 ≡ Some (Ok j.1)) all (id, found.0) are.known found.1 in
        let same : found.0 ≡ k = cc in
        subst (λ (j : Kept). Has all (id, j)) same found.1

    all_judged : (ls : List Judged) → AreJudged means ds moment all ls → AreListingsOf means ds moment Among (with_some ls)
    all_judged ls judged = listings_of ds Among all back means moment ls judged are.ascending among

    one_over : OneIsOver ds all → OneIsOverAmong ds Among
    one_over over = over_of ds Among all back over

  module _ (old now : State) (sure : Sure old now (λ m. AreAll (all_reread ds m) all)) where
    pub all_ok : {V : Type 0} (view : V → List Judged) (r : Result V RejudgeFault) → AllTold view r
        → IfOk r (λ x. Sure old now (λ m. AllReadAgain ds.types ds.forms m × AreListingsOf means ds moment (λ id k. all_again ds.types ds.forms m id ≡ Some k) (view x)))
    all_ok view (Ok x) (ls, judged, is) = λ clean c shallow holds.
        let are = sure clean c shallow holds in
        (all_fit c.records are, subst (AreListingsOf means ds moment (λ id k. all_again ds.types ds.forms c.records id ≡ Some k)) (sym is) (all_judged c.records are ls judged))
    all_ok view (Err f) told = tt

    pub all_err : {V : Type 0} (view : V → List Judged) (r : Result V RejudgeFault) → AllTold view r → IfErr r (λ f. Sure old now (λ m. RejudgeFails ds m (HasFailed old now) f))
    all_err view (Ok x) told = tt
    all_err view (Err f) told = λ clean c shallow holds.
        let are = sure clean c shallow holds in
        subst (RejudgeFails ds c.records (HasFailed old now)) (sym told.0) (all_fit c.records are, one_over c.records are told.1)

pub first_refused : (ds : Declarations) (old new : State) (f : RejudgeFault) → FirstFails ds old new f → Sure old new (λ m. RejudgeFails ds m (HasFailed old new) f)
first_refused ds old new (Unfit i why) told = told
first_refused ds old new TooManyVisits told = absurd told
first_refused ds old new Store told = λ clean c shallow holds few. told clean c shallow holds
first_refused ds old new Memory told = λ clean c shallow holds. tt
