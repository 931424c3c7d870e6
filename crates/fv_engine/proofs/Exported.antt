-- How far an export has come, and how it ends.
use Rattle.std.proofs.Common.{◌≡◌, ◌≢◌, ◌⊎◌, ◌||◌, Bool, inl, inr, ℕ, ◌+◌, ◌-◌, ◌*◌, ◌^◌, ◌<◌, ◌≤◌, zero, suc, List, [], ◌∷◌, ◌++◌, length, Option, Some, None, option_map, Result, Ok, Err, MatchResult, IfErr, IfSome, IsUtf8, OnErr, OnOk, String, Global, false, string_bytes, refl, sym, ap, subst, ◌∙◌, append_assoc, arith}
use Rattle.std.specs.Cmp.Lexicographic.{slice_cmp}
use Rattle.std.specs.Io.KnownBytes.{Appends, Keeps}
use Rattle.std.specs.List.{AllByRecursion}
use Rattle.std.specs.List.Sorted.{IsStrictlySortedBy}
use Rattle.std.specs.Map.{keys_of}
use Rattle.std.proofs.lemmas.Cmp.{nat_list_cmp_total}
use Rattle.std.proofs.lemmas.List.{append-nil, length-append}
use Rattle.serde_json.specs.Data as json
use Rattle.serde_json.specs.Written.{compact_text, has_float}
use Rattle.sqlite.specs.State.{State, HasCleanDisk}
use Rattle.sqlite_rules.specs.Lists.{Has}
use Rattle.fv_datum.specs.Ascending.{IsAscending}
use Rattle.fv_engine.specs.Exports.{put_json, record_line, record_lines, declarations_line, export_text, AreAllOf, AreFirstOf, Exports, ExportsFront}
use Rattle.fv_engine.specs.ExportSteps.{all_kept, faultless, of_store, Grows, TellsWrite, WritesLine, OneDone, OneFails, FirstDone, FirstFails, PageDone, PageFails, NextDone, NextFails, AllDone, AllFails, StoreDone, StoreFails}
use Rattle.fv_engine.specs.declared.exporting.ExportFault.{ExportFault}
use Rattle.fv_engine.specs.declared.exporting.ExportFault.TheVariants.{Store, Write, Memory}
pub use Rattle.fv_engine_pending.proofs.Pages.{Below, IsAbove, Pages, all_append, all_done, all_has, has_right, keys_append, last_end, length_keys, page_known, reach_none, reach_only, reach_page, split_at, taken_one}
pub use Rattle.fv_engine_pending.proofs.Passes.{pages_of, reads_none, reads_then}
use Rattle.fv_engine_pending.specs.Passes.{AreAll, AreKnown, IsUpTo, IsFull, OnlyReads, Reaches, Sure, last_of}
use Rattle.fv_engine_pending.specs.Rejudging.{HasFewIds}
use Rattle.fv_bundle.specs.Bundles.{Bundled}
pub use Rattle.fv_engine_lines.proofs.Writes.{appends_kept, appends_none, appends_then}
use Rattle.fv_engine_lines.specs.Lines.{ended}
use Rattle.fv_engine_lines.specs.Reads.{Times}
use Rattle.fv_engine_lines.specs.Writes.{AppendsFront, Sends}
use Rattle.fv_model.specs.Writing.{bundle_json}
use Rattle.fv_model.proofs.NoFloats.{bundle_float}
use Rattle.fv_bundle.specs.Types.{has_deep}
use Rattle.fv_store_tables.proofs.Steps.{failed_then}
use Rattle.fv_store.specs.Causes.{HasFailed}
use Rattle.fv_store.specs.Records.{Contents, Kept, Records}
use Rattle.fv_store.specs.Stands.{HoldsRecords}
use Rattle.fv_store.specs.Stored.{untyped}
use Rattle.fv_store.specs.declared.fault.StoreFault.{StoreFault}
use Rattle.fv_store.specs.declared.fault.StoreFault.TheVariants as store

-- ---- what was written

-- nothing was
pub front_none : (w : Option (List ℕ)) (xs : List ℕ) → AppendsFront w w xs
front_none w xs = ([], xs, refl, appends_none w)

-- all of these and a front of those
pub then_front : (a b c : Option (List ℕ)) (xs ys : List ℕ) → Appends a b xs → AppendsFront b c ys → AppendsFront a c (xs ++ ys)
then_front a b c xs ys p (front, back, is, more) = (
  xs ++ front,
  back,
  ap (λ (l : List ℕ). xs ++ l) is ∙ sym (append_assoc xs front back),
  appends_then a b c xs front p more,
)

-- a front, with more behind it
pub front_longer : (a b : Option (List ℕ)) (xs ys : List ℕ) → AppendsFront a b xs → AppendsFront a b (xs ++ ys)
front_longer a b xs ys (front, back, is, done) = (front, back ++ ys, ap (λ (l : List ℕ). l ++ ys) is ∙ append_assoc front back ys, done)

-- all, kept since
pub whole_front : (a b c : Option (List ℕ)) (xs : List ℕ) → Appends a b xs → Keeps b c → AppendsFront a c xs
whole_front a b c xs p q = (xs, [], sym (append-nil xs), appends_kept a b c xs p q)

-- a front, kept since
pub front_kept : (a b c : Option (List ℕ)) (xs : List ℕ) → AppendsFront a b xs → Keeps b c → AppendsFront a c xs
front_kept a b c xs (front, back, is, done) keeps = (front, back, is, appends_kept a b c front done keeps)

lines_append : (ks js : List (List ℕ × Kept)) → record_lines (ks ++ js) ≡ record_lines ks ++ record_lines js
lines_append [] js = refl
lines_append (k ∷ ks) js = ap (λ (l : List ℕ). record_line k.0 k.1 ++ l) (lines_append ks js) ∙ sym (append_assoc (record_line k.0 k.1) (record_lines ks) (record_lines js))

lines_end : (ks : List (List ℕ × Kept)) (id : List ℕ) (k : Kept) → record_lines ks ++ record_line id k ≡ record_lines (ks ++ (id, k) ∷ [])
lines_end ks id k = ap (λ (l : List ℕ). record_lines ks ++ l) (sym (append-nil (record_line id k))) ∙ sym (lines_append ks ((id, k) ∷ []))

-- ---- the line of a record

neither : (a b : Bool) → a ≡ false → b ≡ false → (a || b) ≡ false
neither a b p q = rw (p, q) refl

no_float : (id form : List ℕ) (b : Bundled) → has_float (put_json id form (bundle_json b)) ≡ false
no_float id form b = neither (has_float (bundle_json b)) false (bundle_float b) refl

pub put_text : (id form : List ℕ) (read : Option json.Data) (j v : json.Data) (line : List ℕ) (k : Kept) → (form, read) ≡ untyped k → read ≡ Some j → v ≡ put_json id form j → (has_float v ≡ false → line ≡ ended (compact_text v)) → line ≡ record_line id k
put_text id form read j v line k is reads value told =
    let named : form ≡ k.form = ap (λ (x : List ℕ × Option json.Data). x.0) is in
    let there : read ≡ Some (bundle_json k.bundle) = ap (λ (x : List ℕ × Option json.Data). x.1) is in
    let same : j ≡ bundle_json k.bundle = cc in
    let whole : v ≡ put_json id k.form (bundle_json k.bundle) = value ∙ ap (λ (x : List ℕ). put_json id x j) named ∙ ap (λ (x : json.Data). put_json id k.form x) same in
    told (ap has_float whole ∙ no_float id k.form k.bundle) ∙ ap (λ (x : json.Data). ended (compact_text x)) whole

-- ---- records

some_kept : (o : Option Kept) (k : Kept) → option_map faultless o ≡ Some (Ok k) → o ≡ Some k
some_kept None k is = cc
some_kept (Some j) k is = cc

kept_known : (m : Records) (ks : List (List ℕ × Kept)) → AreKnown (all_kept m) ks → AllByRecursion (λ k. m k.0 ≡ Some k.1) ks
kept_known m [] known = tt
kept_known m (k ∷ ks) known = (some_kept (m k.0) k.1 known.0, kept_known m ks known.1)

-- the record that is found at an id is the one there
here : (m : Records) (ks : List (List ℕ × Kept)) (id : List ℕ) (k j : Kept) → AllByRecursion (λ k. m k.0 ≡ Some k.1) ks → m id ≡ Some k → Has ks (id, j) → Has ks (id, k)
here m ks id k j known is has =
    let other : m id ≡ Some j = all_has (λ i. m i.0 ≡ Some i.1) ks (id, j) known has in
    let same : j ≡ k = cc in
    subst (λ (i : Kept). Has ks (id, i)) same has

all_of : (m : Records) (all : List (List ℕ × Kept)) → AreAll (all_kept m) all → AreAllOf m all
all_of m all are =
    let known = kept_known m all are.known in
    record {
      ascending = are.ascending;
      known = known;
      complete = λ id k is. let found = are.complete id (Ok k) (ap (option_map faultless) is) in here m all id k found.0 known is found.1;
    }

below_each : (above id : List ℕ) → Below above id → (ids : List (List ℕ)) → AllByRecursion (λ x. (x ≡ above) ⊎ Below x above) ids → AllByRecursion (λ x. Below x id) ids
below_each above id less [] all = tt
below_each above id less (x ∷ ids) all = (at all.0, below_each above id less ids all.1)
  where
    at : (x ≡ above) ⊎ Below x above → Below x id
    at (inl is) = subst (λ (y : List ℕ). Below y id) (sym is) less
    at (inr before) = nat_list_cmp_total.trans x above id before less

first_of : (m : Records) (above : List ℕ) (first : List (List ℕ × Kept)) → Reaches (all_kept m) above first → AreFirstOf m first
first_of m above first reaches = record {
  ascending = reaches.ascending;
  known = known;
  others = λ id k is. at id k is (reaches.complete id (Ok k) (ap (option_map faultless) is));
}
  where
    known : AllByRecursion (λ k. m k.0 ≡ Some k.1) first
    known = kept_known m first reaches.known

    at : (id : List ℕ) (k : Kept) → m id ≡ Some k → Below above id ⊎ ((j : Kept) × Has first (id, j)) → Has first (id, k) ⊎ AllByRecursion (λ x. Below x id) (keys_of first)
    at id k is (inl later) = inr (below_each above id later (keys_of first) reaches.within)
    at id k is (inr (j, has)) = inl (here m first id k j known is has)

pub no_ids : IsAscending []
unfolding IsStrictlySortedBy
no_ids = tt

as_first : (m : Records) (all : List (List ℕ × Kept)) → AreAllOf m all → AreFirstOf m all
as_first m all are = record { ascending = are.ascending; known = are.known; others = λ id k is. inl (are.complete id k is) }

first_none : (m : Records) → AreFirstOf m []
first_none m = record { ascending = no_ids; known = tt; others = λ id k is. inr tt }

-- ---- ids of records

kept_above : (m : Records) (above id : List ℕ) → IsAbove m above id → IsAbove (all_kept m) above id
kept_above m above id l = record { value = Ok l.value; known = ap (option_map faultless) l.known; is_above = l.is_above }

there : (o : Option Kept) (r : Result Kept (Unit {0})) → option_map faultless o ≡ Some r → (k : Kept) × (o ≡ Some k)
there None r is = cc
there (Some k) r is = (k, refl)

pages_kept : (m : Records) (above : List ℕ) (n : ℕ) (ids : List (List ℕ)) → Pages m above n ids → Pages (all_kept m) above n ids
pages_kept m above n ids (all, listed, is) = (
  all,
  record {
    ascending = listed.ascending;
    sound = λ id has. kept_above m above id (listed.sound id has);
    complete = λ id l. let found = there (m id) l.value l.known in listed.complete id (record { value = found.0; known = found.1; is_above = l.is_above });
  },
  is,
)

-- ---- one record

same_written : (o : Option Kept) (w : List ℕ × Option json.Data) (k : Kept) → Some w ≡ option_map untyped o → o ≡ Some k → w ≡ untyped k
same_written None w k found is = cc
same_written (Some j) w k found is = let same : j ≡ k = cc in let e : w ≡ untyped j = cc in e ∙ ap untyped same

found_kept : (o : Option Kept) (w : List ℕ × Option json.Data) → Some w ≡ option_map untyped o → (k : Kept) × (o ≡ Some k)
found_kept None w found = cc
found_kept (Some k) w found = (k, refl)

none_kept : (o : Option Kept) (k : Kept) → None ≡ option_map untyped o → o ≡ Some k → ⊥
none_kept None k none is = cc
none_kept (Some j) k none is = cc

-- ---- what an output took, and why it failed

-- some calls, and then some more
times_then : {O : Type 0} (calls : O → O → Type 0) (n m : ℕ) (a b c : O) → Times calls n a b → Times calls m b c → (k : ℕ) × Times calls k a c
times_then calls n zero a b c first more = (n, subst (Times calls n a) (sym more) first)
times_then calls n (suc m) a b c first more = let it = times_then calls n m a b more.0 first more.1 in (suc it.0, (more.0, it.1, more.2))

module _ {O : Type 0} (contents : O → Option (List ℕ)) (takes : O → O → Type 0) where
  pub grows_none : (o : O) → Grows contents takes o o
  grows_none o = ([], appends_none (contents o), (0, refl))

  pub grows_then : (a b c : O) → Grows contents takes a b → Grows contents takes b c → Grows contents takes a c
  grows_then a b c first more = (
    first.0 ++ more.0,
    appends_then (contents a) (contents b) (contents c) first.0 more.0 first.1 more.1,
    times_then takes first.2.0 more.2.0 a b c first.2.1 more.2.1,
  )

  pub flush_sends : {X : Type 0} (flushes : O → O → Type 0) (a b c : O) (r : Result X ExportFault) → Grows contents takes a b → Keeps (contents b) (contents c) → OnOk r (flushes b c)
      → OnOk r ((bs : List ℕ) × Sends contents takes flushes a c bs)
  flush_sends flushes a b c (Ok x) grown keeps flushed = (grown.0, (b, grown.1, grown.2, keeps, flushed))
  flush_sends flushes a b c (Err f) grown keeps told = tt

  module _ (fails : O → O → Type 0) where
    -- a fault of the store is none of the output
    pub store_tells : (old new : O) (e : StoreFault) → TellsWrite contents takes fails old new (of_store e)
    store_tells old new store.Store is = cc
    store_tells old new store.Memory is = cc

    pub tells_then : (a b c : O) (f : ExportFault) → Grows contents takes a b → TellsWrite contents takes fails b c f → TellsWrite contents takes fails a c f
    tells_then a b c f grown tells is =
        let told = tells is in (
          grown.0 ++ told.0,
          (
            told.1.0,
            then_front (contents a) (contents b) (contents told.1.0) grown.0 told.0 grown.1 told.1.1,
            times_then takes grown.2.0 told.1.2.0 a b told.1.0 grown.2.1 told.1.2.1,
            told.1.3,
            told.1.4,
          ),
        )

    pub flush_tells : {X : Type 0} (a b c : O) (r : Result X ExportFault) → Grows contents takes a b → Keeps (contents b) (contents c) → IfErr r (λ f. (f ≡ Write) × fails b c)
        → IfErr r (TellsWrite contents takes fails a c)
    flush_tells a b c (Ok x) grown keeps told = tt
    flush_tells a b c (Err f) grown keeps told = λ is. (grown.0, (b, (grown.0, [], sym (append-nil grown.0), grown.1), grown.2, keeps, told.1))

-- what the store tells of its fault
abbrev pub IsCaused : State → State → StoreFault → Type 0
IsCaused old new e = HasCleanDisk new → e ≡ store.Store → (c : Contents) → HoldsRecords old c → HasFailed old new

stored : (old new : State) (e : StoreFault) → IsCaused old new e → of_store e ≡ Store → HasCleanDisk new → (c : Contents) → HoldsRecords old c → HasFailed old new
stored old new store.Store cause is clean c holds = cause clean refl c holds
stored old new store.Memory cause is clean c holds = cc

module _ (old new : State) where
  pub one_store : (w : Option (List ℕ)) (id : List ℕ) (e : StoreFault) → IsCaused old new e → OneFails old new w w id (of_store e)
  one_store w id e cause = λ clean c shallow holds k is. ((λ of. stored old new e cause of clean c holds), front_none w (record_line id k))

  pub one_none : (w : Option (List ℕ)) (id : List ℕ) → Sure old new (λ m. None ≡ option_map untyped (m id)) → OneFails old new w w id Store
  one_none w id sure = λ clean c shallow holds k is. absurd (none_kept (c.records id) k (sure clean c shallow holds) is)

  pub first_store : (w : Option (List ℕ)) (e : StoreFault) → IsCaused old new e → FirstFails old new w w (of_store e)
  first_store w e cause = λ clean c shallow holds. ((λ of. stored old new e cause of clean c holds), [], first_none c.records, front_none w [])

  pub first_no : (w : Option (List ℕ)) → Sure old new (λ m. None ≡ option_map untyped (m [])) → FirstDone old new w w
  first_no w sure = λ clean c shallow holds. ([], reach_none (all_kept c.records) (λ r some. let k = there (c.records []) r some in none_kept (c.records []) k.0 (sure clean c shallow holds) k.1), appends_none w)

  pub next_store : (w : Option (List ℕ)) (above : List ℕ) (e : StoreFault) → IsCaused old new e → NextFails old new w w above (of_store e)
  next_store w above e cause = λ clean c shallow holds done reaches. (
    (λ of. stored old new e cause of clean c holds),
    [],
    subst (AreFirstOf c.records) (sym (append-nil done)) (first_of c.records above done reaches),
    front_none w [],
  )

  module _ (w v : Option (List ℕ)) where
    pub one_done : {X : Type 0} (id : List ℕ) (wv : List ℕ × Option json.Data) (r : Result X ExportFault) → Sure old new (λ m. Some wv ≡ option_map untyped (m id)) → ((k : Kept) → wv ≡ untyped k → WritesLine w v (record_line id k) r)
        → MatchResult r (λ _. OneDone old new w v id) (λ f. OneFails old new w v id f)
    one_done id wv (Ok x) sure told = λ clean c shallow holds.
        let found = found_kept (c.records id) wv (sure clean c shallow holds) in
        (found.0, found.1, told found.0 (same_written (c.records id) wv found.0 (sure clean c shallow holds) found.1))
    one_done id wv (Err f) sure told = λ clean c shallow holds k is.
        let e = told k (same_written (c.records id) wv k (sure clean c shallow holds) is) in
        ((λ of. absurd (e.0 of)), e.1)

    pub first_done : {X : Type 0} (wv : List ℕ × Option json.Data) (r : Result X ExportFault) → Sure old new (λ m. Some wv ≡ option_map untyped (m [])) → ((k : Kept) → wv ≡ untyped k → WritesLine w v (record_line [] k) r)
        → MatchResult r (λ _. FirstDone old new w v) (λ f. FirstFails old new w v f)
    first_done wv (Ok x) sure told = λ clean c shallow holds.
        let found = found_kept (c.records []) wv (sure clean c shallow holds) in (
          ([], found.0) ∷ [],
          reach_only (all_kept c.records) found.0 (ap (option_map faultless) found.1),
          subst (Appends w v) (lines_end [] [] found.0) (told found.0 (same_written (c.records []) wv found.0 (sure clean c shallow holds) found.1)),
        )
    first_done wv (Err f) sure told = λ clean c shallow holds.
        let found = found_kept (c.records []) wv (sure clean c shallow holds) in
        let e = told found.0 (same_written (c.records []) wv found.0 (sure clean c shallow holds) found.1) in (
          (λ of. absurd (e.0 of)),
          ([], found.0) ∷ [],
          first_of c.records [] (([], found.0) ∷ []) (reach_only (all_kept c.records) found.0 (ap (option_map faultless) found.1)),
          subst (AppendsFront w v) (lines_end [] [] found.0) e.1,
        )

-- ---- a page

-- what a loop keeps that has written the records of these ids
pub record Page (old now : State) (w v : Option (List ℕ)) (front : List (List ℕ)) : Type 0 where
  pub reads : OnlyReads old now
  pub wrote : PageDone old now w v front

pub page_first : (old : State) (w : Option (List ℕ)) → Page old old w w []
page_first old w = record { reads = reads_none old; wrote = λ clean c shallow holds. ([], refl, tt, appends_none w) }

module _ (old mid new : State) (w v u : Option (List ℕ)) (front : List (List ℕ)) (id : List ℕ) (p : Page old mid w v front) (reads : OnlyReads mid new) where
  pub page_more : (longer : List (List ℕ)) → longer ≡ front ++ id ∷ [] → OneDone mid new v u id → Page old new w u longer
  page_more longer is one = record {
    reads = reads_then old mid new p.reads reads;
    wrote = λ clean c shallow holds.
        let before = p.wrote (reads.frame.clean clean) c shallow holds in
        let last = one clean c shallow (p.reads.stays c holds) in (
          before.0 ++ (id, last.0) ∷ [],
          keys_append before.0 ((id, last.0) ∷ []) ∙ ap (λ (ids : List (List ℕ)). ids ++ id ∷ []) before.1 ∙ sym is,
          all_append (λ k. all_kept c.records k.0 ≡ Some (Ok k.1)) before.0 ((id, last.0) ∷ []) before.2 (ap (option_map faultless) last.1, tt),
          subst (Appends w u) (lines_end before.0 id last.0) (appends_then w v u (record_lines before.0) (record_line id last.0) before.3 last.2),
        );
  }

  pub page_fails : (ids rest : List (List ℕ)) (f : ExportFault) → ids ≡ front ++ id ∷ rest → OneFails mid new v u id f → PageFails old new w u ids f
  page_fails ids rest f is fails = λ clean c shallow holds all.
      let before = p.wrote (reads.frame.clean clean) c shallow holds in
      let k = all_has (λ x. (k : Kept) × (c.records x ≡ Some k)) ids id all (subst (λ (xs : List (List ℕ)). Has xs id) (sym is) (has_right front (id ∷ rest) id (inl refl))) in
      let last = fails clean c shallow (p.reads.stays c holds) k.0 k.1 in
      let keys : keys_of (before.0 ++ (id, k.0) ∷ []) ≡ front ++ id ∷ [] = keys_append before.0 ((id, k.0) ∷ []) ∙ ap (λ (ids : List (List ℕ)). ids ++ id ∷ []) before.1 in (
        (λ of. failed_then old mid new (reads.frame.clean clean) p.reads.frame reads.frame.counts (last.0 of)),
        before.0 ++ (id, k.0) ∷ [],
        rest,
        is ∙ sym (append_assoc front (id ∷ []) rest) ∙ ap (λ (ids : List (List ℕ)). ids ++ rest) (sym keys),
        all_append (λ k. all_kept c.records k.0 ≡ Some (Ok k.1)) before.0 ((id, k.0) ∷ []) before.2 (ap (option_map faultless) k.1, tt),
        subst (AppendsFront w u) (lines_end before.0 id k.0) (then_front w v u (record_lines before.0) (record_line id k.0) before.3 last.1),
      )

-- ---- the next page

-- a page of ids above one was asked for, and its records were written
module _ (a b c : State) (w v : Option (List ℕ)) (above : List ℕ) (limit : ℕ) (ids : List (List ℕ)) (asked : OnlyReads a b) (page : Sure a b (λ m. Pages m above limit ids)) (reads : OnlyReads b c) where
  pub next_failed : (f : ExportFault) → PageFails b c w v ids f → NextFails a c w v above f
  next_failed f fails = λ clean k shallow holds done reaches.
      let listed = page (reads.frame.clean clean) k shallow holds in
      let told = fails clean k shallow (asked.stays k holds) (page_known k.records limit above ids listed) in
      let cut = subst (Pages (all_kept k.records) above limit) told.3 (pages_kept k.records above limit ids listed) in
      let came = reach_page (all_kept k.records) limit above done told.1 told.2 reaches cut told.4 in (
        (λ of. failed_then a b c (reads.frame.clean clean) asked.frame reads.frame.counts (told.0 of)),
        told.1,
        first_of k.records (last_of above (keys_of told.1)) (done ++ told.1) came.0,
        told.5,
      )

  module _ (told : PageDone b c w v ids) where
    came : (m : Records) (read done : List (List ℕ × Kept)) → Pages m above limit ids → keys_of read ≡ ids → AreKnown (all_kept m) read → Reaches (all_kept m) above done
        → Reaches (all_kept m) (last_of above ids) (done ++ read) × Pages (all_kept m) (last_of above ids) (limit - length ids) []
    came m read done listed keys known reaches =
        let counted : length read ≡ length ids = sym (length_keys read) ∙ ap length keys in
        let cut = subst (Pages (all_kept m) above limit) (sym keys ∙ sym (append-nil (keys_of read))) (pages_kept m above limit ids listed) in
        let got = reach_page (all_kept m) limit above done read [] reaches cut known in (
          subst (λ (xs : List (List ℕ)). Reaches (all_kept m) (last_of above xs) (done ++ read)) keys got.0,
          subst (λ (n : ℕ). Pages (all_kept m) (last_of above ids) (limit - n) []) counted (subst (λ (xs : List (List ℕ)). Pages (all_kept m) (last_of above xs) (limit - length read) []) keys got.1),
        )

    all_came : (m : Records) (read done : List (List ℕ × Kept)) → length ids < limit → Pages m above limit ids → keys_of read ≡ ids → AreKnown (all_kept m) read → Reaches (all_kept m) above done → AreAll (all_kept m) (done ++ read)
    all_came m read done few listed keys known reaches =
        let is : limit - length ids ≡ suc (limit - length ids - 1) = omega arith in
        let got = came m read done listed keys known reaches in
        let left = subst (λ (n : ℕ). Pages (all_kept m) (last_of above ids) n []) is got.1 in
        record {
          ascending = got.0.ascending;
          known = got.0.known;
          complete = all_done (all_kept m) (last_of above ids) (limit - length ids - 1) (done ++ read) got.0 left;
        }

    pub next_done : (o : Option (String Global)) → IfSome o (λ s. (above : List ℕ) → string_bytes s ≡ last_of above ids) → IfSome o (λ _. 1000 ≤ length ids) → (o ≡ None → length ids < limit) → NextDone a c w v above (option_map string_bytes o)
    next_done (Some s) last full few = λ clean k shallow holds.
        let listed = page (reads.frame.clean clean) k shallow holds in
        let wrote = told clean k shallow (asked.stays k holds) in (
          wrote.0,
          subst (λ (n : ℕ). 1000 ≤ n) (sym (sym (length_keys wrote.0) ∙ ap length wrote.1)) full,
          (λ done reaches. subst (λ (x : List ℕ). Reaches (all_kept k.records) x (done ++ wrote.0)) (sym (last above)) (came k.records wrote.0 done listed wrote.1 wrote.2 reaches).0),
          wrote.3,
        )
    next_done None last full few = λ clean k shallow holds.
        let listed = page (reads.frame.clean clean) k shallow holds in
        let wrote = told clean k shallow (asked.stays k holds) in
        (wrote.0, tt, (λ done reaches. all_came k.records wrote.0 done (few refl) listed wrote.1 wrote.2 reaches), wrote.3)

-- ---- pages

-- what a loop keeps that has written all records whose ids aren't above one, so many at least
pub record Pass (old now : State) (w v : Option (List ℕ)) (above : List ℕ) (count : ℕ) : Type 0 where
  pub reads : OnlyReads old now
  pub wrote : Sure old now (λ m. (done : List (List ℕ × Kept)) × Reaches (all_kept m) above done × (count ≤ length done) × Appends w v (record_lines done))

pub pass_first : (old new : State) (w v : Option (List ℕ)) (above : List ℕ) → OnlyReads old new → FirstDone old new w v → above ≡ [] → Pass old new w v above 0
pass_first old new w v above reads first is = record {
  reads = reads;
  wrote = λ clean c shallow holds.
      let wrote = first clean c shallow holds in
      (wrote.0, subst (λ (x : List ℕ). Reaches (all_kept c.records) x wrote.0) (sym is) wrote.1, omega arith, wrote.2);
}

pub first_refused : (old new : State) (w v : Option (List ℕ)) (f : ExportFault) → FirstFails old new w v f → AllFails old new w v f
first_refused old new w v f fails = λ clean c shallow holds. let told = fails clean c shallow holds in ((λ of few. told.0 of), told.1, told.2, told.3)

module _ (old a c : State) (w v u : Option (List ℕ)) (above : List ℕ) (count : ℕ) (p : Pass old a w v above count) (reads : OnlyReads a c) where
  pub pass_failed : (f : ExportFault) → NextFails a c v u above f → AllFails old c w u f
  pass_failed f fails = λ clean k shallow holds.
      let before = p.wrote (reads.frame.clean clean) k shallow holds in
      let told = fails clean k shallow (p.reads.stays k holds) before.0 before.1 in (
        (λ of few. failed_then old a c (reads.frame.clean clean) p.reads.frame reads.frame.counts (told.0 of)),
        before.0 ++ told.1,
        told.2,
        subst (AppendsFront w u) (sym (lines_append before.0 told.1)) (then_front w v u (record_lines before.0) (record_lines told.1) before.3 told.3),
      )

  pub pass_more : (last next : List ℕ) (more : ℕ) → NextDone a c v u above (Some last) → next ≡ last → more ≤ count + 1000 → Pass old c w u next more
  pass_more last next more told is fewer = record {
    reads = reads_then old a c p.reads reads;
    wrote = λ clean k shallow holds.
        let before = p.wrote (reads.frame.clean clean) k shallow holds in
        let page = told clean k shallow (p.reads.stays k holds) in (
          before.0 ++ page.0,
          subst (λ (x : List ℕ). Reaches (all_kept k.records) x (before.0 ++ page.0)) (sym is) (page.2 before.0 before.1),
          omega (arith, before.2, page.1, fewer, length-append before.0 page.0),
          subst (Appends w u) (sym (lines_append before.0 page.0)) (appends_then w v u (record_lines before.0) (record_lines page.0) before.3 page.3),
        );
  }

  -- all are written
  pub pass_end : NextDone a c v u above None → AllDone old c w u
  pass_end told = λ clean k shallow holds.
      let before = p.wrote (reads.frame.clean clean) k shallow holds in
      let page = told clean k shallow (p.reads.stays k holds) in (
        before.0 ++ page.0,
        all_of k.records (before.0 ++ page.0) (page.2 before.0 before.1),
        subst (Appends w u) (sym (lines_append before.0 page.0)) (appends_then w v u (record_lines before.0) (record_lines page.0) before.3 page.3),
      )

each_there : (m : Records) (ks : List (List ℕ × Kept)) → AreKnown (all_kept m) ks → AllByRecursion (λ id. (k : Kept) × (m id ≡ Some k)) (keys_of ks)
each_there m [] known = tt
each_there m (k ∷ ks) known = ((k.1, some_kept (m k.0) k.1 known.0), each_there m ks known.1)

-- the ids that may be looked at were looked at
pub pass_over : (old now : State) (w v : Option (List ℕ)) (above : List ℕ) (count : ℕ) → Pass old now w v above count → 2 ^ 32 * 1000 ≤ count → AllFails old now w v Store
pass_over old now w v above count p enough clean c shallow holds =
    let before = p.wrote clean c shallow holds in (
      (λ of few.
          let less : length (keys_of before.0) < 2 ^ 32 * 1000 = few (keys_of before.0) before.1.ascending (each_there c.records before.0 before.1.known) in
          let same : length (keys_of before.0) ≡ length before.0 = length_keys before.0 in
          absurd (omega (arith, before.2, less, same, enough))),
      before.0,
      first_of c.records above before.0 before.1,
      (record_lines before.0, [], sym (append-nil (record_lines before.0)), before.3),
    )

-- ---- the declarations before them

module _ (old new : State) (w v u : Option (List ℕ)) (text : List ℕ) (wrote : Appends w v (declarations_line text)) where
  pub store_done : AllDone old new v u → StoreDone old new w u text
  store_done all = λ clean c shallow holds.
      let told = all clean c shallow holds in
      (told.0, told.1, appends_then w v u (declarations_line text) (record_lines told.0) wrote told.2)

  pub store_failed : (f : ExportFault) → AllFails old new v u f → StoreFails old new w u text f
  store_failed f fails = λ clean c shallow holds.
      let told = fails clean c shallow holds in
      ((λ of few is_text. told.0 of few), (told.1, told.2, then_front w v u (declarations_line text) (record_lines told.1) wrote told.3))

-- the declarations weren't all written
pub undeclared : (s : State) (w v : Option (List ℕ)) (text : List ℕ) (f : ExportFault) → (f ≡ Store → IsUtf8 text → ⊥) → AppendsFront w v (declarations_line text) → StoreFails s s w v text f
undeclared s w v text f none front = λ clean c shallow holds.
    ((λ of few is_text. absurd (none of is_text)), ([], first_none c.records, front_longer w v (declarations_line text) [] front))

-- all is written, and the flush takes nothing away
flushed : (old new : State) (w v u : Option (List ℕ)) (text : List ℕ) → StoreDone old new w v text → Keeps v u → StoreDone old new w u text
flushed old new w v u text done keeps = λ clean c shallow holds.
    let told = done clean c shallow holds in
    (told.0, told.1, appends_kept w v u (export_text text told.0) told.2 keeps)

unflushed : (old new : State) (w v u : Option (List ℕ)) (text : List ℕ) → StoreDone old new w v text → Keeps v u → StoreFails old new w u text Write
unflushed old new w v u text done keeps = λ clean c shallow holds.
    let told = done clean c shallow holds in
    ((λ of few is_text. cc), (told.0, as_first c.records told.0 told.1, whole_front w v u (export_text text told.0) told.2 keeps))

pub flush_wrote : {X : Type 0} (F : Type 0) (old new : State) (w v u : Option (List ℕ)) (text : List ℕ) (r : Result X ExportFault) → StoreDone old new w v text → Keeps v u → IfErr r (λ f. (f ≡ Write) × F)
    → MatchResult r (λ _. StoreDone old new w u text) (λ f. StoreFails old new w u text f)
flush_wrote F old new w v u text (Ok x) done keeps told = flushed old new w v u text done keeps
flush_wrote F old new w v u text (Err f) done keeps told = subst (StoreFails old new w u text) (sym told.0) (unflushed old new w v u text done keeps)

-- ---- told of an engine's records

module _ (old new : State) (w v : Option (List ℕ)) (text : List ℕ) (of : Records → Contents) (is : (m : Records) → (of m).records ≡ m) (shallow : (m : Records) → has_deep (of m).types ≡ false) {X : Type 0} (r : Result X ExportFault) (told : MatchResult r (λ _. StoreDone old new w v text) (λ f. StoreFails old new w v text f)) (clean : HasCleanDisk new) where
  pub engine_exports : OnOk r ((m : Records) → HoldsRecords old (of m) → Exports text m w v)
  engine_exports = at r told
    where
      at : (r : Result X ExportFault) → MatchResult r (λ _. StoreDone old new w v text) (λ f. StoreFails old new w v text f) → OnOk r ((m : Records) → HoldsRecords old (of m) → Exports text m w v)
      at (Ok x) done = λ m holds. subst (λ (n : Records). Exports text n w v) (is m) (done clean (of m) (shallow m) holds)
      at (Err f) fails = tt

  pub engine_front : OnErr r ((m : Records) → HoldsRecords old (of m) → ExportsFront text m w v)
  engine_front = at r told
    where
      at : (r : Result X ExportFault) → MatchResult r (λ _. StoreDone old new w v text) (λ f. StoreFails old new w v text f) → OnErr r ((m : Records) → HoldsRecords old (of m) → ExportsFront text m w v)
      at (Ok x) done = tt
      at (Err f) fails = λ m holds. subst (λ (n : Records). ExportsFront text n w v) (is m) (fails clean (of m) (shallow m) holds).1

  pub engine_cause : IfErr r (λ f. f ≡ Store → (m : Records) → HoldsRecords old (of m) → HasFewIds m → IsUtf8 text → HasFailed old new)
  engine_cause = at r told
    where
      at : (r : Result X ExportFault) → MatchResult r (λ _. StoreDone old new w v text) (λ f. StoreFails old new w v text f)
          → IfErr r (λ f. f ≡ Store → (m : Records) → HoldsRecords old (of m) → HasFewIds m → IsUtf8 text → HasFailed old new)
      at (Ok x) done = tt
      at (Err f) fails = λ of_store m holds few is_text. (fails clean (of m) (shallow m) holds).0 of_store (subst HasFewIds (sym (is m)) few) is_text
