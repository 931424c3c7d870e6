-- What a store that holds records hands out, and holds after changes.
use Rattle.std.proofs.Common.{◌≡◌, ℕ, Bool, true, false, cond, List, [], ◌∷◌, bytes_eq, string_bytes, Option, Some, None, option_map, Result, Ok, Err, OnErr, IfErr, IfOk, IsTrue, inl, inr, refl, sym, ap, subst, ◌∙◌}
use Rattle.std.proofs.lemmas.Bool.{cases_Bool}
use Rattle.std.proofs.lemmas.Slice.Eq.{bytes_eq-Decides}
use Rattle.fv_bundle.specs.Bundles.{Thing}
use Rattle.fv_bundle.specs.Views.{object_view}
use Rattle.std.specs.Option.{ForSome}
use Rattle.sqlite.specs.State.{State, HasCleanDisk}
use Rattle.fv_datum.specs.Outcomes.{Gives}
use Rattle.fv_bundle.specs.Types.{Declared, has_deep}
use Rattle.fv_bundle.specs.WellTyped.{IsWellTyped}
use Rattle.fv_store.specs.declared.changes.Change.{Change}
use Rattle.fv_store.specs.declared.changes.Change.TheVariants.{Put, Object, Remove}
use Rattle.fv_store.specs.declared.fault.StoreFault.{StoreFault}
use Rattle.fv_store.specs.declared.fault.StoreFault.TheVariants.{Store, Memory}
use Rattle.fv_store_tables.specs.declared.entry.FoundRecord.{FoundRecord}
use Rattle.fv_store_tables.specs.declared.entry.RecordRows.{RecordRows}
use Rattle.fv_store.specs.declared.stored.Stored.{Stored}
use Rattle.fv_store.specs.declared.written.Written.{Written}
use Rattle.sqlite.specs.declared.error.Error.{Error}
use Rattle.fv_store.specs.Faults.{fault_of}
use Rattle.fv_store.specs.Changes.{after, after_all, changed, ChangeFits, ChangesFit}
use Rattle.fv_store.specs.Records.{Kept, Records, Contents, RecordFits, AllFit, with_record, without_record, with_thing, with_object, with_records}
use Rattle.fv_store.specs.Steps.{Keeps, IsRefusal}
use Rattle.fv_store.specs.Written.{Writings, writings, entries, entry_of, written_of}
use Rattle.fv_store.proofs.Kept.{all_kept}
use Rattle.fv_store.proofs.Named.{all_named}
use Rattle.fv_store_tables.specs.Changes.{AllNamed}
use Rattle.fv_store_tables.specs.Stands as tables
use Rattle.fv_store_tables.specs.Stored.{rows_view, ShowsRecord}
use Rattle.fv_store.specs.Stands.{Frame, HoldsRecords, about_rows}
use Rattle.sqlite.specs.Order.{Row}
use Rattle.fv_store_tables.specs.Stands.{TableEntries}
use Rattle.fv_store.specs.Stock.{Stock}
use Rattle.fv_store.specs.Stored.{stored_view, text_of, text_view, untyped, written_view}
use Rattle.fv_store.proofs.Openings.{keeps_of, holds_as, holds_after}

-- the same store has the same connection
pub same_connection : {S : Type 0} {s t : Stock S} → s ≡ t → s.connection ≡ t.connection
same_connection {S} is = ap (λ (x : Stock S). x.connection) is

-- ---- what is handed out

given_is : (r : Result (Option Stored) StoreFault) (o : Option Kept) → Gives Memory (option_map stored_view) r (Ok o) → IfOk r (λ x. option_map stored_view x ≡ o)
given_is (Err e) o h = tt
given_is (Ok x) o h = cc

-- where none is handed out, none was found
pub none_out : {X E : Type 0} (Was Lacks : Type 0) (r : Result (Option X) E) → IfOk r (λ o. o ≡ None → Was) → (Was → Lacks) → IfOk r (λ o. o ≡ None → Lacks)
none_out Was Lacks (Err e) h to = tt
none_out Was Lacks (Ok o) h to = λ none. to (h none)

-- ---- what the rows of a record keep

module _ (s : State) (id : List ℕ) (clean : HasCleanDisk s) (live : IsTrue s.is_open) where
  pub rows_out : (r : Result FoundRecord StoreFault) → IfOk r (λ found. (d : List Row) (m : TableEntries) → tables.Keeps s d m → AllNamed m → ShowsRecord found (m id))
      → IfOk r (λ found. (c : Contents) → HoldsRecords s c → ShowsRecord found (option_map entry_of (option_map written_of (c.records id))))
  rows_out (Err e) h = tt
  rows_out (Ok found) h = λ c holds. h (about_rows c.bytes) (all_kept c.records) (keeps_of s c holds) (all_named c (holds clean live).0.fit)

-- ---- what is written of a record

module _ (s : State) (id : List ℕ) (found : Option RecordRows) (clean : HasCleanDisk s) (live : IsTrue s.is_open)
    (shown : (c : Contents) → HoldsRecords s c → option_map rows_view found ≡ option_map entry_of (option_map written_of (c.records id))) where
  pub text_out : (r : Result (Option Written) StoreFault)
      → IfOk r (λ w. (types : Declared) (o : Option Kept) → ForSome o (λ k. IsWellTyped types k.bundle)
      → option_map rows_view found ≡ option_map entry_of (option_map written_of o) → option_map text_view w ≡ option_map text_of o)
      → IfOk r (λ w. (c : Contents) → HoldsRecords s c → option_map text_view w ≡ option_map text_of (c.records id))
  text_out (Err e) h = tt
  text_out (Ok w) h = λ c holds. h c.types (c.records id) (λ k known. ((holds clean live).0.fit id k known).typed) (shown c holds)

  pub written_out : (r : Result (Option Written) StoreFault)
      → IfOk r (λ w. (types : Declared) (o : Option Kept) → has_deep types ≡ false → ForSome o (λ k. IsWellTyped types k.bundle)
      → option_map rows_view found ≡ option_map entry_of (option_map written_of o) → option_map written_view w ≡ option_map untyped o)
      → IfOk r (λ w. (c : Contents) → has_deep c.types ≡ false → HoldsRecords s c → option_map written_view w ≡ option_map untyped (c.records id))
  written_out (Err e) h = tt
  written_out (Ok w) h = λ c few holds.
      h c.types (c.records id) few (λ k known. ((holds clean live).0.fit id k known).typed) (shown c holds)

-- ---- a record read under types

module _ (s : State) (types : Declared) (id : List ℕ) (found : Option RecordRows) (r : Result (Option Stored) StoreFault) (clean : HasCleanDisk s) (live : IsTrue s.is_open)
    (shown : (c : Contents) → HoldsRecords s c → option_map rows_view found ≡ option_map entry_of (option_map written_of (c.records id)))
    (gives : (o : Option Kept) → ForSome o (λ k. IsWellTyped types k.bundle) → option_map rows_view found ≡ option_map entry_of (option_map written_of o) → Gives Memory (option_map stored_view) r (Ok o)) where
  handed : (c : Contents) → c.types ≡ types → HoldsRecords s c → Gives Memory (option_map stored_view) r (Ok (c.records id))
  handed c same holds = gives (c.records id) (λ k known. subst (λ (ts : Declared). IsWellTyped ts k.bundle) same ((holds clean live).0.fit id k known).typed)
      (shown c holds)

  pub handed_out : IfOk r (λ o. (c : Contents) → c.types ≡ types → HoldsRecords s c → option_map stored_view o ≡ c.records id)
  handed_out = go r handed
    where
      go : (q : Result (Option Stored) StoreFault) → ((c : Contents) → c.types ≡ types → HoldsRecords s c → Gives Memory (option_map stored_view) q (Ok (c.records id)))
          → IfOk q (λ o. (c : Contents) → c.types ≡ types → HoldsRecords s c → option_map stored_view o ≡ c.records id)
      go (Err e) h = tt
      go (Ok x) h = λ c same holds. given_is (Ok x) (c.records id) (h c same holds)

  -- what is held is refused for want of memory alone
  pub never_refused : (F : Type 0) → IfErr r (λ e. e ≡ Store → (c : Contents) → c.types ≡ types → HoldsRecords s c → F)
  never_refused F = go r handed
    where
      go : (q : Result (Option Stored) StoreFault) → ((c : Contents) → c.types ≡ types → HoldsRecords s c → Gives Memory (option_map stored_view) q (Ok (c.records id)))
          → IfErr q (λ e. e ≡ Store → (c : Contents) → c.types ≡ types → HoldsRecords s c → F)
      go (Ok x) h = tt
      go (Err e) h = λ is c same holds. absurd (let wrong = h c same holds (λ memory. let other : Store ≡ Memory = sym is ∙ memory in cc) in cc)

pub is_refusal : (e : Error) → fault_of e ≡ Store → IsRefusal e
is_refusal e is memory = let wrong : Memory ≡ Store = sym (ap fault_of memory) ∙ is in cc

-- ---- changes

fits_with : (k : Contents) (id : List ℕ) (kept : Kept) → RecordFits k.types k.roots kept → AllFit k → AllFit (with_records (with_record id kept k.records) k)
fits_with k id kept fits fit other e known = go (bytes_eq other id) (k.records other) (fit other e) known
  where
    go : (b : Bool) (o : Option Kept) → (o ≡ Some e → RecordFits k.types k.roots e) → cond b (Some kept) o ≡ Some e → RecordFits k.types k.roots e
    go true o were is = let same : kept ≡ e = cc in subst (RecordFits k.types k.roots) same fits
    go false o were is = were is

fits_without : (k : Contents) (id : List ℕ) → AllFit k → AllFit (with_records (without_record id k.records) k)
fits_without k id fit other e known = go (bytes_eq other id) (k.records other) (fit other e) known
  where
    go : (b : Bool) (o : Option Kept) → (o ≡ Some e → RecordFits k.types k.roots e) → cond b None o ≡ Some e → RecordFits k.types k.roots e
    go true o were is = cc
    go false o were is = were is

fits_with_object : (k : Contents) (id name : List ℕ) (t : Thing) → ((kept : Kept) → k.records id ≡ Some kept → RecordFits k.types k.roots (with_thing name t kept)) → AllFit k
    → AllFit (with_records (with_object id name t k.records) k)
fits_with_object k id name t fits fit other e known = elim (cases_Bool (bytes_eq other id)) [
  | inl same ↦
      let is = (bytes_eq-Decides other id).0 same in
      let from = changed_from (k.records other) (rw same at known) in
      subst (RecordFits k.types k.roots) from.2 (fits from.0 (subst (λ i. k.records i ≡ Some from.0) is from.1))
  | inr apart ↦ fit other e (rw apart at known)
]
  where
    changed_from : (o : Option Kept) → option_map (with_thing name t) o ≡ Some e → (was : Kept) × (o ≡ Some was) × (with_thing name t was ≡ e)
    changed_from None is = cc
    changed_from (Some was) is = (was, refl, cc)

fits_after : (k : Contents) (c : Change) → ChangeFits k.types k.roots c k.records → AllFit k → AllFit (with_records (after c k.records) k)
fits_after k (Put id s) fits fit = fits_with k (string_bytes id) _ fits fit
fits_after k (Object id name object) fits fit = fits_with_object k (string_bytes id) (string_bytes name) (object_view object) fits fit
fits_after k (Remove id) fits fit = fits_without k (string_bytes id) fit

pub fits_after_all : (cs : List Change) (k : Contents) → ChangesFit k.types k.roots cs k.records → AllFit k → AllFit (changed cs k)
fits_after_all [] k fits fit = fit
fits_after_all (c ∷ cs) k fits fit = fits_after_all cs (with_records (after c k.records) k) fits.1 (fits_after k c fits.0 fit)

module _ (old new : State) (frame : Frame old new) where
  pub commit_made : (cs : List Change) → ((d : List ℕ) (m : Records) → Keeps old d m → Keeps new d (after_all cs m))
      → (k : Contents) → AllFit (changed cs k) → HoldsRecords old k → HoldsRecords new (changed cs k)
  commit_made cs h k fit = holds_after old new k (after_all cs k.records) frame (h k.bytes k.records) (λ _. fit)

  pub commit_done : (cs : List Change) → ((d : List ℕ) (m : Records) → Keeps old d m → Keeps new d (after_all cs m))
      → (k : Contents) → ChangesFit k.types k.roots cs k.records → HoldsRecords old k → HoldsRecords new (changed cs k)
  commit_done cs h k fits = holds_after old new k (after_all cs k.records) frame (h k.bytes k.records) (fits_after_all cs k fits)

  pub commit_undone : {X E : Type 0} (q : Result X E) → ((d : List ℕ) (m : Records) → Keeps old d m → Keeps new d m)
      → OnErr q ((k : Contents) → HoldsRecords old k → HoldsRecords new k)
  commit_undone (Ok x) h = tt
  commit_undone (Err e) h = λ k. holds_after old new k k.records frame (h k.bytes k.records) (λ fit. fit)

  -- ---- declarations

  -- other contents of which the same is written, under these declarations
  pub declared : (text : List ℕ) → ((d : List ℕ) (m : Records) → Keeps old d m → Keeps new text m)
      → (k after : Contents) → after.bytes ≡ text → writings after.records ≡ writings k.records → AllFit after → HoldsRecords old k → HoldsRecords new after
  declared text h k after is same fit = holds_as old new k after frame
      (λ keeps. subst (λ (d : List ℕ). Keeps new d after.records) (sym is) (subst (λ (ws : Writings). tables.Keeps new (about_rows text) (entries ws)) (sym same) (h k.bytes k.records keeps)))
      (λ _. fit)
