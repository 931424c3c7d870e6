-- What the query of the records of version 1 shows: each once.
use Rattle.std.proofs.Common.{◌≡◌, ◌+◌, ◌≤◌, inl, inr, ℕ, List, [], ◌∷◌, map, sum_by, true, false, if◌then◌else◌, bytes_eq, Some, None, Ok, Err, Result, IfOk, IfErr, OnOk, Vec, codes, refl, sym, ap, ap₂, subst, ◌∙◌, arith}
use Rattle.std.specs.List.{list_all, AllByRecursion}
use Rattle.std.specs.declared.alloc.Global.{Global}
use Rattle.std.proofs.lemmas.Bool.{cases_Bool, false_from_ne_true}
use Rattle.std.proofs.lemmas.List.Sums.{sum_by-cons}
use Rattle.std.proofs.lemmas.List.Sorted.{sum_by-IsPermutation}
use Rattle.sqlite.specs.declared.types.Value.TheVariants.{Null}
use Rattle.sqlite.specs.declared.error.Error.{Error}
use Rattle.sqlite.specs.Order.{Row, column, bytes}
use Rattle.sqlite.specs.Term.{holds}
use Rattle.sqlite.specs.Command.TheVariants.{Select}
use Rattle.sqlite.specs.Query.{Output, output, matches, inner, end, IsAnswer}
use Rattle.sqlite.specs.Program.{overlay}
use Rattle.sqlite.specs.Tree.{Trees}
use Rattle.sqlite.specs.Effect.{RefusesToRead}
use Rattle.sqlite.specs.State.{State, Shown, FailsToQuery}
use Rattle.sqlite.proofs.Callers.{reads_as}
use Rattle.sqlite_rules.specs.Lists.{Has}
use Rattle.sqlite_rules.proofs.ProbeLemmas.{has_mapped, mapped_has}
use Rattle.sqlite_typing.specs.Types.{accepts_program}
use Rattle.sqlite_tied.specs.Compute.{everything}
use Rattle.fv_store_tables.specs.declared.migrating.OldRow.{OldRow}
use Rattle.fv_store_tables.specs.FirstTables.{old_schema}
use Rattle.fv_store_tables.specs.Rows.{HasRows}
use Rattle.fv_store_tables.specs.Causes.{IsExcused, IsRefusal}
use Rattle.fv_store_tables.specs.Olds.{Old, Olds, old_row, IsTextOld, IsTextRecord, SpellsFirst, has_id, AreOnce, AreOlds, ShowsOlds, shown_old, olds_view}
use Rattle.fv_store_tables.proofs.FirstTexts.{old_rows_text, old_rows_query, old_rows_is, old_rows_plain, old_rows_whole, old_rows_unlisted}
use Rattle.fv_store_tables.proofs.Bare.{old_rows_bare}
use Rattle.fv_store_tables.proofs.OneTable.{kept, shown_sound, shown_complete}
use Rattle.fv_store_tables.proofs.Ordered.{sum_by-map, le_by, both_le, fewer}
use Rattle.fv_store_tables.proofs.Ids.{hit, at_most_once}
use Rattle.fv_store_tables.proofs.Objects.{same_id}
use Rattle.fv_store_tables.proofs.Queries.{still}
use Rattle.fv_store_tables.proofs.Refusals.{no_sum, never_steps, query_cause}

-- what a row shows
abbrev pub entry_in : Row → List ℕ × Old
entry_in row = (bytes (column row 0), record { form = bytes (column row 1); bundle = bytes (column row 2) })

-- ---- no id is shown twice

abbrev counts : List ℕ → List ℕ × Old → ℕ
counts id e = if bytes_eq e.0 id then 1 else 0

has_counted : (id : List ℕ) (es : List (List ℕ × Old)) → has_id id es ≡ true → 1 ≤ sum_by (counts id) es
has_counted id [] h = absurd cc
has_counted id (e ∷ es) h =
    let step : sum_by (counts id) (e ∷ es) ≡ counts id e + sum_by (counts id) es = sum_by-cons (counts id) e es in
    elim (cases_Bool (bytes_eq e.0 id)) [
      | inl same ↦ let head : counts id e ≡ 1 = rw same refl in omega arith
      | inr other ↦ let rest = has_counted id es (rw other at h) in omega arith
    ]

once_by : (es : List (List ℕ × Old)) → ((id : List ℕ) → sum_by (counts id) es ≤ 1) → AreOnce es
once_by [] most = tt
once_by (e ∷ es) most = (
  false_from_ne_true _ (λ there.
      let some = has_counted e.0 es there in
      let step : sum_by (counts e.0) (e ∷ es) ≡ counts e.0 e + sum_by (counts e.0) es = sum_by-cons (counts e.0) e es in
      let head : counts e.0 e ≡ 1 = rw (same_id e.0) refl in
      let limit = most e.0 in
      omega arith),
  once_by es (λ id.
      let step : sum_by (counts id) (e ∷ es) ≡ counts id e + sum_by (counts id) es = sum_by-cons (counts id) e es in
      let limit = most id in
      omega arith),
)

-- ---- what the rows show

each_shows : (xs : List Row) → ((x : Row) → Has xs x → x ≡ shown_old (entry_in x)) → xs ≡ map shown_old (map entry_in xs)
each_shows [] shows = refl
each_shows (x ∷ xs) shows = ap₂ (λ (r : Row) rs. r ∷ rs) (shows x (inl refl)) (each_shows xs (λ y h. shows y (inr h)))

all_text : (xs : List Row) → ((x : Row) → Has xs x → IsTextRecord (entry_in x)) → AllByRecursion IsTextRecord (map entry_in xs)
all_text [] texts = tt
all_text (x ∷ xs) texts = (texts x (inl refl), all_text xs (λ y h. texts y (inr h)))

module _ (db : Trees) (m : Olds) (rows : List Row) (s : HasRows old_row IsTextOld (db 1) m) (a : IsAnswer old_rows_query (overlay db []) [] rows) where
  shape : (x : Row) → Has rows x → (e : List ℕ × Old) × (m e.0 ≡ Some e.1) × IsTextRecord e × (x ≡ shown_old e)
  shape x h =
      let r = shown_sound 1 [] old_rows_query.project [] (overlay db []) [] rows a x h in
      let it = s.sound r.0 r.1 in
      ((it.key, it.value), it.known, it.good, r.3 ∙ ap (λ (v : Row). column v 1 ∷ column v 2 ∷ column v 3 ∷ []) it.is)

  shows_once : (id : List ℕ) → sum_by (counts id) (map entry_in rows) ≤ 1
  shows_once id =
      let shows : Output → ℕ = λ o. counts id (entry_in o.1) in
      let each = sum_by-map (counts id) entry_in rows in
      let paged = ap (sum_by (λ r. counts id (entry_in r))) a.shown ∙ sum_by-map (λ r. counts id (entry_in r)) (λ (o : Output). o.1) a.ordered in
      let moved = sum_by-IsPermutation shows a.kept a.ordered a.same in
      let mapped = ap (sum_by shows) (kept 1 [] old_rows_query.project old_rows_query.order old_rows_query.limit (overlay db []) [] rows a) in
      let through = sum_by-map shows (output old_rows_query) (matches (overlay db []) [] (inner 1 end) ([] ∷ [])) in
      let less = fewer (λ r. list_all (holds ([] ∷ r ∷ [])) []) (λ r. [] ∷ r ∷ []) (λ e. shows (output old_rows_query e)) (hit id) (db 1) (λ r there passes. refl) in
      let most = at_most_once id old_row IsTextOld (λ i k v. (refl, refl)) m (db 1) s in
      le_by (each ∙ paged ∙ moved ∙ mapped ∙ through) (both_le less most)

  are_olds : AreOlds (map entry_in rows) m
  are_olds = record {
    sound = λ e h.
        let x = has_mapped entry_in rows e h in
        let r = shape x.0 x.1 in
        let is : e ≡ r.0 = x.2 ∙ ap entry_in r.3 in
        subst (λ (y : List ℕ × Old). m y.0 ≡ Some y.1) (sym is) r.1;
    complete = λ id o is.
        let there = s.complete id o is in
        mapped_has entry_in rows (shown_old (id, o)) (shown_complete 1 [] old_rows_query.project [] (overlay db []) [] rows a (old_row there.0 id o) there.1 refl);
    once = once_by (map entry_in rows) shows_once;
  }

  pub shows_olds : ShowsOlds rows m
  shows_olds = (
    map entry_in rows,
    are_olds,
    all_text rows (λ x h. let r = shape x h in subst IsTextRecord (sym (ap entry_in r.3)) r.2),
    each_shows rows (λ x h. let r = shape x h in r.3 ∙ ap shown_old (sym (ap entry_in r.3))),
  )

-- ---- what the query answers

old_accepted : accepts_program old_schema [] old_rows_query [] ≡ true
unfolding everything
old_accepted = refl

module _ (old new : State) where
  pub old_shown : (r : Result (Vec Row Global) Error) → IfOk r (λ rows. Shown old_rows_text [] old new rows.items) → IfOk r (λ rows. (d : List Row) (m : Olds) → SpellsFirst old.now d m → ShowsOlds rows.items m)
  old_shown (Err e) h = tt
  old_shown (Ok rows) h = λ d m spelled.
      let read = reads_as old_rows_text [] old new old_schema spelled.schema (Select (record { lets = []; body = old_rows_query }) (codes "id" ∷ codes "form" ∷ codes "bundle" ∷ [])) old_rows_is old_rows_plain old_rows_unlisted rows.items h in
      shows_olds old.now.trees m rows.items spelled.records (read.answer Null)

  old_never : old.now.schema ≡ old_schema → old.step_limit ≡ None → (e : Error) → RefusesToRead old.step_limit (Select (record { lets = []; body = old_rows_query }) (codes "id" ∷ codes "form" ∷ codes "bundle" ∷ [])) old.now [] e → ⊥
  old_never has none e (inl h) = let wrong = subst (λ sc. accepts_program sc [] old_rows_query [] ≡ false) has h.1 in cc (wrong, old_accepted)
  old_never has none e (inr (inl h)) = no_sum (old.now.trees 1) h.1
  old_never has none e (inr (inr h)) = never_steps old.step_limit none h.1

  pub old_cause : old.step_limit ≡ None → (r : Result (Vec Row Global) Error) → IfErr r (FailsToQuery old_rows_text [] old new) → IfErr r (λ e. (d : List Row) (m : Olds) → SpellsFirst old.now d m → IsExcused old new e)
  old_cause none (Ok rows) h = tt
  old_cause none (Err e) h = λ d m spelled.
      query_cause old_rows_text [] old new old_schema spelled.schema old_rows_plain old_rows_whole (Select (record { lets = []; body = old_rows_query }) (codes "id" ∷ codes "form" ∷ codes "bundle" ∷ [])) old_rows_is old_rows_unlisted
      (old_never spelled.schema none) e h

  pub old_same : (r : Result (Vec Row Global) Error) → IfOk r (λ rows. Shown old_rows_text [] old new rows.items) → OnOk r ((new.now ≡ old.now) × (new.committed ≡ old.committed))
  old_same (Err e) h = tt
  old_same (Ok rows) h = let same = still old_rows_text [] old new rows.items (old_rows_bare old.now.schema) h in (same.0.now_is, same.0.committed_is)

-- ---- what is read of the rows

module _ (old new : State) (rows : List Row) (shown : (d : List Row) (m : Olds) → SpellsFirst old.now d m → ShowsOlds rows m) where
  pub olds_found : (r : Result (Vec OldRow Global) Error) → IfOk r (λ v. (os : List (List ℕ × Old)) → rows ≡ map shown_old os → olds_view v.items ≡ os)
      → IfOk r (λ v. (d : List Row) (m : Olds) → SpellsFirst old.now d m → AreOlds (olds_view v.items) m)
  olds_found (Err e) read = tt
  olds_found (Ok v) read = λ d m spelled. let it = shown d m spelled in subst (λ es. AreOlds es m) (sym (read it.0 it.3)) it.1

  pub olds_refused : (r : Result (Vec OldRow Global) Error) → IfErr r (λ e. (os : List (List ℕ × Old)) → rows ≡ map shown_old os → AllByRecursion IsTextRecord os → ¬ IsRefusal e)
      → IfErr r (λ e. (d : List Row) (m : Olds) → SpellsFirst old.now d m → IsExcused old new e)
  olds_refused (Ok v) cause = tt
  olds_refused (Err e) cause = λ d m spelled refused. let it = shown d m spelled in absurd (cause it.0 it.3 it.2 refused)
