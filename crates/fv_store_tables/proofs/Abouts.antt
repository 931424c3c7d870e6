-- What is read of the row of `about`, under either version's tables.
use Rattle.std.proofs.Common.{◌≡◌, inl, inr, ℕ, List, [], ◌∷◌, false, Some, None, Ok, Err, Result, IfOk, IfErr, IsTrue, Vec, ℤ, pos, codes, slice_get, refl, sym, ap, subst, ◌∙◌}
use Rattle.sqlite.specs.declared.types.Value.TheVariants.{Int, Null, Blob}
use Rattle.sqlite.specs.declared.error.Error.{Error}
use Rattle.std.specs.declared.alloc.Global.{Global}
use Rattle.sqlite.specs.Order.{Row, column}
use Rattle.sqlite.specs.Schema.{Schema}
use Rattle.sqlite.specs.Term.{col}
use Rattle.sqlite.specs.Command.{Command}
use Rattle.sqlite.specs.Command.TheVariants.{Select, Rows}
use Rattle.sqlite.specs.Clock.{timed}
use Rattle.sqlite.specs.Query.{IsAnswer}
use Rattle.sqlite.specs.Program.{overlay}
use Rattle.sqlite.specs.Tree.{Trees}
use Rattle.sqlite.specs.Effect.{Database, Reads, ReadsFirst, RefusesToRead}
use Rattle.sqlite.specs.State.{State, Begins, Shown, FailsToQuery}
use Rattle.sqlite.proofs.Callers.{reads_as}
use Rattle.sqlite_schema.specs.Program.{lets_of}
use Rattle.sqlite_sql.proofs.ProgramLemmas.{computes_weaker}
use Rattle.sqlite_rules.specs.Lists.{Has}
use Rattle.sqlite_typing.specs.Types.{accepts_program}
use Rattle.fv_store_tables.specs.Tables.{store_schema}
use Rattle.fv_store_tables.specs.FirstTables.{old_schema}
use Rattle.fv_store_tables.specs.About.{HasTables, ShowsFirst, TellsAbout, ShowsAbout, about_query, shown_about}
use Rattle.fv_store_tables.specs.Causes.{IsExcused}
use Rattle.fv_store_tables.proofs.Bare.{read_bare}
use Rattle.fv_store_tables.proofs.FirstTexts.{read_query, ReadMeans, read_of_old, read_of_new}
use Rattle.fv_store_tables.proofs.OneTable.{shown_sound, shown_complete}
use Rattle.fv_store_tables.proofs.Queries.{shown_open}
use Rattle.fv_store_tables.proofs.Refusals.{no_sum, never_steps, query_cause}

-- the row that tells them
abbrev told_row : ℤ → List ℕ → Row
told_row version d = Int (pos 1) ∷ Null ∷ Int version ∷ Blob d ∷ []

module _ (db : Trees) (version : ℤ) (d : List ℕ) (rows : List Row) (has : db 0 ≡ told_row version d ∷ []) (a : IsAnswer read_query (overlay db []) [] rows) where
  about_sound : (x : Row) → Has rows x → x ≡ shown_about version d
  about_sound x h =
      let r = shown_sound 0 [] (col 1 2 ∷ col 1 3 ∷ []) [] (overlay db []) [] rows a x h in
      elim (subst (λ l. Has l r.0) has r.1) [ inl is ↦ r.3 ∙ ap (λ (v : Row). column v 2 ∷ column v 3 ∷ []) is | inr never ↦ absurd never ]

  first_shows : (l : List Row) → rows ≡ l → ShowsAbout l version d
  first_shows [] same =
      subst (λ l. Has l (shown_about version d)) same (shown_complete 0 [] (col 1 2 ∷ col 1 3 ∷ []) [] (overlay db []) [] rows a (told_row version d) (subst (λ l. Has l (told_row version d)) (sym has) (inl refl)) refl)
  first_shows (x ∷ l) same = about_sound x (subst (λ k. Has k x) (sym same) (inl refl))

-- ---- under one schema

module _ (schema : Schema) (means : ReadMeans schema) (old new : State) (has : old.now.schema ≡ schema) where
  about_under : (rows : List Row) (version : ℤ) (d : List ℕ) → old.now.trees 0 ≡ told_row version d ∷ [] → Shown about_query [] old new rows → ShowsAbout rows version d
  about_under rows version d is h =
      let read = reads_as about_query [] old new schema has (Select (record { lets = []; body = read_query }) (codes "version" ∷ codes "declarations" ∷ [])) means.is means.plain means.unlisted rows h in
      first_shows old.now.trees version d rows is (read.answer Null) rows refl

  read_never : old.step_limit ≡ None → (e : Error) → RefusesToRead old.step_limit (Select (record { lets = []; body = read_query }) (codes "version" ∷ codes "declarations" ∷ [])) old.now [] e → ⊥
  read_never none e (inl h) = let wrong = subst (λ sc. accepts_program sc [] read_query [] ≡ false) has h.1 in cc (wrong, means.accepted)
  read_never none e (inr (inl h)) = no_sum (old.now.trees 0) h.1
  read_never none e (inr (inr h)) = never_steps old.step_limit none h.1

  cause_under : old.step_limit ≡ None → (e : Error) → FailsToQuery about_query [] old new e → IsExcused old new e
  cause_under none e h =
      query_cause about_query [] old new schema has means.plain means.whole (Select (record { lets = []; body = read_query }) (codes "version" ∷ codes "declarations" ∷ [])) means.is means.unlisted (read_never none) e h

-- ---- under either

pub read_shown : (old new : State) (r : Result (Vec Row Global) Error) → IfOk r (λ rows. Shown about_query [] old new rows.items)
    → IfOk r (λ rows. IsTrue old.is_open × ((version : ℤ) (d : List ℕ) → TellsAbout version d old.now → ShowsAbout rows.items version d))
read_shown old new (Err e) h = tt
read_shown old new (Ok rows) h = (
  shown_open _ _ old new rows.items h,
  λ version d tells. elim tells.0 [
    | inl is ↦ about_under old_schema read_of_old old new is rows.items version d tells.1 h
    | inr is ↦ about_under store_schema read_of_new old new is rows.items version d tells.1 h
  ],
)

pub read_cause : (old new : State) → old.step_limit ≡ None → (r : Result (Vec Row Global) Error) → IfErr r (FailsToQuery about_query [] old new) → IfErr r (λ e. HasTables old.now → IsExcused old new e)
read_cause old new none (Ok rows) h = tt
read_cause old new none (Err e) h = λ tables. elim tables [
  | inl is ↦ cause_under old_schema read_of_old old new is none e h
  | inr is ↦ cause_under store_schema read_of_new old new is none e h
]

-- ---- under any

front_read : (command : Command) (db : Database) (params : Row) (row : Row) (tail : List Row) → Reads command db params (row ∷ tail) → ReadsFirst command db params (row ∷ [])
front_read (Select q names) db params row tail h = (h.typed, computes_weaker db.trees params (lets_of q) [] _ _ (λ all sure. (tail, sure)) h.answer)
front_read (Rows values width names) db params row tail h = (tail, h)
front_read _ db params row tail h = absurd h

first_begins : (old new : State) (row : Row) (tail : List Row) → Shown about_query [] old new (row ∷ tail) → ShowsFirst old row
unfolding Shown Begins
first_begins old new row tail h =
    let bare = read_bare old.now.schema h.0 h.1.is in
    let it = rw bare at h.2 in
    (h.0, h.1, bare, it.0, it.1, front_read h.0.command it.0 (timed [] h.0.formats h.1.now) row tail it.2)

pub read_first : (old new : State) (r : Result (Vec Row Global) Error) → IfOk r (λ rows. Shown about_query [] old new rows.items)
    → IfOk r (λ rows. (row : Row) → slice_get rows.items 0 ≡ Some row → ShowsFirst old row)
read_first old new (Err e) h = tt
read_first old new (Ok rows) h = λ row first. go rows.items row first h
  where
    go : (l : List Row) (row : Row) → slice_get l 0 ≡ Some row → Shown about_query [] old new l → ShowsFirst old row
    go [] row first shown = absurd cc
    go (x ∷ l) row first shown = let same : x ≡ row = cc in first_begins old new row l (subst (λ r. Shown about_query [] old new (r ∷ l)) same shown)
