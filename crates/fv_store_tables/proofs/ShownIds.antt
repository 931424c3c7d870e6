-- What is read of rows that show ids.
use Rattle.std.proofs.Common.{◌≡◌, ◌+◌, ◌<◌, ◌++◌, ℕ, List, [], ◌∷◌, length, get_or, take, map, String, string_bytes, IsUtf8, Vec, Result, Ok, Err, IfOk, IfErr, refl, sym, ap, subst, ◌∙◌, add-one}
use Rattle.std.specs.List.{AllByRecursion}
use Rattle.std.proofs.Math.Seq.{take-suc}
use Rattle.std.proofs.lemmas.List.{map-append}
use Rattle.std.specs.declared.alloc.Global.{Global}
use Rattle.sqlite.specs.declared.types.Value.TheVariants.{Text}
use Rattle.sqlite.specs.Order.{Row, column}
use Rattle.sqlite.specs.State.{State}
use Rattle.sqlite.specs.declared.error.Error.{Error}
use Rattle.fv_store_tables.specs.Causes.{IsRefusal, IsExcused}
use Rattle.fv_store_tables.specs.Lists.{Lists, ShowsIds, id_row}
use Rattle.fv_store_tables.specs.Stands.{TableEntries}

-- what is read is what the rows show
pub same_ids : (ids : List (List ℕ)) (read : List (String Global)) → map (λ r. column r 0) (map id_row ids) ≡ map (λ s. Text (string_bytes s)) read → map string_bytes read ≡ ids
same_ids [] [] is = refl
same_ids [] (s ∷ read) is = cc
same_ids (id ∷ ids) [] is = cc
same_ids (id ∷ ids) (s ∷ read) is =
    let head : Text id ≡ Text (string_bytes s) = cc in
    let bytes : string_bytes s ≡ id = cc in
    let tail : map (λ r. column r 0) (map id_row ids) ≡ map (λ (x : String Global). Text (string_bytes x)) read = cc in
    ap (λ b. b ∷ map string_bytes read) bytes ∙ ap (λ l. id ∷ l) (same_ids ids read tail)

-- one row more is read
pub read_more : (rows : List Row) (i : ℕ) (row : Row) (read : List (String Global)) (s : String Global) → i < length rows → row ≡ get_or rows i row → map (λ r. column r 0) (take i rows) ≡ map (λ x. Text (string_bytes x)) read → column row 0 ≡ Text (string_bytes s)
    → map (λ r. column r 0) (take (i + 1) rows) ≡ map (λ x. Text (string_bytes x)) (read ++ s ∷ [])
read_more rows i row read s within is before here =
    rw (add-one, take-suc rows i row within, ← is, map-append, map-append, before, here) refl

-- ---- what the call answers

module _ (Given : List Row → TableEntries → Type 0) (Wanted : TableEntries → List ℕ → Type 0) (above : List ℕ) (limit : ℕ) (rows : List Row) (shown : (d : List Row) (m : TableEntries) → Given d m → ShowsIds rows (Wanted m) above limit) where
  pub ids_found : (Live : Type 0) → Live → (r : Result (Vec (String Global) Global) Error) → IfOk r (λ v. (ids : List (List ℕ)) → rows ≡ map id_row ids → map string_bytes v.items ≡ ids)
      → IfOk r (λ v. Live × ((d : List Row) (m : TableEntries) → Given d m → Lists (Wanted m) above limit (map string_bytes v.items)))
  ids_found Live live (Err e) read = tt
  ids_found Live live (Ok v) read = (live, λ d m given. let it = shown d m given in subst (Lists (Wanted m) above limit) (sym (read it.0 it.3)) it.1)

  pub ids_refused : (old new : State) (r : Result (Vec (String Global) Global) Error) → IfErr r (λ e. (ids : List (List ℕ)) → rows ≡ map id_row ids → AllByRecursion IsUtf8 ids → ¬ IsRefusal e)
      → IfErr r (λ e. (d : List Row) (m : TableEntries) → Given d m → IsExcused old new e)
  ids_refused old new (Ok v) cause = tt
  ids_refused old new (Err e) cause = λ d m given refused. let it = shown d m given in absurd (cause it.0 it.3 it.2 refused)
