-- What the query of a record's objects shows, inside a transaction.
use Rattle.std.proofs.Common.{◌≡◌, inl, inr, ℕ, ℤ, List, [], ◌∷◌, map, true, false, Option, Some, None, Ok, Err, Result, IfOk, IfErr, IsTrue, Vec, refl, sym, ap, subst, ◌∙◌}
use Rattle.std.specs.List.{AllByRecursion}
use Rattle.std.proofs.lemmas.Slice.Eq.{bytes_eq-Decides}
use Rattle.std.specs.declared.alloc.Global.{Global}
use Rattle.sqlite.specs.declared.types.Value.TheVariants.{Null, Text}
use Rattle.sqlite.specs.declared.error.Error.{Error}
use Rattle.sqlite.specs.Order.{Row, column}
use Rattle.sqlite.specs.Edit.{id_in}
use Rattle.sqlite.specs.Command.TheVariants.{Select}
use Rattle.sqlite.specs.Query.{IsAnswer}
use Rattle.sqlite.specs.Program.{overlay}
use Rattle.sqlite.specs.Tree.{Trees}
use Rattle.sqlite.specs.Effect.{RefusesToRead}
use Rattle.sqlite.specs.State.{State, Shown}
use Rattle.sqlite.proofs.Callers.{reads_as}
use Rattle.sqlite_rules.specs.Lists.{Has}
use Rattle.sqlite_rules.proofs.ProbeLemmas.{has_mapped, mapped_has}
use Rattle.sqlite_typing.specs.Types.{accepts_program}
use Rattle.sqlite_tied.specs.Compute.{everything}
use Rattle.fv_store_tables.specs.declared.entry.FoundRow.{FoundRow}
use Rattle.fv_store_tables.specs.Tables.{store_schema}
use Rattle.fv_store_tables.specs.Rows.{HasRows}
use Rattle.fv_store_tables.specs.Stands.{ObjectTexts, ObjectKey, Maps, NumberedThing, part_row, shown_row, IsTextPart, IsTextRow, SpellsTables}
use Rattle.fv_store_tables.specs.Changes.{found_objects, found_object, found_view}
use Rattle.fv_store_tables.specs.Causes.{IsExcused, IsRefusal}
use Rattle.fv_store_tables.specs.Steps.{ArePartsOf, AreRowsOf, ShowsParts}
use Rattle.fv_store_tables.proofs.Texts.{objects_text, objects_terms, objects_query, objects_names, objects_is, objects_plain, objects_whole, objects_unlisted, by_first, by_name}
use Rattle.fv_store_tables.proofs.OneTable.{part_by_id, shown_sound, shown_complete}
use Rattle.fv_store_tables.proofs.Layouts.{parts}
use Rattle.fv_store_tables.proofs.Queries.{thing_in}
use Rattle.fv_store_tables.proofs.InsideQueries.{FailsInside}
use Rattle.fv_store_tables.proofs.Refusals.{no_sum, never_steps, query_cause}

-- the row of an object, as a row of the query shows it
abbrev pub row_in : Row → NumberedThing
row_in row = (id_in (column row 3), thing_in row)

-- what is known of it
abbrev IsShownOf : List Row → (ObjectKey → Option ObjectTexts) → List ℕ → ℤ × (List ℕ × ObjectTexts) → Type 0
IsShownOf rows m id r = Has rows (part_row r.0 (id, r.1.0) r.1.1) × (m (id, r.1.0) ≡ Some r.1.1) × IsTextRow r

module _ (db : Trees) (m : ObjectKey → Option ObjectTexts) (id : List ℕ) (rows : List Row) (s : HasRows part_row IsTextPart (db 3) m) (a : IsAnswer objects_query (overlay db []) (Text id ∷ []) rows) where
  part_sound : (x : Row) → Has rows x → (r : ℤ × (List ℕ × ObjectTexts)) × (x ≡ shown_row r) × IsShownOf (db 3) m id r
  part_sound x h =
      let r = shown_sound 3 by_first objects_terms by_name (overlay db []) (Text id ∷ []) rows a x h in
      let it = s.sound r.0 r.1 in
      let own : it.key.0 ≡ id = (bytes_eq-Decides it.key.0 id).0 (sym (part_by_id m id [] r.0 it) ∙ r.2) in
      let there : Has (db 3) (part_row it.number (id, it.key.1) it.value) = subst (Has (db 3)) (it.is ∙ ap (λ i. part_row it.number (i, it.key.1) it.value) own) r.1 in
      let known : m (id, it.key.1) ≡ Some it.value = ap (λ i. m (i, it.key.1)) (sym own) ∙ it.known in
      ((it.number, (it.key.1, it.value)), r.3 ∙ ap (λ (v : Row). column v 2 ∷ column v 3 ∷ column v 4 ∷ column v 0 ∷ []) it.is, (there, known, (it.good.1, it.good.2, it.good.3)))

  part_complete : (name : List ℕ) (p : ObjectTexts) → m (id, name) ≡ Some p → (n : ℤ) × Has rows (shown_row (n, (name, p)))
  part_complete name p has =
      let there = s.complete (id, name) p has in
      let row = part_row there.0 (id, name) p in
      let it = s.sound row there.1 in
      let key : (id, name) ≡ it.key = parts.keyed there.0 it.number (id, name) it.key p it.value it.is in
      let own : it.key.0 ≡ id = sym (ap (λ (at : ObjectKey). at.0) key) in
      (there.0, shown_complete 3 by_first objects_terms by_name (overlay db []) (Text id ∷ []) rows a row there.1 (part_by_id m id [] row it ∙ (bytes_eq-Decides it.key.0 id).1 own))

-- rows of which each shows an object and its rowid show a list of them
each_shown : (P : ℤ × (List ℕ × ObjectTexts) → Type 0) (xs : List Row) → ((x : Row) → Has xs x → (r : ℤ × (List ℕ × ObjectTexts)) × (x ≡ shown_row r) × P r) → xs ≡ map shown_row (map row_in xs)
each_shown P [] each = refl
each_shown P (x ∷ xs) each =
    let it = each x (inl refl) in
    let head : shown_row (row_in x) ≡ x = ap (λ (r : Row). shown_row (row_in r)) it.1 ∙ sym it.1 in
    λ i. sym head i ∷ each_shown P xs (λ y h. each y (inr h)) i

each_is : (P : ℤ × (List ℕ × ObjectTexts) → Type 0) (xs : List Row) → ((x : Row) → Has xs x → (r : ℤ × (List ℕ × ObjectTexts)) × (x ≡ shown_row r) × P r) → (r : ℤ × (List ℕ × ObjectTexts)) → Has (map row_in xs) r → P r
each_is P xs each r h =
    let x = has_mapped row_in xs r h in
    let it = each x.0 x.1 in
    let same : it.0 ≡ r = sym (ap row_in it.1) ∙ sym x.2 in
    subst P same it.2

all_of : (P : ℤ × (List ℕ × ObjectTexts) → Type 0) (rs : List NumberedThing) → ((r : ℤ × (List ℕ × ObjectTexts)) → Has rs r → P r) → AllByRecursion P rs
all_of P [] each = tt
all_of P (r ∷ rs) each = (each r (inl refl), all_of P rs (λ x h. each x (inr h)))

pub parts_shown : (old new : State) (id : List ℕ) (r : Result (Vec Row Global) Error) → IfOk r (λ rows. Shown objects_text (Text id ∷ []) old new rows.items)
    → IfOk r (λ rows. (d : List Row) (t : Maps) → SpellsTables old.now d t → ShowsParts id rows.items old.now t)
parts_shown old new id (Err e) h = tt
parts_shown old new id (Ok rows) h = λ d t spelled.
    let read = reads_as objects_text (Text id ∷ []) old new store_schema spelled.schema (Select (record { lets = []; body = objects_query }) objects_names) objects_is objects_plain objects_unlisted rows.items h in
    let each = part_sound old.now.trees t.parts id rows.items spelled.parts (read.answer Null) in
    let P : ℤ × (List ℕ × ObjectTexts) → Type 0 = IsShownOf (old.now.trees 3) t.parts id in
    let rs = map row_in rows.items in
    let known = each_is P rows.items each in (
      rs,
      each_shown P rows.items each,
      all_of IsTextRow rs (λ r h. (known r h).2),
      λ r h. (known r h).0,
      (
        λ o h. let r = has_mapped (λ (e : ℤ × (List ℕ × ObjectTexts)). e.1) rs o h in subst (λ (e : List ℕ × ObjectTexts). t.parts (id, e.0) ≡ Some e.1) (sym r.2) (known r.0 r.1).1,
        λ name p has.
            let it = part_complete old.now.trees t.parts id rows.items spelled.parts (read.answer Null) name p has in
            mapped_has (λ (e : ℤ × (List ℕ × ObjectTexts)). e.1) rs (it.0, (name, p)) (mapped_has row_in rows.items (shown_row (it.0, (name, p))) it.1),
      ),
    )

-- ---- the rows are read

objects_of : (rows : List FoundRow) → map (λ (r : ℤ × (List ℕ × ObjectTexts)). r.1) (map found_view rows) ≡ found_objects rows
objects_of [] = refl
objects_of (r ∷ rows) = ap (λ os. found_object r ∷ os) (objects_of rows)

pub parts_found : (old : State) (id : List ℕ) (rows v : List Row) (r : Result (Vec FoundRow Global) Error) → v ≡ rows → ((d : List Row) (t : Maps) → SpellsTables old.now d t → ShowsParts id rows old.now t)
    → IfOk r (λ x. (rs : List NumberedThing) → v ≡ map shown_row rs → map found_view x.items ≡ rs)
    → IfOk r (λ x. (d : List Row) (t : Maps) → SpellsTables old.now d t → AreRowsOf id (map found_view x.items) old.now × ArePartsOf id (found_objects x.items) t)
parts_found old id rows v (Err e) same shows h = tt
parts_found old id rows v (Ok x) same shows h = λ d t spelled.
    let it = shows d t spelled in
    let read : map found_view x.items ≡ it.0 = h it.0 (same ∙ it.1) in (
      subst (λ rs. AreRowsOf id rs old.now) (sym read) it.3,
      subst (λ os. ArePartsOf id os t) (ap (map (λ (r : ℤ × (List ℕ × ObjectTexts)). r.1)) (sym read) ∙ objects_of x.items) it.4,
    )

pub parts_read : (old new : State) (id : List ℕ) (rows v : List Row) (r : Result (Vec FoundRow Global) Error) → v ≡ rows → ((d : List Row) (t : Maps) → SpellsTables old.now d t → ShowsParts id rows old.now t)
    → IfErr r (λ e. (rs : List NumberedThing) → v ≡ map shown_row rs → AllByRecursion IsTextRow rs → ¬ IsRefusal e) → IfErr r (λ e. (d : List Row) (t : Maps) → SpellsTables old.now d t → IsExcused old new e)
parts_read old new id rows v (Ok x) same shows h = tt
parts_read old new id rows v (Err e) same shows h = λ d t spelled refused. let it = shows d t spelled in absurd (h it.0 (same ∙ it.1) it.2 refused)

-- ---- why it is refused

objects_accepted : (id : List ℕ) → accepts_program store_schema [] objects_query (Text id ∷ []) ≡ true
unfolding everything
objects_accepted id = refl

objects_never : (s : State) → s.now.schema ≡ store_schema → s.step_limit ≡ None → (id : List ℕ) (e : Error)
    → RefusesToRead s.step_limit (Select (record { lets = []; body = objects_query }) objects_names) s.now (Text id ∷ []) e → ⊥
objects_never s has none id e (inl h) = let wrong = subst (λ sc. accepts_program sc [] objects_query (Text id ∷ []) ≡ false) has h.1 in cc (wrong, objects_accepted id)
objects_never s has none id e (inr (inl h)) = no_sum (s.now.trees 3) h.1
objects_never s has none id e (inr (inr h)) = never_steps s.step_limit none h.1

pub parts_cause : (old new : State) → IsTrue old.in_transaction → old.step_limit ≡ None → (id : List ℕ) (r : Result (Vec Row Global) Error) → IfErr r (FailsInside objects_text (Text id ∷ []) old new)
    → IfErr r (λ e. (d : List Row) (t : Maps) → SpellsTables old.now d t → IsExcused old new e)
parts_cause old new inside none id (Ok rows) h = tt
parts_cause old new inside none id (Err e) (inr late) = λ d t spelled refused. absurd (let outside = late.3 in cc)
parts_cause old new inside none id (Err e) (inl fails) = λ d t spelled refused.
    query_cause objects_text (Text id ∷ []) old new store_schema spelled.schema objects_plain objects_whole (Select (record { lets = []; body = objects_query }) objects_names) objects_is objects_unlisted
    (objects_never old spelled.schema none id) e fails refused
