-- No rule of the database refuses that the tables are made where there is none.
use Rattle.std.proofs.Common.{◌≡◌, ◌==◌, ◌+◌, ◌*◌, ◌<◌, ◌≤◌, ◌^◌, ◌∙◌, inl, inr, ℕ, pos, true, false, List, [], ◌∷◌, length, map, drop, codes, IsUtf8, Option, Some, None, Result, Ok, Err, IfErr, refl, sym, ap, subst, arith}
use lib.Ieee.{is_nan, lt}
use lib.Utf8.{encode}
use Rattle.sqlite_trees.specs.Sound.{fits_kind, is_free_name, same_name, begins}
use Rattle.sqlite_schema.specs.Names as names
use Rattle.sqlite_value.specs.Keys.{joined}
use Rattle.sqlite_value.specs.Order.{Row, value_cmp, number}
use Rattle.std.specs.Float.{NotNan}
use Rattle.std.specs.List.{list_all}
use Rattle.std.proofs.lemmas.List.Elements.{All-from_recursion}
use Rattle.sqlite.specs.declared.types.Value.TheVariants.{Text, Blob}
use Rattle.sqlite.specs.declared.error.Error.{Error}
use Rattle.sqlite.specs.Compile.{table_defined_by}
use Rattle.sqlite.specs.Command.TheVariants.{CreateTable, Insert}
use Rattle.sqlite.specs.Source.TheVariants.{Values}
use Rattle.sqlite.specs.Cast.{cast_row}
use Rattle.sqlite.specs.Ops.{binary}
use Rattle.sqlite.specs.Edit.{Edit, numbered, are_fresh, put_all, IsRefused, IsOversized}
use Rattle.sqlite.specs.Rowids.TheVariants.{Chosen}
use Rattle.sqlite.specs.Rows.{Edited, Sourced}
use Rattle.sqlite.specs.Tree.{Trees, with_tree}
use Rattle.sqlite.specs.View.{IsStorableRow}
use Rattle.sqlite.specs.Change.{created, next_tree, is_used, automatics}
use Rattle.sqlite.specs.Does.{Does, MakesTable, MakesSequence, lacks_sequence}
use Rattle.sqlite.specs.Effect.{Database}
use Rattle.sqlite.specs.Listing.{understood}
use Rattle.sqlite.specs.Schema.{Schema}
use Rattle.sqlite.specs.State.{State, ExecutesInside, mode_of}
use Rattle.sqlite.specs.Table.{Table}
use Rattle.sqlite.proofs.Callers.{IsPlain, command_of, statement_of}
use Rattle.sqlite_schema.specs.Rules.{table_reals, index_reals, passes}
use Rattle.sqlite_schema.specs.declared.schema.Constraint.TheVariants.{Datatype, NotNull, Check, PrimaryKey, Unique, ForeignKey}
use Rattle.sqlite_schema.specs.declared.schema.Keys.TheVariants.{Enforced}
use Rattle.sqlite_rules.specs.Lists.{Has}
use Rattle.sqlite_rules.specs.declared.error.Refusal.{Refusal as Rules}
use Rattle.sqlite_rules.specs.declared.error.Refusal.TheVariants.{Violates as Broken, Mismatch, NoRowid, BadReference, TooDeep}
use Rattle.sqlite_schema.specs.declared.schema.Index.{Index}
use Rattle.sqlite_catalog.specs.Calls.{RefusesTable, IsBadName}
use Rattle.sqlite_catalog.specs.Listing.{automatic, is_fit, is_formed}
use Rattle.sqlite_catalog.specs.declared.error.Refusal.{Refusal}
use Rattle.sqlite_catalog.specs.declared.error.Refusal.TheVariants.{Invalid, NameTaken, BadName, TooBig, BadKey, BadText, Violates}
use Rattle.sqlite_tied.specs.Compute.{everything}
use Rattle.fv_store_tables.specs.Tables.{about_text, record_text, object_text, about, record_table, object_table, no_schema, bare_schema, half_schema, store_schema}
use Rattle.fv_store_tables.specs.Stands.{about_row, head_row, part_row, tables_of}
use Rattle.fv_store_tables.specs.Causes.{IsExcused, IsShortAbout}
use Rattle.fv_store_tables.specs.Creating.{IsBlank, IsBare, IsHalf, IsMade, no_entries}
use Rattle.fv_store_tables.proofs.Texts.{IsWhole, about_is, record_is, object_is, made_about_is, made_about_plain, made_about_whole, made_record_is, made_record_plain, made_record_whole, made_object_is, made_object_plain, made_object_whole, first_text, first_terms, first_is, first_plain, first_whole, first_accepted}
use Rattle.fv_store_tables.proofs.Cascade.{works_put_one}
use Rattle.fv_store_tables.proofs.Removes.{same_value}
use Rattle.fv_store_tables.proofs.Inserts.{cast_null}
use Rattle.fv_store_tables.proofs.Updates.{cast_int}
use Rattle.fv_store_tables.proofs.Creates.{one_is_not_zero, three_is_not_zero, first_writes}
use Rattle.fv_store_tables.proofs.Objects.{owned}
use Rattle.fv_store_tables.proofs.Refusals.{never_steps, run_cause}
use Rattle.fv_store_tables.proofs.Rules.{AreApart, keys_apart}
use Rattle.fv_store_tables.proofs.Writes.{never_ok, never_false, never_edited, never_concluded, no_real}

-- what CREATE TABLE asks of a table and a schema
record CanMake (schema : Schema) (text : List ℕ) (table : Table) : Type 0 where
  defined : table_defined_by text ≡ Ok table
  utf8 : IsUtf8 text
  free : is_used schema table.name ≡ false
  indexes_free : (index : Index) → Has (automatics table 0 0 table.uniques) index → is_used schema index.name ≡ false
  named : IsBadName table.name (length table.uniques == 0) → ⊥
  trees : next_tree schema + length table.uniques < 65536
  reals : table_reals table < 2 ^ 64
  index_bits : (key : List ℕ) → Has table.uniques key → index_reals (table_reals table) key < 2 ^ 64
  formed : is_formed table ≡ true
  fit : is_fit (Text (codes "table")) (Text table.name) (Text table.name) (Text text) ≡ true
  short : 2 * length table.name + length text + 200 < 10 ^ 9
  uncounted : lacks_sequence (created schema table) ≡ false

module _ (schema : Schema) (text : List ℕ) (table : Table) (can : CanMake schema text table) where
  same : (other : Table) → table_defined_by text ≡ Ok other → table ≡ other
  same other is = same_value (sym can.defined ∙ is)

  never_refused : (why : Refusal) → RefusesTable schema text why → ⊥
  never_refused (Invalid e) h = never_ok (sym h ∙ can.defined)
  never_refused NameTaken (other, is, inl used) = never_false (sym (subst (λ (t : Table). is_used schema t.name ≡ true) (sym (same other is)) used) ∙ can.free)
  never_refused NameTaken (other, is, inr (index, there, used)) =
      never_false (sym used ∙ can.indexes_free index (subst (λ (t : Table). Has (automatics t 0 0 t.uniques) index) (sym (same other is)) there))
  never_refused BadName (other, is, bad) = can.named (subst (λ (t : Table). IsBadName t.name (length t.uniques == 0)) (sym (same other is)) bad)
  never_refused TooBig (other, is, inl big) = let many = subst (λ (t : Table). 65536 ≤ next_tree schema + length t.uniques) (sym (same other is)) big in omega (arith, many, can.trees)
  never_refused TooBig (other, is, inr (inl big)) = let many = subst (λ (t : Table). 2 ^ 64 ≤ table_reals t) (sym (same other is)) big in omega (arith, many, can.reals)
  never_refused TooBig (other, is, inr (inr (key, there, big))) =
      let has = subst (λ (t : Table). Has t.uniques key) (sym (same other is)) there in
      let many = subst (λ (t : Table). 2 ^ 64 ≤ index_reals (table_reals t) key) (sym (same other is)) big in
      omega (arith, many, can.index_bits key has)
  never_refused BadKey (other, is, bad) = never_false (sym (subst (λ (t : Table). is_formed t ≡ true) (same other is) can.formed) ∙ bad)
  never_refused BadText (other, is, bad) =
      never_false (sym (subst (λ (t : Table). is_fit (Text (codes "table")) (Text t.name) (Text t.name) (Text text) ≡ true) (same other is) can.fit) ∙ bad)
  never_refused (Violates rule) h = h

  module _ (db : Database) (has : db.schema ≡ schema) where
    never_made : (stop : Option Error) → MakesTable text db (Err stop) → ⊥
    never_made None (other, is, long) = let many = subst (λ (t : Table). 10 ^ 9 ≤ 2 * length t.name + length text + 200) (sym (same other is)) long in omega (arith, many, can.short)
    never_made (Some e) (inl (strange, _)) = strange can.utf8
    never_made (Some e) (inr (why, refused, _)) = never_refused why (subst (λ s. RefusesTable s text why) has refused)

    never_counted : (mid : Database) → MakesTable text db (Ok mid) → (stop : Option Error) → MakesSequence mid (Err stop) → ⊥
    never_counted mid made stop h =
        let is : mid.schema ≡ created schema table = made.is ∙ ap (λ s. created s made.table) has ∙ ap (created schema) (sym (same made.table made.defined)) in
        let bare : lacks_sequence mid.schema ≡ false = ap lacks_sequence is ∙ can.uncounted in
        never_ok (rw bare at h)

    never_created : (s : State) → (stop : Option Error) → Does s.step_limit (mode_of s) [] db text None CreateTable (Err stop) → ⊥
    never_created s stop (inl (st, inl (st', made, _), _)) = never_made st' made
    never_created s stop (inl (st, inr (mid, made, counted), _)) = never_counted mid made st counted
    never_created s stop (inr (after, made, wrong)) = never_ok wrong

  create_cause : (old new : State) (plain : IsPlain (understood schema text)) (whole : IsWhole text 0 (understood schema text)) (is : command_of (understood schema text) ≡ CreateTable)
      (own : statement_of text (understood schema text) ≡ text) (r : Result ℕ Error) → ExecutesInside 0 text [] old new r → IfErr r (λ e. old.now.schema ≡ schema → IsExcused old new e)
  create_cause old new plain whole is own (Ok count) h = tt
  create_cause old new plain whole is own (Err e) h = λ has refused.
      run_cause text [] old new schema has plain whole CreateTable is tt
      (λ stop does. never_created old.now has old stop (subst (λ t. Does old.step_limit (mode_of old) [] old.now t None CreateTable (Err stop)) own does)) e h refused

named_about : IsBadName (codes "about") true → ⊥
unfolding encode
named_about (inl strange) = strange (codes "about", (refl, refl))
named_about (inr own) = never_false own.1

named_record : IsBadName (codes "record") false → ⊥
unfolding everything encode
named_record (inl strange) = strange (codes "record", (refl, refl))
named_record (inr own) = never_false (sym own.0)

named_object : IsBadName (codes "object") false → ⊥
unfolding everything encode
named_object (inl strange) = strange (codes "object", (refl, refl))
named_object (inr own) = never_false (sym own.0)

record_index_free : is_used bare_schema (automatic record_table 0 (1 ∷ []) 0).name ≡ false
unfolding everything
record_index_free = refl

object_index_free : is_used half_schema (automatic object_table 0 (1 ∷ 2 ∷ []) 0).name ≡ false
unfolding everything
object_index_free = refl

can_about : CanMake no_schema about_text about
unfolding everything encode fits_kind is_free_name same_name begins value_cmp is_nan lt
can_about = record {
  defined = about_is;
  utf8 = (about_text, (refl, refl));
  free = refl;
  indexes_free = λ index never. absurd never;
  named = named_about;
  trees = omega arith;
  reals = omega arith;
  index_bits = λ key never. absurd never;
  formed = refl;
  fit = refl;
  short = omega arith;
  uncounted = refl;
}

can_record : CanMake bare_schema record_text record_table
unfolding everything encode fits_kind is_free_name same_name begins value_cmp is_nan lt
can_record = record {
  defined = record_is;
  utf8 = (record_text, (refl, refl));
  free = refl;
  indexes_free = λ index there. elim there [ inl is ↦ rw is record_index_free | inr never ↦ absurd never ];
  named = named_record;
  trees = omega arith;
  reals = omega arith;
  index_bits = λ key there. elim there [ inl is ↦ rw is (omega arith) | inr never ↦ absurd never ];
  formed = refl;
  fit = refl;
  short = omega arith;
  uncounted = refl;
}

can_object : CanMake half_schema object_text object_table
unfolding everything encode fits_kind is_free_name same_name begins value_cmp is_nan lt
can_object = record {
  defined = object_is;
  utf8 = (object_text, (refl, refl));
  free = refl;
  indexes_free = λ index there. elim there [ inl is ↦ rw is object_index_free | inr never ↦ absurd never ];
  named = named_object;
  trees = omega arith;
  reals = omega arith;
  index_bits = λ key there. elim there [ inl is ↦ rw is (omega arith) | inr never ↦ absurd never ];
  formed = refl;
  fit = refl;
  short = omega arith;
  uncounted = refl;
}

pub about_cause : (old new : State) (r : Result ℕ Error) → ExecutesInside 0 about_text [] old new r → IfErr r (λ e. IsBlank old.now → IsExcused old new e)
about_cause old new = create_cause no_schema about_text about can_about old new made_about_plain made_about_whole made_about_is.0 made_about_is.1

pub record_cause : (old new : State) (r : Result ℕ Error) → ExecutesInside 0 record_text [] old new r → IfErr r (λ e. (rows : List Row) → IsBare rows old.now → IsExcused old new e)
record_cause old new (Ok count) h = tt
record_cause old new (Err e) h = λ rows has. create_cause bare_schema record_text record_table can_record old new made_record_plain made_record_whole made_record_is.0 made_record_is.1 (Err e) h has.0

pub object_cause : (old new : State) (r : Result ℕ Error) → ExecutesInside 0 object_text [] old new r → IfErr r (λ e. (rows : List Row) → IsHalf rows old.now → IsExcused old new e)
object_cause old new (Ok count) h = tt
object_cause old new (Err e) h = λ rows has. create_cause half_schema object_text object_table can_object old new made_object_plain made_object_whole made_object_is.0 made_object_is.1 (Err e) h has.0

-- ---- a row of `about` fits

pub about_checked : (db : Trees) (version : ℕ) (declarations : List ℕ) → list_all (passes Check store_schema db about) (about_row version declarations ∷ []) ≡ true
unfolding everything binary value_cmp is_nan lt
about_checked db version declarations = refl

fits_about : (version : ℕ) (declarations : List ℕ) → IsShortAbout declarations → IsStorableRow 0 (about_row version declarations)
unfolding is_nan
fits_about version declarations short = (
  record {
    typed = λ c real. no_real c real;
    columns = (omega arith, omega arith);
    numbers = All-from_recursion (λ v. NotNan (number v)) (about_row version declarations) (tt, (tt, (tt, (tt, tt))));
    short = omega (arith, short);
  },
  omega arith,
)

pub about_small : (version : ℕ) (declarations : List ℕ) → IsShortAbout declarations → (r : Row) → Has (about_row version declarations ∷ []) r → IsOversized store_schema about r → ⊥
about_small version declarations short r (inr never) big = never
about_small version declarations short r (inl is) (inl big) = big (subst (IsStorableRow 0) (sym is) (fits_about version declarations short))
about_small version declarations short r (inl is) (inr (i, inr (inr never), of, big)) = never
about_small version declarations short r (inl is) (inr (i, inr (inl two), of, big)) = three_is_not_zero (ap (λ (x : Index). x.table) (sym two) ∙ of)
about_small version declarations short r (inl is) (inr (i, inl one, of, big)) = one_is_not_zero (ap (λ (x : Index). x.table) (sym one) ∙ of)

-- ---- the first row of `about`

abbrev first_edit : List ℕ → Edit
first_edit declarations = record { table = about; gone = []; news = about_row 2 declarations ∷ [] }

module _ (db : Trees) (no_about : db 0 ≡ []) (no_record : db 1 ≡ []) (no_object : db 3 ≡ []) (declarations : List ℕ) where
  abbrev row : Row
  row = about_row 2 declarations

  first_allowed : (why : Rules) → IsRefused store_schema Enforced db (first_edit declarations) why → ⊥
  unfolding names.same_name joined
  first_allowed (Broken Datatype) h = never_false h
  first_allowed (Broken NotNull) h = never_false h
  first_allowed (Broken Check) h = never_false (sym (about_checked db 2 declarations) ∙ h)
  first_allowed (Broken PrimaryKey) h = never_false (sym (ap (λ rows. are_fresh rows (row ∷ [])) no_about) ∙ h)
  first_allowed (Broken Unique) h = h (keys_apart (with_tree db 0 (put_all (db 0) (row ∷ [])))
      (subst (AreApart head_row) (sym no_record) (record { shape = λ r there. absurd there; once = λ i n k v w there. absurd there }))
      (subst (AreApart part_row) (sym no_object) (record { shape = λ r there. absurd there; once = λ i n k v w there. absurd there })))
  first_allowed (Broken ForeignKey) h = h
  first_allowed Mismatch h = never_false h
  first_allowed NoRowid h = never_false h
  first_allowed BadReference h = never_false h
  first_allowed TooDeep h = h

module _ (s : State) (none : s.step_limit ≡ None) (declarations : List ℕ) (no_about : s.now.trees 0 ≡ []) (no_record : s.now.trees 1 ≡ []) (no_object : s.now.trees 3 ≡ []) (short : IsShortAbout declarations) where
  abbrev trees : Trees
  trees = s.now.trees

  abbrev params : Row
  params = Blob declarations ∷ []

  never_sourced : (stop : Option Error) → Sourced s.step_limit (record { schema = store_schema; trees = trees }) params (Values first_terms 4) (Err stop) → ⊥
  never_sourced None h = h
  never_sourced (Some e) (inl h) = never_false (sym (first_accepted declarations) ∙ h.1)
  never_sourced (Some e) (inr h) = never_steps s.step_limit none h.1

  never_first : (sql : List ℕ) (stop : Option Error) → Does s.step_limit (mode_of s) params (record { schema = store_schema; trees = trees }) sql None (Insert 0 (Values first_terms 4)) (Err stop) → ⊥
  never_first sql stop (inl (st, inl (st', sourced, _), _)) = never_sourced st' sourced
  never_first sql stop (inl (st, inr (rows, given, inl (st', wrong, _)), _)) = never_ok wrong
  never_first sql stop (inl (st, inr (rows, given, inr (counter, counted, inl (st', edited, _))), _)) =
      let row = about_row 2 declarations in
      let news : numbered Chosen (trees 0) (map (λ r. cast_row about (drop 0 r)) rows) ≡ row ∷ [] =
      ap (λ all. numbered Chosen (trees 0) (map (λ r. cast_row about (drop 0 r)) all)) given.1 ∙ rw (cast_int (pos 1), cast_null, cast_int (pos 2)) refl in
      let is = ap (λ all. record { table = about; gone = []; news = all }) news in
      never_edited trees (first_edit declarations) (works_put_one 0 [] (row ∷ []) row refl) (first_allowed trees no_about no_record no_object declarations) (about_small 2 declarations short) st'
      (subst (λ (edit : Edit). Edited store_schema Enforced trees edit (Err st')) is edited)
  never_first sql stop (inl (st, inr (rows, given, inr (counter, counted, inr (next, edited, inl (st', wrong, _)))), _)) = never_ok wrong
  never_first sql stop (inl (st, inr (rows, given, inr (counter, counted, inr (next, edited, inr (after, kept, wrong)))), _)) = never_ok wrong
  never_first sql stop (inr (w, inserted, concluded)) =
      never_concluded s about params w (about_row 2 declarations ∷ []) (tables_of no_entries) (first_writes s.step_limit trees declarations no_about no_record no_object w inserted) (owned no_entries) stop concluded

pub first_cause : (old new : State) → old.step_limit ≡ None → (declarations : List ℕ) (r : Result ℕ Error) → ExecutesInside 0 first_text (Blob declarations ∷ []) old new r
    → IfErr r (λ e. IsMade [] old.now → IsShortAbout declarations → IsExcused old new e)
first_cause old new none declarations (Ok count) h = tt
first_cause old new none declarations (Err e) h = λ has short refused.
    let params = Blob declarations ∷ [] in
    let command = Insert 0 (Values first_terms 4) in
    let text = statement_of first_text (understood store_schema first_text) in
    run_cause first_text params old new store_schema has.0 first_plain first_whole command first_is tt
    (λ stop does. never_first old none declarations has.1 has.2 has.3 short text stop (subst (λ sc. Does old.step_limit (mode_of old) params (record old.now { schema = sc }) text None command (Err stop)) has.0 does))
    e h refused
