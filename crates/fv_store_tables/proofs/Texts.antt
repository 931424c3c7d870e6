-- What the texts mean.
use Rattle.std.proofs.Common.{◌≡◌, ◌≤◌, ℕ, pos, negsuc, List, [], ◌∷◌, codes, length, true, false, Ok, Err, Result, None, refl, lit≤}
use Rattle.sqlite.specs.Compile.{table_defined_by}
use Rattle.sqlite.specs.Term.{Term, lit, col, op2}
use Rattle.sqlite_sql.specs.declared.ops.BinaryOp.TheVariants.{Compare}
use Rattle.sqlite_sql.specs.declared.ops.CompareOp.TheVariants.{Eq, Gt}
use Rattle.sqlite.specs.Collation.TheVariants.{Binary}
use Rattle.sqlite.specs.Query.{Query, inner, end}
use Rattle.sqlite.specs.Order.{Row}
use Rattle.sqlite.specs.declared.types.Value.TheVariants.{Null, Int, Text as Words, Blob}
use Rattle.sqlite.specs.Source.TheVariants.{Values}
use Rattle.sqlite.specs.Command.TheVariants.{Insert, Select, Delete, Update, CreateTable}
use Rattle.sqlite_value.specs.declared.keys.Key.{Key}
use Rattle.sqlite_resolve.specs.declared.compiled.Compiled.{Compiled}
use Rattle.sqlite_resolve.specs.declared.error.CompileError.{CompileError}
use Rattle.sqlite_typing.specs.Types.{accepts_program, accepts_terms}
use Rattle.sqlite_tied.specs.Compute.{everything}
use Rattle.sqlite.specs.Listing.{understood, reads_listing}
use Rattle.sqlite.proofs.Callers.{IsPlain, command_of, statement_of}
use Rattle.fv_store_tables.specs.Tables.{about_text, record_text, object_text, about, record_table, object_table, no_schema, bare_schema, half_schema, store_schema}

-- the whole text is one statement, with so many parameters
abbrev pub IsWhole : List ℕ → ℕ → Result Compiled CompileError → Type 0
IsWhole sql given (Ok c) = (length sql ≤ c.tail) × (given ≡ length c.names)
IsWhole sql given (Err e) = ⊥

-- a query over one table, with no group and no DISTINCT
abbrev pub over_table : ℕ → List Term → List Term → List (Term × Key) → Term → Query
over_table tree terms shown order limit =
    record { from = inner tree end; filter = terms; group = None; project = shown; distinct = false; collations = []; order = order; limit = limit; offset = lit (Int (pos 0)) }

-- all of them, in no order
abbrev pub one_table : ℕ → List Term → List Term → Query
one_table tree tests shown = over_table tree tests shown [] (lit (Int (negsuc 0)))

-- the first column beside the rowid is ?1
abbrev pub by_first : List Term
by_first = op2 (Compare Eq Binary) (col 1 1) (col 0 0) ∷ []

-- the first two are ?1 and ?2
abbrev pub by_both : List Term
by_both = op2 (Compare Eq Binary) (col 1 1) (col 0 0) ∷ op2 (Compare Eq Binary) (col 1 2) (col 0 1) ∷ []

-- ---- one record

abbrev pub remove_text : List ℕ
remove_text = codes "DELETE FROM record WHERE id = ?1"

abbrev pub remove_query : Query
remove_query = one_table 1 by_first (col 1 0 ∷ [])

pub remove_is : command_of (understood store_schema remove_text) ≡ Delete 1 (record { lets = []; body = remove_query })
unfolding understood everything
remove_is = refl

pub remove_plain : IsPlain (understood store_schema remove_text)
unfolding understood everything
remove_plain = (refl, refl)

pub remove_whole : IsWhole remove_text 1 (understood store_schema remove_text)
unfolding understood everything
remove_whole = (lit≤ tt, refl)

abbrev pub put_terms : List Term
put_terms = lit Null ∷ col 0 0 ∷ col 0 1 ∷ col 0 2 ∷ []

abbrev pub put_text : List ℕ
put_text = codes "INSERT INTO record (id, form, root) VALUES (?1, ?2, ?3)"

pub put_is : command_of (understood store_schema put_text) ≡ Insert 1 (Values put_terms 4)
unfolding understood everything
put_is = refl

pub put_plain : IsPlain (understood store_schema put_text)
unfolding understood everything
put_plain = (refl, refl)

pub put_whole : IsWhole put_text 3 (understood store_schema put_text)
unfolding understood everything
put_whole = (lit≤ tt, refl)

abbrev pub change_terms : List Term
change_terms = col 1 0 ∷ col 1 0 ∷ col 1 1 ∷ col 0 1 ∷ col 0 2 ∷ []

abbrev pub change_text : List ℕ
change_text = codes "UPDATE record SET form = ?2, root = ?3 WHERE id = ?1"

abbrev pub change_query : Query
change_query = one_table 1 by_first change_terms

pub change_is : command_of (understood store_schema change_text) ≡ Update 1 (record { lets = []; body = change_query })
unfolding understood everything
change_is = refl

pub change_plain : IsPlain (understood store_schema change_text)
unfolding understood everything
change_plain = (refl, refl)

pub change_whole : IsWhole change_text 3 (understood store_schema change_text)
unfolding understood everything
change_whole = (lit≤ tt, refl)

-- ---- one object

-- the rowid of the row, and then the whole new row
abbrev pub set_terms : List Term
set_terms = col 1 0 ∷ col 1 0 ∷ col 1 1 ∷ col 1 2 ∷ col 0 2 ∷ col 0 3 ∷ []

abbrev pub set_text : List ℕ
set_text = codes "UPDATE object SET kind = ?3, fields = ?4 WHERE rec = ?1 AND name = ?2"

abbrev pub set_query : Query
set_query = one_table 3 by_both set_terms

pub set_is : command_of (understood store_schema set_text) ≡ Update 2 (record { lets = []; body = set_query })
unfolding understood everything
set_is = refl

pub set_plain : IsPlain (understood store_schema set_text)
unfolding understood everything
set_plain = (refl, refl)

pub set_whole : IsWhole set_text 4 (understood store_schema set_text)
unfolding understood everything
set_whole = (lit≤ tt, refl)

-- the rowid is ?1, and the first two columns beside it are ?2 and ?3
abbrev pub by_row : List Term
by_row = op2 (Compare Eq Binary) (col 1 0) (col 0 0) ∷ op2 (Compare Eq Binary) (col 1 1) (col 0 1) ∷ op2 (Compare Eq Binary) (col 1 2) (col 0 2) ∷ []

abbrev pub row_terms : List Term
row_terms = col 1 0 ∷ col 1 0 ∷ col 1 1 ∷ col 1 2 ∷ col 0 3 ∷ col 0 4 ∷ []

abbrev pub row_text : List ℕ
row_text = codes "UPDATE object SET kind = ?4, fields = ?5 WHERE rowid = ?1 AND rec = ?2 AND name = ?3"

abbrev pub row_query : Query
row_query = one_table 3 by_row row_terms

pub row_is : command_of (understood store_schema row_text) ≡ Update 2 (record { lets = []; body = row_query })
unfolding understood everything
row_is = refl

pub row_plain : IsPlain (understood store_schema row_text)
unfolding understood everything
row_plain = (refl, refl)

pub row_whole : IsWhole row_text 5 (understood store_schema row_text)
unfolding understood everything
row_whole = (lit≤ tt, refl)

abbrev pub drop_text : List ℕ
drop_text = codes "DELETE FROM object WHERE rec = ?1 AND name = ?2"

abbrev pub drop_query : Query
drop_query = one_table 3 by_both (col 1 0 ∷ [])

pub drop_is : command_of (understood store_schema drop_text) ≡ Delete 2 (record { lets = []; body = drop_query })
unfolding understood everything
drop_is = refl

pub drop_plain : IsPlain (understood store_schema drop_text)
unfolding understood everything
drop_plain = (refl, refl)

pub drop_whole : IsWhole drop_text 2 (understood store_schema drop_text)
unfolding understood everything
drop_whole = (lit≤ tt, refl)

-- ---- what is read

abbrev pub find_text : List ℕ
find_text = codes "SELECT form, root FROM record WHERE id = ?1"

abbrev pub find_query : Query
find_query = one_table 1 by_first (col 1 2 ∷ col 1 3 ∷ [])

pub find_is : command_of (understood store_schema find_text) ≡ Select (record { lets = []; body = find_query }) (codes "form" ∷ codes "root" ∷ [])
unfolding understood everything
find_is = refl

pub find_plain : IsPlain (understood store_schema find_text)
unfolding understood everything
find_plain = (refl, refl)

pub find_whole : IsWhole find_text 1 (understood store_schema find_text)
unfolding understood everything
find_whole = (lit≤ tt, refl)

pub find_unlisted : reads_listing store_schema find_text ≡ false
unfolding everything
find_unlisted = refl

abbrev pub by_name : List (Term × Key)
by_name = (col 1 2, record { collation = Binary; descending = false }) ∷ []

abbrev pub parts_text : List ℕ
parts_text = codes "SELECT name, kind, fields FROM object WHERE rec = ?1 ORDER BY name"

abbrev pub parts_query : Query
parts_query = over_table 3 by_first (col 1 2 ∷ col 1 3 ∷ col 1 4 ∷ []) by_name (lit (Int (negsuc 0)))

pub parts_is : command_of (understood store_schema parts_text) ≡ Select (record { lets = []; body = parts_query }) (codes "name" ∷ codes "kind" ∷ codes "fields" ∷ [])
unfolding understood everything
parts_is = refl

pub parts_plain : IsPlain (understood store_schema parts_text)
unfolding understood everything
parts_plain = (refl, refl)

pub parts_whole : IsWhole parts_text 1 (understood store_schema parts_text)
unfolding understood everything
parts_whole = (lit≤ tt, refl)

pub parts_unlisted : reads_listing store_schema parts_text ≡ false
unfolding everything
parts_unlisted = refl

abbrev pub objects_text : List ℕ
objects_text = codes "SELECT name, kind, fields, rowid FROM object WHERE rec = ?1 ORDER BY name"

-- the columns that it shows
abbrev pub objects_terms : List Term
objects_terms = col 1 2 ∷ col 1 3 ∷ col 1 4 ∷ col 1 0 ∷ []

abbrev pub objects_query : Query
objects_query = over_table 3 by_first objects_terms by_name (lit (Int (negsuc 0)))

abbrev pub objects_names : List (List ℕ)
objects_names = codes "name" ∷ codes "kind" ∷ codes "fields" ∷ codes "rowid" ∷ []

pub objects_is : command_of (understood store_schema objects_text) ≡ Select (record { lets = []; body = objects_query }) objects_names
unfolding understood everything
objects_is = refl

pub objects_plain : IsPlain (understood store_schema objects_text)
unfolding understood everything
objects_plain = (refl, refl)

pub objects_whole : IsWhole objects_text 1 (understood store_schema objects_text)
unfolding understood everything
objects_whole = (lit≤ tt, refl)

pub objects_unlisted : reads_listing store_schema objects_text ≡ false
unfolding everything
objects_unlisted = refl

-- ---- the tables are made

pub record_is : table_defined_by record_text ≡ Ok record_table
unfolding everything
record_is = refl

pub object_is : table_defined_by object_text ≡ Ok object_table
unfolding everything
object_is = refl

pub about_is : table_defined_by about_text ≡ Ok about
unfolding everything
about_is = refl

pub made_about_is : (command_of (understood no_schema about_text) ≡ CreateTable) × (statement_of about_text (understood no_schema about_text) ≡ about_text)
unfolding understood everything
made_about_is = (refl, refl)

pub made_about_plain : IsPlain (understood no_schema about_text)
unfolding understood everything
made_about_plain = (refl, refl)

pub made_about_whole : IsWhole about_text 0 (understood no_schema about_text)
unfolding understood everything
made_about_whole = (lit≤ tt, refl)

pub made_record_is : (command_of (understood bare_schema record_text) ≡ CreateTable) × (statement_of record_text (understood bare_schema record_text) ≡ record_text)
unfolding understood everything
made_record_is = (refl, refl)

pub made_record_plain : IsPlain (understood bare_schema record_text)
unfolding understood everything
made_record_plain = (refl, refl)

pub made_record_whole : IsWhole record_text 0 (understood bare_schema record_text)
unfolding understood everything
made_record_whole = (lit≤ tt, refl)

pub made_object_is : (command_of (understood half_schema object_text) ≡ CreateTable) × (statement_of object_text (understood half_schema object_text) ≡ object_text)
unfolding understood everything
made_object_is = (refl, refl)

pub made_object_plain : IsPlain (understood half_schema object_text)
unfolding understood everything
made_object_plain = (refl, refl)

pub made_object_whole : IsWhole object_text 0 (understood half_schema object_text)
unfolding understood everything
made_object_whole = (lit≤ tt, refl)

abbrev pub first_text : List ℕ
first_text = codes "INSERT INTO about (one, version, declarations) VALUES (1, 2, ?1)"

abbrev pub first_terms : List Term
first_terms = lit (Int (pos 1)) ∷ lit Null ∷ lit (Int (pos 2)) ∷ col 0 0 ∷ []

pub first_is : command_of (understood store_schema first_text) ≡ Insert 0 (Values first_terms 4)
unfolding understood everything
first_is = refl

pub first_plain : IsPlain (understood store_schema first_text)
unfolding understood everything
first_plain = (refl, refl)

pub first_whole : IsWhole first_text 1 (understood store_schema first_text)
unfolding understood everything
first_whole = (lit≤ tt, refl)

pub first_accepted : (declarations : List ℕ) → accepts_terms first_terms (Blob declarations ∷ []) ≡ true
unfolding everything
first_accepted declarations = refl

-- ---- the row of `about` is written anew

-- the text replaces each row of `about` by these terms, and is accepted with these parameters
pub record RenewMeans (text : List ℕ) (terms : List Term) (params : Row) : Type 0 where
  pub is : command_of (understood store_schema text) ≡ Update 0 (record { lets = []; body = one_table 0 [] terms })
  pub plain : IsPlain (understood store_schema text)
  pub whole : IsWhole text (length params) (understood store_schema text)
  pub accepted : accepts_program store_schema [] (one_table 0 [] terms) params ≡ true

abbrev pub declare_text : List ℕ
declare_text = codes "UPDATE about SET declarations = ?1"

-- the rowid of the row, and then the whole new row
abbrev pub declare_terms : List Term
declare_terms = col 1 0 ∷ col 1 0 ∷ lit Null ∷ col 1 2 ∷ col 0 0 ∷ []

pub declare_means : (declarations : List ℕ) → RenewMeans declare_text declare_terms (Blob declarations ∷ [])
unfolding understood everything
declare_means declarations = record { is = refl; plain = (refl, refl); whole = (lit≤ tt, refl); accepted = refl }

-- ---- the ids of records

-- the id is above this parameter
abbrev pub above_given : ℕ → Term
above_given n = op2 (Compare Gt Binary) (col 1 1) (col 0 n)

-- ascending by the id
abbrev pub by_id : List (Term × Key)
by_id = (col 1 1, record { collation = Binary; descending = false }) ∷ []

-- the ids of the rows that pass the tests
abbrev pub ids_where : List Term → Term → Query
ids_where tests limit = over_table 1 tests (col 1 1 ∷ []) by_id limit

-- the text shows them, and is accepted with these parameters
pub record IdsMean (text : List ℕ) (tests : List Term) (limit : Term) (params : Row) : Type 0 where
  pub is : command_of (understood store_schema text) ≡ Select (record { lets = []; body = ids_where tests limit }) (codes "id" ∷ [])
  pub plain : IsPlain (understood store_schema text)
  pub whole : IsWhole text (length params) (understood store_schema text)
  pub unlisted : reads_listing store_schema text ≡ false
  pub accepted : accepts_program store_schema [] (ids_where tests limit) params ≡ true

abbrev pub ids_text : List ℕ
ids_text = codes "SELECT id FROM record WHERE form = ?1 AND id > ?2 ORDER BY id LIMIT ?3"

abbrev pub ids_tests : List Term
ids_tests = op2 (Compare Eq Binary) (col 1 2) (col 0 0) ∷ above_given 1 ∷ []

pub ids_mean : (form above : List ℕ) (limit : ℕ) → IdsMean ids_text ids_tests (col 0 2) (Words form ∷ Words above ∷ Int (pos limit) ∷ [])
unfolding understood everything
ids_mean form above limit = record { is = refl; plain = (refl, refl); whole = (lit≤ tt, refl); unlisted = refl; accepted = refl }

abbrev pub all_ids_text : List ℕ
all_ids_text = codes "SELECT id FROM record WHERE id > ?1 ORDER BY id LIMIT ?2"

abbrev pub all_ids_tests : List Term
all_ids_tests = above_given 0 ∷ []

pub all_ids_mean : (above : List ℕ) (limit : ℕ) → IdsMean all_ids_text all_ids_tests (col 0 1) (Words above ∷ Int (pos limit) ∷ [])
unfolding understood everything
all_ids_mean above limit = record { is = refl; plain = (refl, refl); whole = (lit≤ tt, refl); unlisted = refl; accepted = refl }
