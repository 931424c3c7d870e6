-- The tables, as their texts define them.
use Rattle.std.specs.Prelude.{Bool, true, false, [], ◌∷◌, ◌++◌, Some, codes, List, ℕ, pos}
use Rattle.sqlite.specs.Term.{lit, col, op2}
use Rattle.sqlite_sql.specs.declared.ops.BinaryOp.TheVariants.{Compare}
use Rattle.sqlite_sql.specs.declared.ops.CompareOp.TheVariants.{Eq}
use Rattle.sqlite.specs.Collation.TheVariants.{Binary}
use Rattle.sqlite.specs.declared.types.Value.TheVariants.{Null, Int}
use Rattle.sqlite.specs.Table.{Table}
use Rattle.sqlite.specs.Change.{created}
use Rattle.sqlite.specs.Schema.{Schema}
use Rattle.sqlite.specs.Kind.{Kind}
use Rattle.sqlite.specs.Kind.TheVariants.{Integer, Text, Any}
use Rattle.sqlite_schema.specs.declared.schema.Action.TheVariants.{NoAction, Cascade}
use Rattle.sqlite_schema.specs.declared.schema.Column.{Column}
use Rattle.sqlite_resolve.specs.Define.{empty}

-- the text that makes `about`, which keeps the version and the declarations
abbrev pub about_text : List ℕ
about_text = codes "CREATE TABLE about (one INTEGER PRIMARY KEY CHECK (one = 1), version INTEGER NOT NULL, declarations BLOB NOT NULL)"

-- the text that makes `record`, with a row for each record
abbrev pub record_text : List ℕ
record_text = codes "CREATE TABLE record (id TEXT NOT NULL PRIMARY KEY, form TEXT NOT NULL, root TEXT NOT NULL)"

-- the text that makes `object`, with a row for each object of a record
abbrev pub object_text : List ℕ
object_text =
    codes "CREATE TABLE object (rec TEXT NOT NULL REFERENCES record (id) ON DELETE CASCADE, "
    ++ codes "name TEXT NOT NULL, kind TEXT NOT NULL, fields TEXT NOT NULL, PRIMARY KEY (rec, name))"

-- a column without a default, whose texts are compared byte by byte
abbrev pub column : List ℕ → Kind → Bool → Column
column name kind not_null = record { name = name; kind = kind; is_strict = false; not_null = not_null; default = Null; collation = Binary }

-- a column of text, never NULL
abbrev pub words : List ℕ → Column
words name = column name Text true

-- a table of these columns, whose key is of those of these numbers
abbrev pub keyed : List ℕ → List Column → List ℕ → Table
keyed name columns key = record (empty name []) { columns = columns; primary = key; uniques = key ∷ []; orders = (record { digits = 0 }) ∷ [] }

-- what the text that makes `about` defines
abbrev pub about : Table
about = record (empty (codes "about") []) {
  columns = column (codes "one") Integer false ∷ column (codes "version") Integer true ∷ column (codes "declarations") Any true ∷ [];
  key = Some 0;
  primary = 0 ∷ [];
  checks = op2 (Compare Eq Binary) (col 1 0) (lit (Int (pos 1))) ∷ [];
}

-- what the text that makes `record` defines
abbrev pub record_table : Table
record_table = keyed (codes "record") (words (codes "id") ∷ words (codes "form") ∷ words (codes "root") ∷ []) (1 ∷ [])

-- what the text that makes `object` defines: its rows go with the row of `record` that they refer to
abbrev pub object_table : Table
object_table = record (keyed (codes "object") (words (codes "rec") ∷ words (codes "name") ∷ words (codes "kind") ∷ words (codes "fields") ∷ []) (1 ∷ 2 ∷ [])) {
  references = (record {
    columns = 1 ∷ [];
    parent = codes "record";
    parent_columns = codes "id" ∷ [];
    on_delete = Cascade;
    on_update = NoAction;
    is_deferred = false;
  }) ∷ [];
}

-- no table
abbrev pub no_schema : Schema
no_schema = record { tables = []; indexes = []; views = [] }

-- `about` alone
abbrev pub bare_schema : Schema
bare_schema = created no_schema about

-- and `record`
abbrev pub half_schema : Schema
half_schema = created bare_schema record_table

-- the tables of version 2
abbrev pub store_schema : Schema
store_schema = created (created (created no_schema about) record_table) object_table

-- `record` as it is kept: `about` is tree 0, `record` tree 1 and its index tree 2, `object` tree 3 and its index tree 4
abbrev pub kept_record : Table
kept_record = record record_table { tree = 1 }

-- `object` as it is kept
abbrev pub kept_object : Table
kept_object = record object_table { tree = 3 }
