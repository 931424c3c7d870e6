-- The records that the two tables keep.
use Rattle.std.specs.Prelude.{◌≡◌, ◌⊎◌, ◌≤◌, ◌&&◌, ℕ, ℤ, pos, Bool, IsTrue, IsUtf8, if◌then◌else◌, bytes_eq, List, [], ◌∷◌, Option, Some, None, IsSome}
use Rattle.sqlite.specs.declared.types.Value.TheVariants.{Null, Int, Text as Words, Blob as Raw}
use Rattle.sqlite.specs.Order.{Row}
use Rattle.sqlite.specs.Effect.{Database}
use Rattle.sqlite.specs.Disk.{MoreFaults}
use Rattle.sqlite.specs.State.{State, HasCleanDisk}
use Rattle.fv_store_tables.specs.Rows.{HasRows}
use Rattle.fv_store_tables.specs.Tables.{store_schema}

-- what a row of `record` keeps beside the id
pub record Head : Type 0 where
  pub form : List ℕ
  pub root : List ℕ

-- what a row of `object` keeps beside the id and the object's name
pub record ObjectTexts : Type 0 where
  pub kind : List ℕ
  pub fields : List ℕ

-- a record's id and an object's name
abbrev pub ObjectKey : Type 0
ObjectKey = List ℕ × List ℕ

-- the same place, by bytes
abbrev pub same_place : ObjectKey → ObjectKey → Bool
same_place a b = bytes_eq a.0 b.0 && bytes_eq a.1 b.1

-- ---- the tables as maps

-- what the two tables keep, each as a map
pub record Maps : Type 0 where
  pub heads : List ℕ → Option Head
  pub parts : ObjectKey → Option ObjectTexts

-- the record of that id has this head
abbrev pub with_head : List ℕ → Head → (List ℕ → Option Head) → List ℕ → Option Head
with_head id h m other = if bytes_eq other id then Some h else m other

-- no record has that id
abbrev pub without_head : List ℕ → (List ℕ → Option Head) → List ℕ → Option Head
without_head id m other = if bytes_eq other id then None else m other

-- the object there is this one
abbrev pub with_part : ObjectKey → ObjectTexts → (ObjectKey → Option ObjectTexts) → ObjectKey → Option ObjectTexts
with_part at p m other = if same_place other at then Some p else m other

-- no object of this record
abbrev pub without_parts : List ℕ → (ObjectKey → Option ObjectTexts) → ObjectKey → Option ObjectTexts
without_parts id m other = if bytes_eq other.0 id then None else m other

-- no object is there
abbrev pub without_part : ObjectKey → (ObjectKey → Option ObjectTexts) → ObjectKey → Option ObjectTexts
without_part at m other = if same_place other at then None else m other

-- a record is taken out, with its objects
abbrev pub removed : List ℕ → Maps → Maps
removed id t = record { heads = without_head id t.heads; parts = without_parts id t.parts }

-- a record has this head
abbrev pub put : List ℕ → Head → Maps → Maps
put id h t = record { heads = with_head id h t.heads; parts = t.parts }

-- an object is this one
abbrev pub added : ObjectKey → ObjectTexts → Maps → Maps
added at p t = record { heads = t.heads; parts = with_part at p t.parts }

-- an object is taken out, if it is there
abbrev pub dropped : ObjectKey → Maps → Maps
dropped at t = record { heads = t.heads; parts = without_part at t.parts }

-- each object has its record
abbrev pub IsOwned : Maps → Type 0
IsOwned t = (at : ObjectKey) (p : ObjectTexts) → t.parts at ≡ Some p → IsSome (t.heads at.0)

-- ---- rows

-- a row of `record`: its rowid, the id, the form and the root's name
abbrev pub head_row : ℤ → List ℕ → Head → Row
head_row n id h = Int n ∷ Words id ∷ Words h.form ∷ Words h.root ∷ []

-- a row of `object`: its rowid, the record's id, the object's name, its type's name and its fields
abbrev pub part_row : ℤ → ObjectKey → ObjectTexts → Row
part_row n at p = Int n ∷ Words at.0 ∷ Words at.1 ∷ Words p.kind ∷ Words p.fields ∷ []

-- what a row keeps as text is text
abbrev pub IsTextHead : List ℕ → Head → Type 0
IsTextHead id h = IsUtf8 id × IsUtf8 h.form × IsUtf8 h.root

-- and so is what a row of `object` keeps
abbrev pub IsTextPart : ObjectKey → ObjectTexts → Type 0
IsTextPart at p = IsUtf8 at.0 × IsUtf8 at.1 × IsUtf8 p.kind × IsUtf8 p.fields

-- the row of `about`: its key stands for the rowid and is kept as NULL
abbrev pub about_row : ℕ → List ℕ → Row
about_row version declarations = Int (pos 1) ∷ Null ∷ Int (pos version) ∷ Raw declarations ∷ []

-- the tables of version 2, with these rows of `about` and the rows of both maps
pub record SpellsTables (db : Database) (rows : List Row) (t : Maps) : Type 0 where
  pub schema : db.schema ≡ store_schema
  pub about : db.trees 0 ≡ rows
  pub heads : HasRows head_row IsTextHead (db.trees 1) t.heads
  pub parts : HasRows part_row IsTextPart (db.trees 3) t.parts

-- ---- records

-- a record: its form, its root, and its objects with their names
pub record Entry : Type 0 where
  pub form : List ℕ
  pub root : List ℕ
  pub objects : List (List ℕ × ObjectTexts)

-- records by their ids
abbrev pub TableEntries : Type 0
TableEntries = List ℕ → Option Entry

-- the record of that id is this one
abbrev pub with_entry : List ℕ → Entry → TableEntries → TableEntries
with_entry id k m other = if bytes_eq other id then Some k else m other

-- no record has that id
abbrev pub without_entry : List ℕ → TableEntries → TableEntries
without_entry id m other = if bytes_eq other id then None else m other

-- the first object of that name
abbrev pub part_at : List ℕ → List (List ℕ × ObjectTexts) → Option ObjectTexts
part_at name [] = None
part_at name (o ∷ os) = if bytes_eq name o.0 then Some o.1 else part_at name os

-- what `record` keeps of a record
abbrev pub head_of : Option Entry → Option Head
head_of None = None
head_of (Some k) = Some (record { form = k.form; root = k.root })

-- what `object` keeps of its object of that name
abbrev pub object_texts : List ℕ → Option Entry → Option ObjectTexts
object_texts name None = None
object_texts name (Some k) = part_at name k.objects

-- what the tables keep of records
abbrev pub tables_of : TableEntries → Maps
tables_of m = record { heads = λ id. head_of (m id); parts = λ at. object_texts at.1 (m at.0) }

-- the database has the tables of version 2, with these rows in `about`, and stands for the records
abbrev pub TablesStand : Database → List Row → TableEntries → Type 0
TablesStand db rows m = SpellsTables db rows (record { heads = λ id. head_of (m id); parts = λ at. object_texts at.1 (m at.0) })

-- ---- connections

-- What a connection outside a transaction stands for, now and as committed. It says nothing once the disk has lied or has shut the connection.
abbrev pub Keeps : State → List Row → TableEntries → Type 0
Keeps s d m = HasCleanDisk s → IsTrue s.is_open → TablesStand s.now d m × TablesStand s.committed d m

-- nothing waits to be committed
abbrev pub IsSettled : State → Type 0
IsSettled s = IsTrue s.is_open → s.now ≡ s.committed

-- open, unless the disk has lied
abbrev pub IsLive : State → Type 0
IsLive s = HasCleanDisk s → IsTrue s.is_open

-- the database is as it was, unless the disk has lied or has shut the connection
abbrev pub Stays : State → State → Type 0
Stays old new = HasCleanDisk new → IsTrue new.is_open → HasCleanDisk old × IsTrue old.is_open × (new.now ≡ old.now) × (new.committed ≡ old.committed)

-- The frame of a call on a connection, whatever it answers: a disk that is clean now was clean before, and then a connection that is open
-- now was open before.
pub record Frame (old new : State) : Type 0 where
  pub clean : HasCleanDisk new → HasCleanDisk old
  pub was_open : HasCleanDisk new → IsTrue new.is_open → IsTrue old.is_open
  -- no fault is forgotten
  pub counts : old.faults ≤ new.faults
  -- an open connection is shut only with more faults
  pub closes : HasCleanDisk new → IsTrue old.is_open → IsTrue new.is_open ⊎ MoreFaults old.faults new.faults

-- ---- what queries show

-- what a query shows of a record's head
abbrev pub shown_head : Head → Row
shown_head h = Words h.form ∷ Words h.root ∷ []

-- what a query shows of an object
abbrev pub shown_part : List ℕ × ObjectTexts → Row
shown_part o = Words o.0 ∷ Words o.1.kind ∷ Words o.1.fields ∷ []

-- an object with the rowid of its row
abbrev pub NumberedThing : Type 0
NumberedThing = ℤ × (List ℕ × ObjectTexts)

-- what a query shows of both
abbrev pub shown_row : NumberedThing → Row
shown_row r = Words r.1.0 ∷ Words r.1.1.kind ∷ Words r.1.1.fields ∷ Int r.0 ∷ []

-- a record's form and its root's name are text
abbrev pub IsTextOfHead : Head → Type 0
IsTextOfHead h = IsUtf8 h.form × IsUtf8 h.root

-- an object's name, its type's name and its fields are text
abbrev pub IsTextObject : List ℕ × ObjectTexts → Type 0
IsTextObject o = IsUtf8 o.0 × IsUtf8 o.1.kind × IsUtf8 o.1.fields

-- the same of an object with a rowid
abbrev pub IsTextRow : NumberedThing → Type 0
IsTextRow r = IsTextObject r.1

-- no row where there is no record, and else a first row that shows its head
abbrev pub ShowsHead : List Row → Option Head → Type 0
ShowsHead [] o = o ≡ None
ShowsHead (row ∷ rows) o = (h : Head) × (o ≡ Some h) × (row ≡ shown_head h) × IsTextOfHead h
