-- What changes make of the records, and of the tables.
use Rattle.std.specs.Prelude.{◌≡◌, ◌&&◌, ◌||◌, ℕ, Bool, false, List, [], ◌∷◌, map, bytes_eq, string_bytes, if◌then◌else◌, Option, Some, None}
use Rattle.std.specs.Cmp.Lexicographic.{slice_cmp}
use Rattle.std.specs.List.Sorted.{IsStrictlySortedBy}
use Rattle.std.specs.Ordering.{nat_cmp}
use Rattle.fv_store_tables.specs.Stands.{Head, ObjectTexts, Maps, Entry, TableEntries, NumberedThing, IsOwned, without_parts, put, added, dropped, removed}
use Rattle.fv_store_tables.specs.declared.entry.FoundRow.{FoundRow}
use Rattle.fv_store_tables.specs.declared.text.ObjectText.{ObjectText}

-- an object with its name
abbrev pub NamedTexts : Type 0
NamedTexts = List ℕ × ObjectTexts

-- objects by their names
abbrev pub AllTexts : Type 0
AllTexts = List NamedTexts

-- the names ascend by their bytes
abbrev pub IsNamed : AllTexts → Type 0
IsNamed os = IsStrictlySortedBy (slice_cmp nat_cmp) (map (λ (o : List ℕ × ObjectTexts). o.0) os)

-- ---- the tables

-- these objects of a record, one after another
abbrev pub all_added : List ℕ → AllTexts → Maps → Maps
all_added id [] t = t
all_added id (o ∷ os) t = all_added id os (added (id, o.0) o.1 t)

-- an object of that name is among these
abbrev pub has_name : List ℕ → AllTexts → Bool
has_name name [] = false
has_name name (o ∷ os) = bytes_eq o.0 name || has_name name os

-- the same name, the same type's name and the same fields
abbrev pub same_object : NamedTexts → NamedTexts → Bool
same_object a b = bytes_eq a.0 b.0 && (bytes_eq a.1.kind b.1.kind && bytes_eq a.1.fields b.1.fields)

-- the same object is among these
abbrev pub has_object : NamedTexts → AllTexts → Bool
has_object o [] = false
has_object o (x ∷ os) = same_object x o || has_object o os

-- the names of these
abbrev pub names_of : AllTexts → List (List ℕ)
names_of os = map (λ (o : List ℕ × ObjectTexts). o.0) os

-- no two have one name
abbrev pub AreApart : AllTexts → Type 0
AreApart [] = Unit {0}
AreApart (o ∷ os) = (has_name o.0 os ≡ false) × AreApart os

-- an object of a record is taken out, unless one of its name is among these
abbrev pub dropped_unless_kept : List ℕ → AllTexts → List ℕ → Maps → Maps
dropped_unless_kept id os name t = if has_name name os then t else dropped (id, name) t

-- the same of each of these names
abbrev pub others_dropped : List ℕ → AllTexts → List (List ℕ) → Maps → Maps
others_dropped id os [] t = t
others_dropped id os (name ∷ names) t = others_dropped id os names (dropped_unless_kept id os name t)

-- the objects of the record are these, one written after another where all others have gone
abbrev pub replaced : List ℕ → AllTexts → Maps → Maps
replaced id os t = all_added id os (record { heads = t.heads; parts = without_parts id t.parts })

-- the record of that id is this one, whatever was there
abbrev pub written : List ℕ → Head → AllTexts → Maps → Maps
written id h os t = all_added id os (put id h (removed id t))

-- no object of that record, and no two of these have one name
abbrev pub IsFree : List ℕ → AllTexts → Maps → Type 0
IsFree id os t = AreApart os × ((name : List ℕ) → t.parts (id, name) ≡ None)

-- each object has its record, and no two of these have one name
abbrev pub IsReady : AllTexts → Maps → Type 0
IsReady os t = AreApart os × IsOwned t

-- and there is no record of that id
abbrev pub IsNew : List ℕ → AllTexts → Maps → Type 0
IsNew id os t = IsReady os t × (t.heads id ≡ None)

-- ---- the records

-- the object of that name is this one, if there is one
abbrev pub with_object : List ℕ → ObjectTexts → AllTexts → AllTexts
with_object name p [] = []
with_object name p (o ∷ os) = if bytes_eq name o.0 then (o.0, p) ∷ os else o ∷ with_object name p os

-- the same of the objects of a record, if it is there
abbrev pub changed : List ℕ → ObjectTexts → Option Entry → Option Entry
changed name p None = None
changed name p (Some k) = Some (record { form = k.form; root = k.root; objects = with_object name p k.objects })

-- the object of that name of a record is this one, if there is one
abbrev pub with_part_of : List ℕ → List ℕ → ObjectTexts → TableEntries → TableEntries
with_part_of id name p m other = if bytes_eq other id then changed name p (m other) else m other

-- ---- as the code has them

-- an object with its name
abbrev pub object_view : ObjectText → List ℕ × ObjectTexts
object_view o = (o.name.now, record { kind = o.kind.now; fields = string_bytes o.fields })

-- objects with their names
abbrev pub objects_view : List ObjectText → AllTexts
objects_view os = map object_view os

-- an object that was found, with its name
abbrev pub found_object : FoundRow → List ℕ × ObjectTexts
found_object r = (r.name.now, record { kind = r.kind.now; fields = r.fields.now })

-- the same with the rowid of its row
abbrev pub found_view : FoundRow → NumberedThing
found_view r = (r.rowid, found_object r)

-- the objects that were found
abbrev pub found_objects : List FoundRow → AllTexts
found_objects rows = map found_object rows

-- the objects of each record are named
abbrev pub AllNamed : TableEntries → Type 0
AllNamed m = (id : List ℕ) (k : Entry) → m id ≡ Some k → IsNamed k.objects
