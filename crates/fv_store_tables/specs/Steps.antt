-- What statements do to a database inside a transaction: to the records that the tables stand for, and to the maps that they spell.
use Rattle.std.specs.Prelude.{◌≡◌, ◌⊎◌, ◌+◌, IsTrue, IsSome, map, ℕ, ℤ, true, List, Some, None}
use Rattle.std.specs.List.{AllByRecursion}
use Rattle.sqlite.specs.Order.{Row}
use Rattle.sqlite.specs.Effect.{Database}
use Rattle.sqlite.specs.Held.{Held, state}
use Rattle.sqlite.specs.State.{State, HasCleanDisk}
use Rattle.sqlite_trees.specs.declared.store.Store.{Ghosts}
use Rattle.fv_store_tables.specs.Causes.{HasRooms}
use Rattle.sqlite_rules.specs.Lists.{Has}
use Rattle.fv_store_tables.specs.Changes.{NamedTexts, AllTexts, AreApart, has_object}
use Rattle.fv_store_tables.specs.Stands.{Maps, Head, ObjectKey, ObjectTexts, TableEntries, NumberedThing, SpellsTables, TablesStand, put, added, part_row, shown_row, IsTextRow}

-- inside a transaction: where the disk is clean behind a step, this holds of what the connection stands for before and behind it
abbrev pub Inside : {S : Type 0} → Ghosts S → Held S → Held S → (State → State → Type 0) → Type 0
Inside store old new Says = HasCleanDisk (state store new) → IsTrue (state store old).in_transaction → Says (state store old) (state store new)

-- to any records
abbrev pub Always : TableEntries → Type 0
Always m = Unit {0}

-- a statement was run inside a transaction, which is still open: nothing is committed, and the database has changed so
pub record Advances (old new : State) (Change : Database → Database → Type 0) : Type 0 where
  pub was_open : IsTrue new.is_open → IsTrue old.is_open
  pub mode : IsTrue new.in_transaction
  pub committed : new.committed ≡ old.committed
  pub change : Change old.now new.now

-- a change of the maps that the tables spell, where it applies to them; so many fewer rows have room then
abbrev pub Makes : ℕ → (Maps → Type 0) → (Maps → Maps) → Database → Database → Type 0
Makes taken Applies change old new =
    (d : List Row) (t : Maps) → SpellsTables old d t → Applies t → SpellsTables new d (change t) × ((n : ℕ) → HasRooms (n + taken) old → HasRooms n new)

-- no record of that id
abbrev pub Lacks : List ℕ → Maps → Type 0
Lacks id t = t.heads id ≡ None

-- the record of that id has this head
abbrev pub HasHead : List ℕ → Head → Maps → Type 0
HasHead id h t = t.heads id ≡ Some h

-- no object there
abbrev pub LacksPart : ObjectKey → Maps → Type 0
LacksPart at t = t.parts at ≡ None

-- an object there
abbrev pub HasPart : ObjectKey → Maps → Type 0
HasPart at t = (p : ObjectTexts) × (t.parts at ≡ Some p)

-- a change of the records, where it applies to them
abbrev pub Turns : ℕ → (TableEntries → Type 0) → (TableEntries → TableEntries) → Database → Database → Type 0
Turns taken Applies change old new =
    (d : List Row) (m : TableEntries) → TablesStand old d m → Applies m → TablesStand new d (change m) × ((n : ℕ) → HasRooms (n + taken) old → HasRooms n new)

-- to any maps
abbrev pub Anyhow : Maps → Type 0
Anyhow t = Unit {0}

-- So many rows of `record` were updated: one, where there is one of the id, which has this head since, and else none. No rowid is taken.
abbrev pub UpdatesHead : List ℕ → Head → ℕ → Database → Database → Type 0
UpdatesHead id h count old new =
    (d : List Row) (t : Maps) → SpellsTables old d t
    → ((Lacks id t × (count ≡ 0) × SpellsTables new d t) ⊎ (IsSome (t.heads id) × (count ≡ 1) × SpellsTables new d (put id h t)))
    × ((n : ℕ) → HasRooms n old → HasRooms n new)

-- the same of `object`
abbrev pub UpdatesPart : ObjectKey → ObjectTexts → ℕ → Database → Database → Type 0
UpdatesPart at p count old new =
    (d : List Row) (t : Maps) → SpellsTables old d t
    → ((LacksPart at t × (count ≡ 0) × SpellsTables new d t) ⊎ (HasPart at t × (count ≡ 1) × SpellsTables new d (added at p t)))
    × ((n : ℕ) → HasRooms n old → HasRooms n new)

-- no row of `object` has this rowid and is of the object there
abbrev pub LacksRow : ℤ → ObjectKey → Database → Type 0
LacksRow n at db = (p : ObjectTexts) → Has (db.trees 3) (part_row n at p) → ⊥

-- the same of the row of `object` under this rowid: where the object there has another rowid or none, nothing changes
abbrev pub UpdatesRow : ℤ → ObjectKey → ObjectTexts → ℕ → Database → Database → Type 0
UpdatesRow n at p count old new =
    (d : List Row) (t : Maps) → SpellsTables old d t
    → ((LacksRow n at old × (count ≡ 0) × SpellsTables new d t) ⊎ (HasPart at t × (count ≡ 1) × SpellsTables new d (added at p t)))
    × ((k : ℕ) → HasRooms k old → HasRooms k new)

-- these are the objects of the record
abbrev pub ArePartsOf : List ℕ → AllTexts → Maps → Type 0
ArePartsOf id os t =
    ((o : NamedTexts) → Has os o → t.parts (id, o.0) ≡ Some o.1)
    × ((name : List ℕ) (p : ObjectTexts) → t.parts (id, name) ≡ Some p → Has os (name, p))

-- each of these is a row of the record's objects
abbrev pub AreRowsOf : List ℕ → List NumberedThing → Database → Type 0
AreRowsOf id rs db = (r : ℤ × (List ℕ × ObjectTexts)) → Has rs r → Has (db.trees 3) (part_row r.0 (id, r.1.0) r.1.1)

-- the rows show them with their rowids, in some order, and they are text
abbrev pub ShowsParts : List ℕ → List Row → Database → Maps → Type 0
ShowsParts id rows db t =
    (rs : List NumberedThing) × (rows ≡ map shown_row rs) × AllByRecursion IsTextRow rs
    × AreRowsOf id rs db × ArePartsOf id (map (λ (r : ℤ × (List ℕ × ObjectTexts)). r.1) rs) t

-- if the object is the same as one of these, the record has it
abbrev pub IsThere : List ℕ → AllTexts → NamedTexts → Maps → Type 0
IsThere id there o t = has_object o there ≡ true → t.parts (id, o.0) ≡ Some o.1

-- no two objects have one name, and the record has each of them that is the same as one of those
abbrev pub AreThere : List ℕ → AllTexts → AllTexts → Maps → Type 0
AreThere id there os t = AreApart os × ((o : NamedTexts) → Has os o → IsThere id there o t)
