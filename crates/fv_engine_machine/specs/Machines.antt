-- The record machine, and what a call does to it.
use Rattle.std.specs.Prelude.{◌≡◌, ℕ, ◌-◌, ◌^◌, ℤ, pos, negsuc, List, [], ◌∷◌, Bool, min, nat_lt, if◌then◌else◌}
use Rattle.sqlite.specs.Edit.{id_in}
use Rattle.sqlite.specs.Effect.{Database}
use Rattle.sqlite.specs.Order.{Row}
use Rattle.sqlite.specs.State.{State, HasCleanDisk}
use Rattle.sqlite.specs.Tree.{rowid}
use Rattle.fv_declare_schema.specs.Declarations.{Declarations}
use Rattle.fv_store.specs.Records.{Records, Contents}
use Rattle.fv_store.specs.Stands.{HoldsRecords}

-- What is declared and the records, as a map or as the connection to the database that keeps them; whether the connection is open; how often the
-- disk has failed; and the room for more rows: how many rowids there are from the highest of a row on, which counts too, in the table that has fewer.
pub record Machine (R : Type 0) : Type 0 where
  pub declared : Declarations
  pub records : R
  pub is_open : Bool
  pub faults : ℕ
  pub room : ℕ

-- how many rowids there are from this one up to 2 ^ 63 - 1, both counted: 2 ^ 63 at most, and none where the number is no rowid
abbrev pub rowids_from : ℤ → ℕ
rowids_from (pos n) = 2 ^ 63 - n
rowids_from (negsuc n) = if nat_lt n (2 ^ 63) then 2 ^ 63 else 0

-- the same from the highest rowid of these rows on
abbrev pub room_above : List Row → ℕ
room_above [] = 2 ^ 63
room_above (row ∷ rows) = min (rowids_from (id_in (rowid row))) (room_above rows)

-- the same in the table of records and in that of objects, whichever has fewer
abbrev pub room_in : Database → ℕ
room_in db = min (room_above (db.trees 1)) (room_above (db.trees 3))

-- the machine of these declarations and records, of which a connection says the rest
abbrev pub connected : {R : Type 0} → Declarations → R → State → Machine R
connected ds records connection = record {
  declared = ds;
  records = records;
  is_open = connection.is_open;
  faults = connection.faults;
  room = room_in connection.now;
}

-- the machine over a connection
abbrev pub over : {H : Type 0} → (H → State) → Declarations → H → Machine H
over held ds connection = connected ds connection (held connection)

-- the machine with these records in the place of the connection
abbrev pub with_map : {H : Type 0} → (H → State) → Machine H → Records → Machine Records
with_map held machine m = connected machine.declared m (held machine.records)

-- what a store keeps of declarations of these bytes, and these records
abbrev pub contents : List ℕ → Declarations → Records → Contents
contents bytes ds m = record { bytes = bytes; types = ds.types; roots = ds.forms; records = m }

-- its database stands for these records, under declarations of these bytes
abbrev pub StandsFor : {H : Type 0} → (H → State) → List ℕ → Machine H → Records → Type 0
StandsFor held bytes machine m = HoldsRecords (held machine.records) (contents bytes machine.declared m)

-- The old machine becomes the new one: what is declared stays, and where the disk is clean, the records that the old one stood for are in
-- the relation with those that the new one stands for.
pub record Becomes {H : Type 0} (held : H → State) (old new : Machine H) (relation : Machine Records → Machine Records → Type 0) : Type 0 where
  pub declared : new.declared ≡ old.declared
  pub clean : HasCleanDisk (held new.records) → HasCleanDisk (held old.records)
  pub related : HasCleanDisk (held new.records) → (bytes : List ℕ) (m : Records) → StandsFor held bytes old m
      → (n : Records) × relation (with_map held old m) (with_map held new n) × StandsFor held bytes new n
