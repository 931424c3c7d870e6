-- Records by their ids.
use Rattle.std.specs.Prelude.{◌≡◌, ℕ, List, Option, Some, None, option_map, if◌then◌else◌}
use Rattle.std.specs.Str.{bytes_eq}
use Rattle.fv_datum.specs.Lookup.{at_name}
use Rattle.fv_bundle.specs.Types.{Declared}
use Rattle.fv_bundle.specs.Bundles.{Bundled, Thing}
use Rattle.fv_bundle.specs.Replaced.{changed_at}
use Rattle.fv_bundle.specs.WellTyped.{IsWellTyped, NamesObject}

-- a record: the name of its form, and its bundle
pub record Kept : Type 0 where
  pub form : List ℕ
  pub bundle : Bundled

-- the record of each id, where there is one
abbrev pub Records : Type 0
Records = List ℕ → Option Kept

-- no id has a record
abbrev pub no_records : Records
no_records id = None

-- the id has this record, and the others are as before
abbrev pub with_record : List ℕ → Kept → Records → Records
with_record id k m other = if bytes_eq other id then Some k else m other

-- the id has no record, and the others are as before
abbrev pub without_record : List ℕ → Records → Records
without_record id m other = if bytes_eq other id then None else m other

-- the record with this object in the place of that of its name; the same where there is none
abbrev pub with_thing : List ℕ → Thing → Kept → Kept
with_thing name t k = record { form = k.form; bundle = record { root = k.bundle.root; objects = changed_at name (λ _. t) k.bundle.objects } }

-- the id's record, where there is one, has this object in the place of that of its name, and the others are as before
abbrev pub with_object : List ℕ → List ℕ → Thing → Records → Records
with_object id name t m other = if bytes_eq other id then option_map (with_thing name t) (m other) else m other

-- the type of each form's root
abbrev pub Roots : Type 0
Roots = List (List ℕ × List ℕ)

-- the form has a root type, and the bundle is well-typed with a root of that type
pub record RecordFits (types : Declared) (roots : Roots) (k : Kept) : Type 0 where
  pub root : List ℕ
  pub declared : at_name k.form roots ≡ Some root
  pub typed : IsWellTyped types k.bundle
  pub rooted : NamesObject k.bundle.objects root k.bundle.root

-- what a store keeps: the bytes of the declarations, the types and the roots of forms that they declare, and the records
pub record Contents : Type 0 where
  pub bytes : List ℕ
  pub types : Declared
  pub roots : Roots
  pub records : Records

-- the same with these records
abbrev pub with_records : Records → Contents → Contents
with_records m c = record { bytes = c.bytes; types = c.types; roots = c.roots; records = m }

-- every record fits
abbrev pub AllFit : Contents → Type 0
AllFit c = (id : List ℕ) (k : Kept) → c.records id ≡ Some k → RecordFits c.types c.roots k
