-- What an export writes: the declarations in force and all records, as command lines.
use Rattle.std.specs.Prelude.{◌≡◌, ◌⊎◌, ℕ, List, [], ◌∷◌, ◌++◌, Option, Some, codes}
use Rattle.std.specs.Cmp.Lexicographic.{slice_cmp}
use Rattle.std.specs.Io.KnownBytes.{Appends}
use Rattle.std.specs.List.{AllByRecursion}
use Rattle.std.specs.Map.{keys_of}
use Rattle.std.specs.Ordering.{nat_cmp}
use Rattle.std.specs.declared.cmp.Ordering.TheVariants.{Less}
use Rattle.serde_json.specs.Data as json
use Rattle.serde_json.specs.Written.{compact_text}
use Rattle.sqlite_rules.specs.Lists.{Has}
use Rattle.fv_datum.specs.Ascending.{IsAscending}
use Rattle.fv_engine_lines.specs.Lines.{ended}
use Rattle.fv_engine_lines.specs.Writes.{AppendsFront}
use Rattle.fv_engine_machine.specs.Services.{Service}
use Rattle.fv_engine_reply.specs.Texts.{reply_members}
use Rattle.fv_model.specs.Writing.{bundle_json}
use Rattle.fv_store.specs.Records.{Kept, Records}

-- ---- lines

-- `{"bundle":..,"do":"put","form":..,"id":..}`
abbrev pub put_json : List ℕ → List ℕ → json.Data → json.Data
put_json id form bundle = json.object (reply_members (
    (codes "bundle", bundle) ∷ (codes "do", json.string (codes "put")) ∷ (codes "form", json.string form) ∷ (codes "id", json.string id) ∷ []))

-- `{"do":"redeclare","text":..}`
abbrev pub redeclare_json : List ℕ → json.Data
redeclare_json text = json.object (reply_members ((codes "do", json.string (codes "redeclare")) ∷ (codes "text", json.string text) ∷ []))

-- the line that puts a record, with its end
abbrev pub record_line : List ℕ → Kept → List ℕ
record_line id k = ended (compact_text (put_json id k.form (bundle_json k.bundle)))

-- the line that asks for declarations, with its end
abbrev pub declarations_line : List ℕ → List ℕ
declarations_line text = ended (compact_text (redeclare_json text))

-- the lines that put these records
abbrev pub record_lines : List (List ℕ × Kept) → List ℕ
record_lines [] = []
record_lines (k ∷ ks) = record_line k.0 k.1 ++ record_lines ks

-- declarations of this text and these records, as command lines
abbrev pub export_text : List ℕ → List (List ℕ × Kept) → List ℕ
export_text text ks = declarations_line text ++ record_lines ks

-- ---- records

-- these are all records, each once, ascending by the bytes of their ids
pub record AreAllOf (m : Records) (all : List (List ℕ × Kept)) : Type 0 where
  pub ascending : IsAscending (keys_of all)
  pub known : AllByRecursion (λ k. m k.0 ≡ Some k.1) all
  pub complete : (id : List ℕ) (k : Kept) → m id ≡ Some k → Has all (id, k)

-- these are the first of the records: each once, ascending, and every other one is above all of them
pub record AreFirstOf (m : Records) (first : List (List ℕ × Kept)) : Type 0 where
  pub ascending : IsAscending (keys_of first)
  pub known : AllByRecursion (λ k. m k.0 ≡ Some k.1) first
  pub others : (id : List ℕ) (k : Kept) → m id ≡ Some k
      → Has first (id, k) ⊎ AllByRecursion (λ before. slice_cmp nat_cmp before id ≡ Less) (keys_of first)

-- ---- what was written

-- the declarations and all records
abbrev pub Exports : List ℕ → Records → Option (List ℕ) → Option (List ℕ) → Type 0
Exports text m old new = (all : List (List ℕ × Kept)) × AreAllOf m all × Appends old new (export_text text all)

-- a front of them: whole lines, and perhaps a part of the next
abbrev pub ExportsFront : List ℕ → Records → Option (List ℕ) → Option (List ℕ) → Type 0
ExportsFront text m old new = (first : List (List ℕ × Kept)) × AreFirstOf m first × AppendsFront old new (export_text text first)

-- the same rules, the same text of declarations, and declared by it the same
pub record IsSameService {H : Type 0} (old new : Service H) : Type 0 where
  pub known : new.known ≡ old.known
  pub text : new.text ≡ old.text
  pub declared : new.machine.declared ≡ old.machine.declared
