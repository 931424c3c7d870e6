-- What the rows keep of records that change.
use Rattle.std.proofs.Common.{◌≡◌, ℕ, List, [], ◌∷◌, Bool, true, false, cond, Option, Some, None, bytes_eq, map, option_map, refl, ap}
use Rattle.std.proofs.Math.Path.{fun_ext}
use Rattle.fv_bundle.specs.Bundles.{Thing}
use Rattle.fv_bundle.specs.Replaced.{changed_at}
use Rattle.fv_model.specs.Writing.{named_written}
use Rattle.fv_store.specs.Records.{Kept, Records, with_record, without_record, with_thing, with_object}
use Rattle.fv_store.specs.Written.{written_of, writings, entry_of, entries, object_kept}
use Rattle.fv_store_tables.specs.Changes as change
use Rattle.fv_store_tables.specs.Stands.{ObjectTexts, Entry, TableEntries, with_entry, without_entry}

-- what the rows keep of a record
abbrev pub rows_kept : Kept → Entry
rows_kept k = entry_of (written_of k)

-- and of each
abbrev pub all_kept : Records → TableEntries
all_kept m = entries (writings m)

put_at : (b : Bool) (k : Kept) (o : Option Kept) → option_map entry_of (option_map written_of (cond b (Some k) o)) ≡ cond b (Some (rows_kept k)) (option_map entry_of (option_map written_of o))
put_at true k o = refl
put_at false k o = refl

pub kept_with : (id : List ℕ) (k : Kept) (m : Records) → all_kept (with_record id k m) ≡ with_entry id (rows_kept k) (all_kept m)
kept_with id k m = fun_ext (λ other. put_at (bytes_eq other id) k (m other))

gone_at : (b : Bool) (o : Option Kept) → option_map entry_of (option_map written_of (cond b None o)) ≡ cond b None (option_map entry_of (option_map written_of o))
gone_at true o = refl
gone_at false o = refl

pub kept_without : (id : List ℕ) (m : Records) → all_kept (without_record id m) ≡ without_entry id (all_kept m)
kept_without id m = fun_ext (λ other. gone_at (bytes_eq other id) (m other))

-- ---- one object

-- the row of an object of that type and of these fields
abbrev pub part_kept : List ℕ → Thing → ObjectTexts
part_kept name t = (object_kept (named_written (name, t))).1

object_at : (name : List ℕ) (t : Thing) (os : List (List ℕ × Thing)) → map object_kept (map named_written (changed_at name (λ _. t) os)) ≡ change.with_object name (part_kept name t) (map object_kept (map named_written os))
object_at name t [] = refl
object_at name t (o ∷ os) = at (bytes_eq name o.0) (object_at name t os)
  where
    rest : List (List ℕ × ObjectTexts)
    rest = map object_kept (map named_written os)

    at : (b : Bool) → map object_kept (map named_written (changed_at name (λ _. t) os)) ≡ change.with_object name (part_kept name t) rest
        → map object_kept (map named_written (cond b ((o.0, t) ∷ os) (o ∷ changed_at name (λ _. t) os))) ≡ cond b ((o.0, part_kept name t) ∷ rest) (object_kept (named_written o) ∷ change.with_object name (part_kept name t) rest)
    at true later = refl
    at false later = ap (λ l. object_kept (named_written o) ∷ l) later

set_at : (name : List ℕ) (t : Thing) (b : Bool) (o : Option Kept) → option_map entry_of (option_map written_of (cond b (option_map (with_thing name t) o) o))
    ≡ cond b (change.changed name (part_kept name t) (option_map entry_of (option_map written_of o))) (option_map entry_of (option_map written_of o))
set_at name t true None = refl
set_at name t true (Some k) = ap (λ os. Some (record { form = k.form; root = k.bundle.root; objects = os })) (object_at name t k.bundle.objects)
set_at name t false o = refl

pub kept_set : (id name : List ℕ) (t : Thing) (m : Records) → all_kept (with_object id name t m) ≡ change.with_part_of id name (part_kept name t) (all_kept m)
kept_set id name t m = fun_ext (λ other. set_at name t (bytes_eq other id) (m other))
