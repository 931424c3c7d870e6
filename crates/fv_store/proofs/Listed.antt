-- The ids that the rows show are those of the records.
use Rattle.std.proofs.Common.{◌≡◌, ℕ, List, [], Option, Some, None, Bor, option_map, unwrap_or, refl, ap, ◌∙◌}
use Rattle.fv_store.specs.Lists.{ListsOf, Lists}
use Rattle.fv_store.specs.Pages.{AreListedOf}
use Rattle.fv_store.specs.Records.{Kept, Records}
use Rattle.fv_store.specs.Written.{written_of, entry_of}
use Rattle.fv_store.proofs.Kept.{rows_kept, all_kept}
use Rattle.fv_store.proofs.Named.{kept_from}
use Rattle.fv_store_tables.specs.Lists as tables
use Rattle.fv_store_tables.specs.Stands.{Entry}

-- where a list begins
pub begins : (after : Option (Bor (List ℕ))) (none : Bor (List ℕ)) → none.now ≡ [] → (unwrap_or after none).now ≡ unwrap_or (option_map (λ s. s.now) after) []
begins None none is = is
begins (Some s) none is = refl

-- what the rows keep of a record that is known
entry_is : (m : Records) (id : List ℕ) (k : Kept) → m id ≡ Some k → all_kept m id ≡ Some (rows_kept k)
entry_is m id k known = ap (λ o. option_map entry_of (option_map written_of o)) known

-- ids that are wanted by what the rows keep are wanted by what the records are
module _ (m : Records) (Wanted : Kept → Type 0) (Shown : List ℕ → Type 0) (above : List ℕ) (limit : ℕ)
    (from : (id : List ℕ) → Shown id → (k : Kept) × (m id ≡ Some k) × Wanted k)
    (to : (id : List ℕ) (k : Kept) → m id ≡ Some k → Wanted k → Shown id) where
  all_listed : (ids : List (List ℕ)) → tables.AreListed Shown above ids → AreListedOf m Wanted above ids
  all_listed ids all = record {
    ascending = all.ascending;
    sound = λ id has. (
        let is = all.sound id has in
        let it = from id is.0 in
        record { kept = it.0; known = it.1; wanted = it.2; is_above = is.1 });
    complete = λ id is. all.complete id (to id is.kept is.known is.wanted) is.is_above;
  }

  as_listed : (ids : List (List ℕ)) → tables.Lists Shown above limit ids → ListsOf m Wanted above limit ids
  as_listed ids it = (it.0, all_listed it.0 it.1, it.2)

-- those of a form
pub listed : (m : Records) (form above : List ℕ) (limit : ℕ) (ids : List (List ℕ)) → tables.Lists (tables.HasForm (all_kept m) form) above limit ids → Lists m form above limit ids
listed m form above limit = as_listed m (λ k. k.form ≡ form) (tables.HasForm (all_kept m) form) above limit
    (λ id has. let it = kept_from (m id) has.0 has.1 in (it.0, it.1, ap (λ (e : Entry). e.form) it.2 ∙ has.2))
    (λ id k known of_form. (rows_kept k, entry_is m id k known, of_form))

-- and those of all records
pub all_ids : (m : Records) (above : List ℕ) (limit : ℕ) (ids : List (List ℕ)) → tables.Lists (tables.HasRecord (all_kept m)) above limit ids → ListsOf m (λ k. Unit {0}) above limit ids
all_ids m above limit = as_listed m (λ k. Unit {0}) (tables.HasRecord (all_kept m)) above limit
    (λ id has. let it = kept_from (m id) has.0 has.1 in (it.0, it.1, tt))
    (λ id k known any. (rows_kept k, entry_is m id k known))
