-- The objects of records that fit ascend by their names, as the rows keep them.
use Rattle.std.proofs.Common.{◌≡◌, ℕ, List, [], ◌∷◌, Option, Some, None, map, option_map, refl, ap, subst, sym}
use Rattle.std.specs.Map.{keys_of}
use Rattle.fv_datum.specs.Ascending.{IsAscending}
use Rattle.fv_bundle.specs.Bundles.{Thing}
use Rattle.fv_model.specs.Writing.{named_written}
use Rattle.fv_store.specs.Records.{Kept, Contents, AllFit}
use Rattle.fv_store.specs.Written.{written_of, entry_of, object_kept}
use Rattle.fv_store.proofs.Kept.{rows_kept, all_kept}
use Rattle.fv_store_tables.specs.Changes.{AllNamed}
use Rattle.fv_store_tables.specs.Stands.{Entry, ObjectTexts}

same_names : (os : List (List ℕ × Thing)) → map (λ (o : List ℕ × ObjectTexts). o.0) (map object_kept (map named_written os)) ≡ keys_of os
same_names [] = refl
same_names (o ∷ os) = ap (λ l. o.0 ∷ l) (same_names os)

-- what the rows keep is what they keep of a record
pub kept_from : (o : Option Kept) (e : Entry) → option_map entry_of (option_map written_of o) ≡ Some e → (k : Kept) × (o ≡ Some k) × (rows_kept k ≡ e)
kept_from None e is = cc
kept_from (Some k) e is = (k, refl, cc)

pub all_named : (c : Contents) → AllFit c → AllNamed (all_kept c.records)
all_named c fit id e is =
    let from = kept_from (c.records id) e is in
    let k = from.0 in
    subst (λ (x : Entry). IsAscending (map (λ (o : List ℕ × ObjectTexts). o.0) x.objects)) from.2 (subst IsAscending (sym (same_names k.bundle.objects)) (fit id k from.1).typed.ascending)
