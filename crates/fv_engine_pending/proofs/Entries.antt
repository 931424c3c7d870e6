-- Look-ups on the way, by the entries of the code's map.
use Rattle.std.proofs.Common.{◌≡◌, ℕ, List, [], ◌∷◌, map, Bool, true, false, cond, Option, Some, None, option_map, unwrap_or, is_some, Bor, nat_cmp, refl, ap, ◌∙◌}
use Rattle.std.specs.BTreeMap.{insert_entry, is_at}
use Rattle.std.specs.Cmp.Lexicographic.{slice_cmp}
use Rattle.std.specs.Map.{lookup, remove_entry}
use Rattle.std.proofs.lemmas.Map.Text.{is_eq-slice_cmp}
use Rattle.fv_datum.specs.Lookup.{at_name}
use Rattle.fv_datum.proofs.Lookups.{keyed-at_name}
use Rattle.fv_datum.proofs.Maps.{put_keyed}
use Rattle.fv_engine_pending.specs.Ways.{way_entry, standing_at, left_at, without_id}
use Rattle.fv_store.specs.Records.{Kept}
use Rattle.fv_store.specs.Stored.{stored_view}
use Rattle.fv_store.specs.declared.stored.Stored.{Stored}

-- the entries of the map
abbrev Entries : Type 0
Entries = List (Bor (List ℕ) × Option Stored)

-- what the map finds at an id
abbrev pub found_at : List ℕ → Entries → Option (Option Stored)
found_at id es = lookup (is_at (λ k. slice_cmp nat_cmp id k.now)) es

-- it is what stands on the way
pub on_way : (id : List ℕ) (es : Entries) → option_map (option_map stored_view) (found_at id es) ≡ at_name id (map way_entry es)
on_way id es = keyed-at_name (λ (k : Bor (List ℕ)). k.now) (option_map stored_view) id es

some_map : {X Y : Type 0} (f : X → Y) (o : Option X) → is_some o ≡ is_some (option_map f o)
some_map f None = refl
some_map f (Some x) = refl

-- the map has the id where something stands at it
pub has_way : (id : List ℕ) (es : Entries) → is_some (found_at id es) ≡ is_some (at_name id (map way_entry es))
has_way id es = some_map (option_map stored_view) (found_at id es) ∙ ap is_some (on_way id es)

-- what is left at an id
pub leave_way : (es : Entries) (id : Bor (List ℕ)) (o : Option Stored)
    → map way_entry (insert_entry (λ a b. slice_cmp nat_cmp a.now b.now) es id o) ≡ left_at id.now (option_map stored_view o) (map way_entry es)
leave_way es id o = put_keyed (λ (k : Bor (List ℕ)). k.now) (option_map stored_view) es id o

step : (b c : Bool) (e : Bor (List ℕ) × Option Stored) (es : Entries) (less : Entries) (rest : List (List ℕ × Option Kept)) → b ≡ c → map way_entry less ≡ rest
    → map way_entry (cond b es (e ∷ less)) ≡ cond c (map way_entry es) (way_entry e ∷ rest)
step true c e es less rest same is = ap (λ d. cond d (map way_entry es) (way_entry e ∷ rest)) same
step false c e es less rest same is = ap (λ xs. way_entry e ∷ xs) is ∙ ap (λ d. cond d (map way_entry es) (way_entry e ∷ rest)) same

-- the way without an id
pub take_way : (id : List ℕ) (es : Entries) → map way_entry (remove_entry (is_at (λ k. slice_cmp nat_cmp id k.now)) es) ≡ without_id id (map way_entry es)
take_way id [] = refl
take_way id (e ∷ es) = step _ _ e es _ _ (is_eq-slice_cmp id e.0.now) (take_way id es)

joined : (o : Option (Option Stored)) → option_map stored_view (unwrap_or o None) ≡ unwrap_or (option_map (option_map stored_view) o) None
joined None = refl
joined (Some x) = refl

-- the record that stands at an id
pub stands_way : (id : List ℕ) (es : Entries) → option_map stored_view (unwrap_or (found_at id es) None) ≡ standing_at id (map way_entry es)
stands_way id es = joined (found_at id es) ∙ ap (λ o. unwrap_or o None) (on_way id es)
