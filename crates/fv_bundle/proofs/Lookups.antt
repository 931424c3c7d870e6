-- Fields by their names and their places.
use Rattle.std.proofs.Common.{◌≡◌, ℕ, List, [], ◌∷◌, map, Bool, true, false, cond, Option, Some, None, option_map, slice_get, zip, is_some, String, string_bytes, bytes_eq, refl, sym, ap, ◌∙◌}
use Rattle.std.proofs.lemmas.Option.{slice_get-map}
use Rattle.std.specs.Map.{lookup, keys_of}
use Rattle.std.specs.declared.alloc.Global.{Global}
use Rattle.fv_datum.specs.Lookup.{at_name}
use Rattle.fv_bundle.specs.Types.{use_view}
use Rattle.fv_bundle.specs.declared.type_use.TypeUse.{TypeUse}

-- the name of the field at a place
pub name_placed : (es : List (String Global × TypeUse)) (i : ℕ) (o : Option (String Global × TypeUse)) → o ≡ slice_get es i → slice_get (keys_of (map use_view es)) i ≡ option_map (λ f. f.0) (option_map use_view o)
name_placed es i o is = slice_get-map (λ f. f.0) (map use_view es) i ∙ ap (option_map (λ f. f.0)) (slice_get-map use_view es i ∙ ap (option_map use_view) (sym is))

none_or : {X Y : Type 0} (b : Bool) (x : X) (rest : Option X) (y : Y) (more : Option Y) → (false ≡ is_some rest → more ≡ None) → false ≡ is_some (cond b (Some x) rest) → cond b (Some y) more ≡ None
none_or true x rest y more then is = cc
none_or false x rest y more then is = then is

-- and nothing where no field has the name
pub none_beside : {Y : Type 0} (name : List ℕ) (es : List (String Global × TypeUse)) (ys : List Y) → false ≡ is_some (lookup (λ s. bytes_eq name (string_bytes s)) es) → at_name name (zip (keys_of (map use_view es)) ys) ≡ None
none_beside name [] ys is = refl
none_beside name (e ∷ es) [] is = refl
none_beside name (e ∷ es) (y ∷ ys) is =
    none_or (bytes_eq name (string_bytes e.0)) e.1 (lookup (λ s. bytes_eq name (string_bytes s)) es) y (at_name name (zip (keys_of (map use_view es)) ys)) (none_beside name es ys) is
