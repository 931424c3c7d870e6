-- A datum put into one field of one object.
use Rattle.std.proofs.Common.{◌≡◌, ℕ, zero, suc, ◌<◌, ◌≤◌, List, [], ◌∷◌, length, get_or, set, map, Bool, true, false, cond, Option, Some, None, zip, is_some, String, string_bytes, bytes_eq, refl, sym, ap, ◌∙◌, position, arith}
use Rattle.std.proofs.lemmas.List.{set_past}
use Rattle.std.proofs.lemmas.List.Quantifiers.{position-Some}
use Rattle.std.specs.Map.{lookup, set_value, keys_of}
use Rattle.std.specs.declared.alloc.Global.{Global}
use Rattle.fv_datum.specs.View.{view}
use Rattle.fv_datum.specs.declared.datum.Datum.{Datum}
use Rattle.fv_bundle.specs.Types.{use_view}
use Rattle.fv_bundle.specs.declared.type_use.TypeUse.{TypeUse}
use Rattle.fv_bundle.specs.Bundles.{Thing}
use Rattle.fv_bundle.specs.Replaced.{changed_at}
use Rattle.fv_bundle.specs.Views.{object_view, named_view}
use Rattle.fv_bundle.specs.declared.bundle.Object.{Object}

-- ---- a field

put_beside : (name : List ℕ) (ns : List (List ℕ)) (ds : List Datum) (i : ℕ) (d : Datum) → i < length ns → bytes_eq name (get_or ns i []) ≡ true → ((k : ℕ) → k < i → bytes_eq name (get_or ns k []) ≡ false)
    → changed_at name (λ _. view d) (zip ns (map view ds)) ≡ zip ns (map view (set ds i d))
put_beside name [] ds i d within here before = absurd (omega arith)
put_beside name (n ∷ ns) [] i d within here before = refl
put_beside name (n ∷ ns) (x ∷ xs) zero d within here before = rw here refl
put_beside name (n ∷ ns) (x ∷ xs) (suc i) d within here before =
    rw (before 0 (omega arith)) (ap (λ fs. (n, view x) ∷ fs) (put_beside name ns xs i d (omega arith) here (λ j lt. before (suc j) (omega arith))))

-- the datum at the first place whose name passes is the field's
pub put_at : (name : List ℕ) (ns : List (List ℕ)) (ds : List Datum) (i : ℕ) (d : Datum) → position (bytes_eq name) ns ≡ Some i → zip ns (map view (set ds i d)) ≡ changed_at name (λ _. view d) (zip ns (map view ds))
put_at name ns ds i d is =
    let first = position-Some (bytes_eq name) ns i [] is in
    sym (put_beside name ns ds i d first.0 first.1 first.2)

-- where there is no datum at that place, there is nothing to replace
pub put_past : (name : List ℕ) (ns : List (List ℕ)) (ds : List Datum) (i : ℕ) (d : Datum) → position (bytes_eq name) ns ≡ Some i → length ds ≤ i → zip ns (map view ds) ≡ changed_at name (λ _. view d) (zip ns (map view ds))
put_past name ns ds i d is over = ap (λ es. zip ns (map view es)) (sym (set_past ds i d over)) ∙ put_at name ns ds i d is

same_or : {X Y : Type 0} (b : Bool) (x : X) (rest : Option X) (e : List ℕ × Y) (change : Y → Y) (es fs : List (List ℕ × Y)) → (false ≡ is_some rest → fs ≡ es) → false ≡ is_some (cond b (Some x) rest) → cond b ((e.0, change e.1) ∷ es) (e ∷ fs) ≡ e ∷ es
same_or true x rest e change es fs more is = cc
same_or false x rest e change es fs more is = ap (λ gs. e ∷ gs) (more is)

-- and nothing changes where no field has the name
pub put_none : {Y : Type 0} (name : List ℕ) (es : List (String Global × TypeUse)) (ys : List Y) (change : Y → Y) → false ≡ is_some (lookup (λ s. bytes_eq name (string_bytes s)) es)
    → changed_at name change (zip (keys_of (map use_view es)) ys) ≡ zip (keys_of (map use_view es)) ys
put_none name [] ys change is = refl
put_none name (e ∷ es) [] change is = refl
put_none name (e ∷ es) (y ∷ ys) change is =
    same_or (bytes_eq name (string_bytes e.0)) e.1 (lookup (λ s. bytes_eq name (string_bytes s)) es) (string_bytes e.0, y) change (zip (keys_of (map use_view es)) ys) _ (put_none name es ys change) is

-- ---- an object

put_one : (b : Bool) (name : List ℕ) (change : Thing → Thing) (e : String Global × Object) (es : List (String Global × Object)) (old new : Object) → object_view new ≡ change (object_view old) → cond b (Some e.1) (lookup (λ k. bytes_eq name (string_bytes k)) es) ≡ Some old
    → (lookup (λ k. bytes_eq name (string_bytes k)) es ≡ Some old → map named_view (set_value (λ k. bytes_eq name (string_bytes k)) es new) ≡ changed_at name change (map named_view es))
    → map named_view (cond b ((e.0, new) ∷ es) (e ∷ set_value (λ k. bytes_eq name (string_bytes k)) es new)) ≡ cond b ((string_bytes e.0, change (object_view e.1)) ∷ map named_view es) (named_view e ∷ changed_at name change (map named_view es))
put_one true name change e es old new is found more =
    let same : e.1 ≡ old = cc in
    ap (λ t. (string_bytes e.0, t) ∷ map named_view es) (is ∙ ap (λ o. change (object_view o)) (sym same))
put_one false name change e es old new is found more = ap (λ os. named_view e ∷ os) (more found)

-- the object that stands at the name is replaced
pub put_object : (name : List ℕ) (change : Thing → Thing) (es : List (String Global × Object)) (old new : Object) → object_view new ≡ change (object_view old) → lookup (λ k. bytes_eq name (string_bytes k)) es ≡ Some old
    → map named_view (set_value (λ k. bytes_eq name (string_bytes k)) es new) ≡ changed_at name change (map named_view es)
put_object name change [] old new is found = cc
put_object name change (e ∷ es) old new is found = put_one (bytes_eq name (string_bytes e.0)) name change e es old new is found (put_object name change es old new is)

none_or : (b : Bool) (change : Thing → Thing) (e : String Global × Object) (rest : Option Object) (es fs : List (List ℕ × Thing)) → cond b (Some e.1) rest ≡ None → (rest ≡ None → es ≡ fs)
    → named_view e ∷ es ≡ cond b ((string_bytes e.0, change (object_view e.1)) ∷ es) (named_view e ∷ fs)
none_or true change e rest es fs is more = cc
none_or false change e rest es fs is more = ap (λ gs. named_view e ∷ gs) (more is)

-- nothing changes where no object has the name
pub no_object : (name : List ℕ) (change : Thing → Thing) (es : List (String Global × Object)) → lookup (λ k. bytes_eq name (string_bytes k)) es ≡ None → map named_view es ≡ changed_at name change (map named_view es)
no_object name change [] none = refl
no_object name change (e ∷ es) none = none_or (bytes_eq name (string_bytes e.0)) change e (lookup (λ k. bytes_eq name (string_bytes k)) es) (map named_view es) (changed_at name change (map named_view es)) none (no_object name change es)
