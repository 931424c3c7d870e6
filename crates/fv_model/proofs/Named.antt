-- The names of objects' types, put into a map one by one.
use Rattle.std.proofs.Common.{◌≡◌, ◌≢◌, ℕ, List, [], ◌∷◌, ◌++◌, map, Bool, true, false, String, string_bytes, bytes_eq, refl, sym, ap, ◌∙◌, true≢false, arith}
use Rattle.std.specs.List.{AllByRecursion, IsDistinct}
use Rattle.std.specs.Map.{keys_of}
use Rattle.std.specs.String.{string_eq}
use Rattle.std.specs.declared.alloc.Global.{Global}
use Rattle.std.proofs.lemmas.List.Elements.{All-from_recursion}
use Rattle.std.proofs.lemmas.List.Kept.{AllPairs-cons}
use Rattle.std.proofs.lemmas.Map.Keys.{IsDistinct-head, IsDistinct-tail}
use Rattle.std.proofs.lemmas.Slice.Eq.{bytes_eq-Decides}
use Rattle.indexmap.specs.IndexMap.{insert_entry}
use Rattle.fv_bundle.specs.Types.{AreApart}
use Rattle.fv_datum.proofs.Apart.{apart-head, apart-tail}
use Rattle.fv_model.specs.Views.{named_view}
use Rattle.fv_bundle.specs.declared.bundle.Object.{Object}
use Rattle.fv_model.proofs.Conditions.{types_of}

others_apart : (k : String Global) (es : List (String Global × Object)) → AllByRecursion (λ y. string_eq k y ≡ false) (keys_of es) → AllByRecursion (λ e. string_bytes k ≢ e.0) (types_of (map named_view es))
others_apart k [] h = tt
others_apart k (e ∷ es) h =
    (λ same. true≢false (sym ((bytes_eq-Decides (string_bytes k) (string_bytes e.0)).1 same) ∙ h.0), others_apart k es h.1)

-- the names of the objects of a map stand once
pub objects_apart : (es : List (String Global × Object)) → IsDistinct string_eq (keys_of es) → AreApart (types_of (map named_view es))
objects_apart [] h = λ i j d lt within. absurd (omega arith)
objects_apart (e ∷ es) h =
    AllPairs-cons (λ a b. a.0 ≢ b.0) (string_bytes e.0, (named_view e).1.type_name) (types_of (map named_view es)) (All-from_recursion (λ f. string_bytes e.0 ≢ f.0) (types_of (map named_view es)) (others_apart e.0 es (IsDistinct-head string_eq e.0 (keys_of es) h)))
    (objects_apart es (IsDistinct-tail string_eq e.0 (keys_of es) h))

other : (b : Bool) (k l : List ℕ) → bytes_eq k l ≡ b → k ≢ l → b ≡ false
other true k l e differs = absurd (differs ((bytes_eq-Decides k l).0 e))
other false k l e differs = refl

middle : {X : Type 0} (n k : List ℕ) (x : X) (es more : List (List ℕ × X)) → AllByRecursion (λ f. f.0 ≢ n) (es ++ (k, x) ∷ more) → k ≢ n
middle n k x [] more h = h.0
middle n k x (e ∷ es) more h = middle n k x es more h.1

-- an entry of a new name goes last
pub insert_new : {K V X : Type 0} (name : K → List ℕ) (view : V → X) (es : List (K × V)) (k : K) (v : V) (more : List (List ℕ × X))
    → AreApart (map (λ e. (name e.0, view e.1)) es ++ (name k, view v) ∷ more)
    → map (λ e. (name e.0, view e.1)) (insert_entry (λ a b. bytes_eq (name a) (name b)) es k v) ++ more ≡ map (λ e. (name e.0, view e.1)) es ++ (name k, view v) ∷ more
insert_new name view [] k v more h = refl
insert_new name view (e ∷ es) k v more h =
    let seen = map (λ f. (name f.0, view f.1)) es in
    let differs = middle (name e.0) (name k) (view v) seen more (apart-head (name e.0, view e.1) (seen ++ (name k, view v) ∷ more) h) in
    rw (other _ (name k) (name e.0) refl differs) (ap (λ xs. (name e.0, view e.1) ∷ xs) (insert_new name view es k v more (apart-tail (name e.0, view e.1) (seen ++ (name k, view v) ∷ more) h)))
