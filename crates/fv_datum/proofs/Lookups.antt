-- Look-ups by name, in maps and in lists.
use Rattle.std.proofs.Common.{◌≡◌, ℕ, zero, suc, ◌<◌, List, [], ◌∷◌, length, get_or, map, Bool, true, false, cond, nat_lt, Option, Some, None, option_map, slice_get, zip, is_some, String, string_bytes, nat_cmp, bytes_eq, Bor, refl, sym, ap, subst, ◌∙◌, position, not, arith}
use Rattle.std.specs.List.{prefix_len, All, AllByRecursion}
use Rattle.std.proofs.lemmas.Bool.{ltb-false}
use Rattle.std.proofs.lemmas.List.{length-map}
use Rattle.std.proofs.lemmas.List.Elements.{recursion_from_All}
use Rattle.std.proofs.lemmas.List.Quantifiers.{position-Some}
use Rattle.std.proofs.lemmas.Map.Text.{is_eq-slice_cmp}
use Rattle.std.proofs.lemmas.Option.{slice_get_past}
use Rattle.std.proofs.lemmas.Slice.Eq.{bytes_eq-Decides}
use Rattle.std.specs.BTreeMap.{is_at}
use Rattle.std.specs.Cmp.Lexicographic.{slice_cmp}
use Rattle.std.specs.Map.{lookup, lookup_key}
use Rattle.std.specs.Option.{option_copied, option_zip}
use Rattle.std.specs.Slice.{IsItemAt}
use Rattle.std.specs.declared.alloc.Global.{Global}
use Rattle.fv_datum.specs.Lookup.{at_name}

step : {X Y : Type 0} (f : X → Y) (b : Bool) (x : X) (rest : Option X) (o : Option Y) → option_map f rest ≡ o → option_map f (cond b (Some x) rest) ≡ cond b (Some (f x)) o
step f true x rest o e = refl
step f false x rest o e = e

-- what a map has at a text is what its list has at the name
pub lookup-at_name : {X Y : Type 0} (f : X → Y) (name : List ℕ) (es : List (String Global × X))
    → option_map f (lookup (λ k. bytes_eq name (string_bytes k)) es) ≡ at_name name (map (λ e. (string_bytes e.0, f e.1)) es)
lookup-at_name f name [] = refl
lookup-at_name f name (e ∷ es) = step f (bytes_eq name (string_bytes e.0)) e.1 _ _ (lookup-at_name f name es)

-- the same, of a map from names to names
pub lookup-types : (name : List ℕ) (es : List (Bor (List ℕ) × Bor (List ℕ))) → option_map (λ s. s.now) (lookup (λ k. bytes_eq name k.now) es) ≡ at_name name (map (λ e. (e.0.now, e.1.now)) es)
lookup-types name [] = refl
lookup-types name (e ∷ es) = step (λ (s : Bor (List ℕ)). s.now) (bytes_eq name e.0.now) e.1 _ _ (lookup-types name es)

pub option_map-copied : {X Y : Type 0} (f : X → Y) (found : Option (Bor X)) → option_map (λ x. f x.now) found ≡ option_map f (option_copied found)
option_map-copied f None = refl
option_map-copied f (Some x) = refl

prefix_len-map : {X Y : Type 0} (p : Y → Bool) (f : X → Y) (xs : List X) → prefix_len p (map f xs) ≡ prefix_len (λ x. p (f x)) xs
prefix_len-map p f [] = refl
prefix_len-map p f (x ∷ xs) = rw (prefix_len-map p f xs) refl

-- the first place at which a test passes, of the images and of the list
pub position-map : {X Y : Type 0} (p : Y → Bool) (f : X → Y) (xs : List X) → position p (map f xs) ≡ position (λ x. p (f x)) xs
position-map p f xs = rw (prefix_len-map (λ y. not (p y)) f xs, length-map xs f) refl

-- ---- the key that is found at a name

key_or : (b : Bool) (name : List ℕ) (first : String Global) (rest : Option (String Global)) (k : String Global) → (b ≡ true → string_bytes first ≡ name) → (rest ≡ Some k → string_bytes k ≡ name) → cond b (Some first) rest ≡ Some k → string_bytes k ≡ name
key_or true name first rest k here more is =
    let same : first ≡ k = cc in
    ap (λ (s : String Global). string_bytes s) (sym same) ∙ here refl
key_or false name first rest k here more is = more is

-- it has the bytes of the name
pub key_named : {X : Type 0} (name : List ℕ) (es : List (String Global × X)) (k : String Global) → lookup_key (λ s. bytes_eq name (string_bytes s)) es ≡ Some k → string_bytes k ≡ name
key_named name [] k is = cc
key_named name (e ∷ es) k is =
    key_or (bytes_eq name (string_bytes e.0)) name e.0 (lookup_key (λ s. bytes_eq name (string_bytes s)) es) k (λ same. sym ((bytes_eq-Decides name (string_bytes e.0)).0 same)) (key_named name es k) is

-- ---- names with what stands beside them

zip_none : {X Y : Type 0} (o : Option X) → option_zip {T = X} {U = Y} o None ≡ None
zip_none None = refl
zip_none (Some x) = refl

-- what two lists have at a place
pub slice_get-zip : {X Y : Type 0} (xs : List X) (ys : List Y) (i : ℕ) → slice_get (zip xs ys) i ≡ option_zip (slice_get xs i) (slice_get ys i)
slice_get-zip [] ys i = refl
slice_get-zip (x ∷ xs) [] i = sym (zip_none (slice_get (x ∷ xs) i))
slice_get-zip (x ∷ xs) (y ∷ ys) zero = refl
slice_get-zip (x ∷ xs) (y ∷ ys) (suc i) = slice_get-zip xs ys i

-- what stands at the first place whose name passes
found_beside : {Y : Type 0} (name : List ℕ) (ks : List (List ℕ)) (ys : List Y) (i : ℕ) → i < length ks → bytes_eq name (get_or ks i []) ≡ true → ((k : ℕ) → k < i → bytes_eq name (get_or ks k []) ≡ false) → at_name name (zip ks ys) ≡ slice_get ys i
found_beside name [] ys i within here before = absurd (omega arith)
found_beside name (k ∷ ks) [] i within here before = refl
found_beside name (k ∷ ks) (y ∷ ys) zero within here before = rw here refl
found_beside name (k ∷ ks) (y ∷ ys) (suc i) within here before = rw (before 0 (omega arith)) (found_beside name ks ys i (omega arith) here (λ j lt. before (suc j) (omega arith)))

-- at a name there stands what is beside its first place
pub beside : {Y : Type 0} (name : List ℕ) (ks : List (List ℕ)) (ys : List Y) (i : ℕ) → position (bytes_eq name) ks ≡ Some i → at_name name (zip ks ys) ≡ slice_get ys i
beside name ks ys i is =
    let first = position-Some (bytes_eq name) ks i [] is in
    found_beside name ks ys i first.0 first.1 first.2

-- ---- an element of a slice, seen

pub seen_at : {X Y : Type 0} (f : X → Y) (xs : List X) (i : ℕ) (x : X) → i < length xs → x ≡ get_or xs i x → slice_get (map f xs) i ≡ Some (f x)
seen_at f [] i x within is = absurd (omega arith)
seen_at f (y ∷ ys) zero x within is = ap (λ z. Some (f z)) (sym is)
seen_at f (y ∷ ys) (suc i) x within is = seen_at f ys i x (omega arith) is

pub seen_past : {X Y : Type 0} (f : X → Y) (xs : List X) (i : ℕ) → false ≡ nat_lt i (length xs) → slice_get (map f xs) i ≡ None
seen_past f xs i past = slice_get_past (map f xs) i (omega (arith, length-map xs f, ltb-false i (length xs) (sym past)))

pub seen_option : {X Y : Type 0} (f : X → Y) (xs : List X) (i : ℕ) (found : Option (Bor X)) → IsItemAt xs i found → option_map (λ x. f x.now) found ≡ slice_get (map f xs) i
seen_option f xs i None at = sym (seen_past f xs i at.0)
seen_option f xs i (Some x) at = sym (seen_at f xs i x.now at.3.0 at.1)

-- ---- maps

-- what a map that is ordered has at a text, by its keys' bytes
pub keyed-at_name : {K X Y : Type 0} (bytes : K → List ℕ) (f : X → Y) (name : List ℕ) (es : List (K × X))
    → option_map f (lookup (is_at (λ k. slice_cmp nat_cmp name (bytes k))) es) ≡ at_name name (map (λ e. (bytes e.0, f e.1)) es)
keyed-at_name bytes f name [] = refl
keyed-at_name bytes f name (e ∷ es) = rw (is_eq-slice_cmp name (bytes e.0)) (step f (bytes_eq name (bytes e.0)) e.1 _ _ (keyed-at_name bytes f name es))

-- the same at texts
pub tree-at_name : {X Y : Type 0} (f : X → Y) (name : List ℕ) (es : List (String Global × X))
    → option_map f (lookup (is_at (λ k. slice_cmp nat_cmp name (string_bytes k))) es) ≡ at_name name (map (λ e. (string_bytes e.0, f e.1)) es)
tree-at_name f name es = keyed-at_name (λ (k : String Global). string_bytes k) f name es

is_some-map : {X Y : Type 0} (f : X → Y) (o : Option X) → is_some (option_map f o) ≡ is_some o
is_some-map f None = refl
is_some-map f (Some x) = refl

-- a map has a text where its list has the name
pub has_name : {X Y : Type 0} (f : X → Y) (name : List ℕ) (es : List (String Global × X))
    → is_some (lookup (λ k. bytes_eq name (string_bytes k)) es) ≡ is_some (at_name name (map (λ e. (string_bytes e.0, f e.1)) es))
has_name f name es = sym (is_some-map f _) ∙ ap is_some (lookup-at_name f name es)

-- what a map that is ordered has at a text
-- what a map has at a name, as it is found
pub found_in : {X Y : Type 0} (f : X → Y) (name : List ℕ) (es : List (String Global × X)) (found : Option (Bor X)) → option_copied found ≡ lookup (λ k. bytes_eq name (string_bytes k)) es
    → option_map (λ x. f x.now) found ≡ at_name name (map (λ e. (string_bytes e.0, f e.1)) es)
found_in f name es found value = option_map-copied f found ∙ ap (option_map f) value ∙ lookup-at_name f name es

-- what a map that is ordered has at a name, as it is found
module _ {X Y : Type 0} (f : X → Y) (name : List ℕ) (es : List (String Global × X)) (found : Option (Bor X)) (value : option_copied found ≡ lookup (is_at (λ k. slice_cmp nat_cmp name (string_bytes k))) es) where
  pub found_at : option_map (λ x. f x.now) found ≡ at_name name (map (λ e. (string_bytes e.0, f e.1)) es)
  found_at = option_map-copied f found ∙ ap (option_map f) value ∙ tree-at_name f name es

-- what holds of each value holds of the one that is found by its name
pub found_all : {X : Type 0} (P : X → Type 0) (name : List ℕ) (es : List (List ℕ × X)) (x : X) → AllByRecursion (λ e. P e.1) es → at_name name es ≡ Some x → P x
found_all P name [] x all e = cc
found_all {X} P name (d ∷ es) x all e = go (bytes_eq name d.0) e (found_all P name es x all.1)
  where
    go : (b : Bool) → cond b (Some d.1) (at_name name es) ≡ Some x → (at_name name es ≡ Some x → P x) → P x
    go true e ih = let same : d.1 ≡ x = cc in subst P same all.0
    go false e ih = ih e

pub found_every : {X : Type 0} (P : X → Type 0) (name : List ℕ) (es : List (List ℕ × X)) (x : X) → All (λ e. P e.1) es → at_name name es ≡ Some x → P x
found_every P name es x all e = found_all P name es x (recursion_from_All (λ e. P e.1) es all) e
