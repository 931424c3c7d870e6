-- Names that ascend, in a map that keeps the order of insertion: one above those before it goes last.
use Rattle.std.proofs.Common.{◌≡◌, ℕ, ◌+◌, ◌<◌, ◌≤◌, List, [], ◌∷◌, ◌++◌, length, get_or, drop, map, false, String, Less, string_bytes, nat_cmp, bytes_eq, is_eq, refl, sym, ap, ◌∙◌, append_assoc, append-nil, add-one, drop-cons}
use Rattle.std.proofs.lemmas.List.{map-append, at_drop_all}
use Rattle.std.proofs.lemmas.Map.Keys.{sorted_head, sorted_tail}
use Rattle.std.proofs.lemmas.Map.Text.{is_eq-slice_cmp}
use Rattle.std.specs.declared.alloc.Global.{Global}
use Rattle.std.specs.Cmp.Lexicographic.{slice_cmp}
use Rattle.std.specs.List.Sorted.{IsStrictlySortedBy}
use Rattle.std.specs.Map.{keys_of}
use Rattle.std.specs.String.{string_eq}
use Rattle.indexmap.specs.IndexMap as indexed
use Rattle.fv_datum.specs.Ascending.{IsAscending}
use Rattle.fv_datum.specs.EntryNames.{names_of}
use Rattle.fv_datum.proofs.Sorted.{below_middle, above_middle, above}

other : (first name : List ℕ) → slice_cmp nat_cmp first name ≡ Less → bytes_eq name first ≡ false
other first name h = sym (is_eq-slice_cmp name first) ∙ ap is_eq (above first name h)

-- a key above those before it goes last
pub insert_last : {X : Type 0} (es : List (String Global × X)) (k : String Global) (x : X) (more : List (List ℕ)) → IsAscending (names_of es ++ string_bytes k ∷ more) → indexed.insert_entry string_eq es k x ≡ es ++ (k, x) ∷ []
unfolding IsStrictlySortedBy
insert_last [] k x more h = refl
insert_last (e ∷ es) k x more h =
    rw (other (string_bytes e.0) (string_bytes k) (above_middle (string_bytes e.0) (names_of es) (string_bytes k) more h.0)) (ap (λ rest. e ∷ rest) (insert_last es k x more h.1))

-- the entries after a key goes last
module _ {X : Type 0} (es new : List (String Global × X)) (k : String Global) (x : X) (name : List ℕ) (more : List (List ℕ)) where
  pub entries_insert : {Y : Type 0} (f : String Global × X → Y) → string_bytes k ≡ name → IsAscending (names_of es ++ name ∷ more) → new ≡ indexed.insert_entry string_eq es k x → map f new ≡ map f es ++ f (k, x) ∷ []
  entries_insert f is h e = let last : IsAscending (names_of es ++ string_bytes k ∷ more) = rw is h in ap (map f) (e ∙ insert_last es k x more last) ∙ map-append f es ((k, x) ∷ [])

-- ---- the same, of entries as they are seen

module _ {K V X : Type 0} (name : K → List ℕ) (view : V → X) where
  -- what entries are seen as
  abbrev pub all_seen : List (K × V) → List (List ℕ × X)
  all_seen = map (λ e. (name e.0, view e.1))

  -- an entry whose name is above those before it goes last
  pub seen_last : (es : List (K × V)) (k : K) (v : V) (more : List (List ℕ × X)) → IsAscending (keys_of (all_seen es ++ (name k, view v) ∷ more))
      → all_seen (indexed.insert_entry (λ a b. bytes_eq (name a) (name b)) es k v) ++ more ≡ all_seen es ++ (name k, view v) ∷ more
  seen_last [] k v more h = refl
  seen_last (e ∷ es) k v more h =
      let rest = keys_of (all_seen es ++ (name k, view v) ∷ more) in
      let below = below_middle (name e.0) (name k) (view v) (all_seen es) more (sorted_head (slice_cmp nat_cmp) (name e.0) rest h) in
      let later = seen_last es k v more (sorted_tail (slice_cmp nat_cmp) (name e.0) rest h) in
      rw (other (name e.0) (name k) below) (ap (λ xs. (name e.0, view e.1) ∷ xs) later)

-- ---- steps of the loops that build a map: what is built, and what is still to come

pub map_turn : {X Y : Type 0} (f : X → Y) (xs : List X) (i : ℕ) (x : X) → i < length xs → x ≡ get_or xs i x → map f (drop i xs) ≡ f x ∷ map f (drop (i + 1) xs)
map_turn f xs i x h is = rw (add-one, drop-cons xs i x h, ← is) refl

pub map_twice : {X Y Z : Type 0} (f : X → Y) (g : Y → Z) (xs : List X) → map (λ x. g (f x)) xs ≡ map g (map f xs)
map_twice f g [] = refl
map_twice f g (x ∷ xs) = ap (λ ys. g (f x) ∷ ys) (map_twice f g xs)

-- what is made of all, where none is to come
pub all_made : {X Y Z : Type 0} (f : X → Y) (g : Y → Z) (xs : List X) (i : ℕ) (made : List Z) → length xs ≤ i → made ++ map (λ x. g (f x)) (drop i xs) ≡ map (λ x. g (f x)) xs → made ≡ map g (map f xs)
all_made f g xs i made h e = sym (append-nil made) ∙ ap (λ more. made ++ more) (sym (at_drop_all (map (λ x. g (f x))) xs i h)) ∙ e ∙ map_twice f g xs

module _ {X V : Type 0} (name : X → List ℕ) (xs : List X) (i : ℕ) (x : X) (es new : List (String Global × V)) (k : String Global) (v : V) where
  next : i < length xs → x ≡ get_or xs i x → IsAscending (map name xs) → names_of es ++ map name (drop i xs) ≡ map name xs → IsAscending (names_of es ++ name x ∷ map name (drop (i + 1) xs))
  next h is all names =
      let turned : names_of es ++ name x ∷ map name (drop (i + 1) xs) ≡ map name xs = ap (λ ns. names_of es ++ ns) (sym (map_turn name xs i x h is)) ∙ names in
      rw turned all

  pub insert_names : i < length xs → x ≡ get_or xs i x → IsAscending (map name xs) → names_of es ++ map name (drop i xs) ≡ map name xs → string_bytes k ≡ name x → new ≡ indexed.insert_entry string_eq es k v
      → names_of new ++ map name (drop (i + 1) xs) ≡ map name xs
  insert_names h is all names same e =
      ap (λ ns. ns ++ map name (drop (i + 1) xs)) (entries_insert es new k v (name x) (map name (drop (i + 1) xs)) (λ e. string_bytes e.0) same (next h is all names) e ∙ ap (λ n. names_of es ++ n ∷ []) same)
      ∙ append_assoc (names_of es) (name x ∷ []) (map name (drop (i + 1) xs)) ∙ ap (λ ns. names_of es ++ ns) (sym (map_turn name xs i x h is)) ∙ names

  pub insert_entries : i < length xs → x ≡ get_or xs i x → IsAscending (map name xs) → names_of es ++ map name (drop i xs) ≡ map name xs → string_bytes k ≡ name x → new ≡ indexed.insert_entry string_eq es k v
      → {Y : Type 0} (f : String Global × V → Y) (g : X → Y) → f (k, v) ≡ g x → map f es ++ map g (drop i xs) ≡ map g xs → map f new ++ map g (drop (i + 1) xs) ≡ map g xs
  insert_entries h is all names same e f g here made =
      ap (λ ys. ys ++ map g (drop (i + 1) xs)) (entries_insert es new k v (name x) (map name (drop (i + 1) xs)) f same (next h is all names) e ∙ ap (λ y. map f es ++ y ∷ []) here)
      ∙ append_assoc (map f es) (g x ∷ []) (map g (drop (i + 1) xs)) ∙ ap (λ ys. map f es ++ ys) (sym (map_turn g xs i x h is)) ∙ made
