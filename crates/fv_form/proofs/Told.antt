-- A value has no misfit exactly where it is read.
use Rattle.std.proofs.Common.{◌≡◌, ℕ, suc, List, [], ◌∷◌, map, Bool, true, false, not, ◌&&◌, cond, if◌then◌else◌, Ordering, Less, Equal, Greater, Option, Some, None, option_map, option_and_then, is_some, nat_cmp, refl, sym, ap, ap₂, ◌∙◌}
use Rattle.std.specs.Cmp.Lexicographic.{slice_cmp}
use Rattle.std.specs.List.{list_any, list_all, find}
use Rattle.std.specs.Option.{option_or, option_map_or}
use Rattle.std.specs.Ordering.{match_ordering}
use Rattle.std.specs.Str.{bytes_eq}
use Rattle.serde_json.specs.Data as json
use Rattle.serde_json.specs.Find.{get_member}
use Rattle.fv_datum.specs.Forms.{only, each_member, each_item, map2, map3, map4, map5}
use Rattle.fv_datum.specs.Members.{pairs, listed, has_only, each_some}
use Rattle.fv_form.specs.Misfits.{Entry, Form, fits, unfit, items, members, object, Language, Misfit, item, member, under, here, is_strange, first_of, of_plain, of_array, of_object, stranger_in, first_misfit, in_items, in_members, in_entry, lacking, stranger}

-- nothing is found
abbrev pub none_in : {X : Type 0} → Option X → Bool
none_in o = not (is_some o)

-- ---- nothing is found in either, and both are read

pub or_none : {X : Type 0} (a b : Option X) → none_in (option_or a b) ≡ (none_in a && none_in b)
or_none None b = refl
or_none (Some x) b = refl

pub mapped : {X Y : Type 0} (g : X → Y) (o : Option X) → none_in (option_map g o) ≡ none_in o
mapped g None = refl
mapped g (Some x) = refl

pub map_read : {X Y : Type 0} (g : X → Y) (o : Option X) → is_some (option_map g o) ≡ is_some o
map_read g None = refl
map_read g (Some x) = refl

pub map2_read : {X Y Z : Type 0} (g : X → Y → Z) (x : Option X) (y : Option Y) → is_some (map2 g x y) ≡ (is_some x && is_some y)
map2_read g None y = refl
map2_read g (Some x) y = map_read (g x) y

pub map3_read : {W X Y Z : Type 0} (g : W → X → Y → Z) (w : Option W) (x : Option X) (y : Option Y) → is_some (map3 g w x y) ≡ (is_some w && (is_some x && is_some y))
map3_read g None x y = refl
map3_read g (Some w) x y = map2_read (g w) x y

pub map4_read : {V W X Y Z : Type 0} (g : V → W → X → Y → Z) (v : Option V) (w : Option W) (x : Option X) (y : Option Y) → is_some (map4 g v w x y) ≡ (is_some v && (is_some w && (is_some x && is_some y)))
map4_read g None w x y = refl
map4_read g (Some v) w x y = map3_read (g v) w x y

pub map5_read : {U V W X Y Z : Type 0} (g : U → V → W → X → Y → Z) (u : Option U) (v : Option V) (w : Option W) (x : Option X) (y : Option Y) → is_some (map5 g u v w x y) ≡ (is_some u && (is_some v && (is_some w && (is_some x && is_some y))))
map5_read g None v w x y = refl
map5_read g (Some u) v w x y = map4_read (g u) v w x y

pub and_true : (b : Bool) → (b && true) ≡ b
and_true true = refl
and_true false = refl

pub only_read : {X : Type 0} (b : Bool) (o : Option X) → is_some (if b then o else None) ≡ (b && is_some o)
only_read true o = refl
only_read false o = refl

more_read : {X : Type 0} (x : Option X) (rest : Option (List X)) → is_some (option_and_then (λ y. option_map (λ ys. y ∷ ys) rest) x) ≡ (is_some x && is_some rest)
more_read None rest = refl
more_read (Some x) rest = map_read (λ ys. x ∷ ys) rest

-- ---- nothing is found in any of so many

module _ {X : Type 0} where
  pub none1 : (a : Option X) (p : Bool) → none_in a ≡ p → none_in (first_of (a ∷ [])) ≡ p
  none1 a p ea = or_none a None ∙ and_true (none_in a) ∙ ea

  pub none2 : (a b : Option X) (p q : Bool) → none_in a ≡ p → none_in b ≡ q → none_in (first_of (a ∷ b ∷ [])) ≡ (p && q)
  none2 a b p q ea eb = or_none a (first_of (b ∷ [])) ∙ ap₂ (λ x y. x && y) ea (none1 b q eb)

  pub none3 : (a b c : Option X) (p q r : Bool) → none_in a ≡ p → none_in b ≡ q → none_in c ≡ r → none_in (first_of (a ∷ b ∷ c ∷ [])) ≡ (p && (q && r))
  none3 a b c p q r ea eb ec = or_none a (first_of (b ∷ c ∷ [])) ∙ ap₂ (λ x y. x && y) ea (none2 b c q r eb ec)

  pub none4 : (a b c d : Option X) (p q r s : Bool) → none_in a ≡ p → none_in b ≡ q → none_in c ≡ r → none_in d ≡ s → none_in (first_of (a ∷ b ∷ c ∷ d ∷ [])) ≡ (p && (q && (r && s)))
  none4 a b c d p q r s ea eb ec ed = or_none a (first_of (b ∷ c ∷ d ∷ [])) ∙ ap₂ (λ x y. x && y) ea (none3 b c d q r s eb ec ed)

  pub none5 : (a b c d e : Option X) (p q r s t : Bool) → none_in a ≡ p → none_in b ≡ q → none_in c ≡ r → none_in d ≡ s → none_in e ≡ t
      → none_in (first_of (a ∷ b ∷ c ∷ d ∷ e ∷ [])) ≡ (p && (q && (r && (s && t))))
  none5 a b c d e p q r s t ea eb ec ed ee = or_none a (first_of (b ∷ c ∷ d ∷ e ∷ [])) ∙ ap₂ (λ x y. x && y) ea (none4 b c d e q r s t eb ec ed ee)

-- ---- a leaf

pub leaf_told : {G : Type 0} (g : G) (b : Bool) → none_in (of_plain g (if b then fits else unfit)) ≡ b
leaf_told g true = refl
leaf_told g false = refl

pub leaf_array : {G : Type 0} (g : G) (b : Bool) (inside : G → Option (Misfit G)) → none_in (of_array g (if b then fits else unfit) inside) ≡ b
leaf_array g true inside = refl
leaf_array g false inside = refl

pub leaf_object : {G : Type 0} (g : G) (b : Bool) (inside : G → Option (Misfit G)) (entries : List (Entry G) → Option (Misfit G)) → none_in (of_object g (if b then fits else unfit) inside entries) ≡ b
leaf_object g true inside entries = refl
leaf_object g false inside entries = refl

-- ---- items and members

module _ {G : Type 0} (look : Language G) (h : G) where
  pub items_told : {X : Type 0} (f : json.Data → Option X) → ((j : json.Data) → none_in (first_misfit look h j) ≡ is_some (f j))
      → (n : ℕ) (js : json.Items) → none_in (in_items look h n js) ≡ is_some (each_some f (listed js))
  items_told f each n json.no_items = refl
  items_told f each n (json.item j js) =
      or_none (option_map (under (item n)) (first_misfit look h j)) (in_items look h (suc n) js)
      ∙ ap₂ (λ a b. a && b) (mapped (under (item n)) (first_misfit look h j) ∙ each j) (items_told f each (suc n) js) ∙ sym (more_read (f j) (each_some f (listed js)))

  pub members_told : {X : Type 0} (f : List ℕ × json.Data → Option X) → ((m : List ℕ × json.Data) → none_in (first_misfit look h m.1) ≡ is_some (f m))
      → (ms : json.Members) → none_in (in_members look h ms) ≡ is_some (each_some f (pairs ms))
  members_told f each json.no_members = refl
  members_told f each (json.member name j ms) =
      or_none (option_map (under (member name)) (first_misfit look h j)) (in_members look h ms)
      ∙ ap₂ (λ a b. a && b) (mapped (under (member name)) (first_misfit look h j) ∙ each (name, j)) (members_told f each ms) ∙ sym (more_read (f (name, j)) (each_some f (pairs ms)))

-- ---- entries

module _ {G : Type 0} (look : Language G) (g : G) where
  lacks : (e : Entry G) (b : Bool) → none_in (if b then Some (here g (lacking e.name)) else None) ≡ not b
  lacks e true = refl
  lacks e false = refl

  pub entry_told : (e : Entry G) (ms : json.Members) → none_in (in_entry look g e ms) ≡ option_map_or (λ j. none_in (first_misfit look e.form j)) (get_member e.name ms) (not e.required)
  entry_told e json.no_members = lacks e e.required
  entry_told e (json.member name j ms) = go (slice_cmp nat_cmp e.name name) (entry_told e ms)
    where
      go : (o : Ordering) → none_in (in_entry look g e ms) ≡ option_map_or (λ j. none_in (first_misfit look e.form j)) (get_member e.name ms) (not e.required)
          → none_in (match_ordering o (in_entry look g e ms) (option_map (under (member e.name)) (first_misfit look e.form j)) (in_entry look g e ms))
          ≡ option_map_or (λ j. none_in (first_misfit look e.form j)) (match_ordering o (get_member e.name ms) (Some j) (get_member e.name ms)) (not e.required)
      go Less later = later
      go Equal later = mapped (under (member e.name)) (first_misfit look e.form j)
      go Greater later = later

  -- an entry that has to be there, by what it is read as
  pub must_told : {X : Type 0} (name : List ℕ) (h : G) (f : json.Data → Option X) → ((j : json.Data) → none_in (first_misfit look h j) ≡ is_some (f j))
      → (ms : json.Members) → none_in (in_entry look g (record { name = name; required = true; form = h }) ms) ≡ is_some (option_and_then f (get_member name ms))
  must_told name h f each ms = entry_told (record { name = name; required = true; form = h }) ms ∙ go (get_member name ms)
    where
      go : (o : Option json.Data) → option_map_or (λ j. none_in (first_misfit look h j)) o false ≡ is_some (option_and_then f o)
      go None = refl
      go (Some j) = each j

  -- one that may be missing
  pub may_told : {X : Type 0} (name : List ℕ) (h : G) (x : X) (f : json.Data → Option X) → ((j : json.Data) → none_in (first_misfit look h j) ≡ is_some (f j))
      → (ms : json.Members) → none_in (in_entry look g (record { name = name; required = false; form = h }) ms) ≡ is_some (option_map_or f (get_member name ms) (Some x))
  may_told name h x f each ms = entry_told (record { name = name; required = false; form = h }) ms ∙ go (get_member name ms)
    where
      go : (o : Option json.Data) → option_map_or (λ j. none_in (first_misfit look h j)) o true ≡ is_some (option_map_or f o (Some x))
      go None = refl
      go (Some j) = each j

  -- one that may be missing, and is read as something or none
  pub maybe_told : {X : Type 0} (name : List ℕ) (h : G) (f : json.Data → Option X) → ((j : json.Data) → none_in (first_misfit look h j) ≡ is_some (f j))
      → (ms : json.Members) → none_in (in_entry look g (record { name = name; required = false; form = h }) ms) ≡ is_some (option_map_or (λ j. option_map (λ x. Some x) (f j)) (get_member name ms) (Some None))
  maybe_told name h f each ms = may_told name h None (λ j. option_map (λ x. Some x) (f j)) (λ j. each j ∙ sym (map_read (λ x. Some x) (f j))) ms

  none_strange : (t : List ℕ × json.Data → Bool) (ms : List (List ℕ × json.Data)) → none_in (find (λ m. not (t m)) ms) ≡ list_all t ms
  none_strange t [] = refl
  none_strange t (m ∷ ms) = go (t m) (none_strange t ms)
    where
      go : (b : Bool) → none_in (find (λ n. not (t n)) ms) ≡ list_all t ms → none_in (cond (not b) (Some m) (find (λ n. not (t n)) ms)) ≡ (b && list_all t ms)
      go true later = later
      go false later = refl

  -- all members are those of entries
  abbrev pub has_known : List (Entry G) → json.Members → Bool
  has_known es ms = list_all (λ m. list_any (λ e. bytes_eq e.name m.0) es) (pairs ms)

  -- what is found in an object with these entries and no others
  abbrev pub in_object : List (Entry G) → json.Members → Option (Misfit G)
  in_object es ms = option_or (stranger_in g es ms) (first_of (map (λ e. in_entry look g e ms) es))

  pub object_told : (es : List (Entry G)) (ms : json.Members) → none_in (in_object es ms) ≡ (has_known es ms && none_in (first_of (map (λ e. in_entry look g e ms) es)))
  object_told es ms =
      or_none (stranger_in g es ms) (first_of (map (λ e. in_entry look g e ms) es))
      ∙ ap (λ b. b && none_in (first_of (map (λ e. in_entry look g e ms) es)))
      (mapped (λ m. under (member m.0) (here g stranger)) (find (λ m. is_strange es m.0) (pairs ms)) ∙ none_strange (λ m. list_any (λ e. bytes_eq e.name m.0) es) (pairs ms))

  -- the same, where its entries are right exactly where it is read
  pub only_told : {X : Type 0} (es : List (Entry G)) (ms : json.Members) (b : Bool) (read : Option X) → has_known es ms ≡ b → none_in (first_of (map (λ e. in_entry look g e ms) es)) ≡ is_some read
      → none_in (in_object es ms) ≡ is_some (if b then read else None)
  only_told es ms b read known right = object_told es ms ∙ ap₂ (λ x y. x && y) known right ∙ sym (only_read b read)

-- ---- values of which one thing is asked

module _ {G : Type 0} (look : Language G) (g : G) where
  -- an object with these entries and no others
  pub object_kept : {X : Type 0} (es : List (Entry G)) (names : List (List ℕ)) (f : json.Data → Option X) → ((j : json.Data) → look g j ≡ object es)
      → ((ms : json.Members) → has_known look g es ms ≡ has_only names (json.object ms))
      → ((ms : json.Members) → none_in (first_of (map (λ e. in_entry look g e ms) es)) ≡ is_some (f (json.object ms)))
      → (j : json.Data) → none_in (first_misfit look g j) ≡ is_some (only names f j)
  object_kept es names f asks known right json.null = ap (λ (form : Form G). none_in (of_plain g form)) (asks json.null)
  object_kept es names f asks known right (json.boolean b) = ap (λ (form : Form G). none_in (of_plain g form)) (asks (json.boolean b))
  object_kept es names f asks known right (json.number n) = ap (λ (form : Form G). none_in (of_plain g form)) (asks (json.number n))
  object_kept es names f asks known right (json.string s) = ap (λ (form : Form G). none_in (of_plain g form)) (asks (json.string s))
  object_kept es names f asks known right (json.array js) = ap (λ (form : Form G). none_in (of_array g form (λ h. in_items look h 0 js))) (asks (json.array js))
  object_kept es names f asks known right (json.object ms) =
      ap (λ (form : Form G). none_in (of_object g form (λ h. in_members look h ms) (λ es. in_object look g es ms))) (asks (json.object ms))
      ∙ only_told look g es ms (has_only names (json.object ms)) (f (json.object ms)) (known ms) (right ms)

  -- an object whose members are of a form
  pub members_kept : {X : Type 0} (h : G) (f : List ℕ × json.Data → Option X) → ((j : json.Data) → look g j ≡ members h)
      → ((m : List ℕ × json.Data) → none_in (first_misfit look h m.1) ≡ is_some (f m)) → (j : json.Data) → none_in (first_misfit look g j) ≡ is_some (each_member f j)
  members_kept h f asks each json.null = ap (λ (form : Form G). none_in (of_plain g form)) (asks json.null)
  members_kept h f asks each (json.boolean b) = ap (λ (form : Form G). none_in (of_plain g form)) (asks (json.boolean b))
  members_kept h f asks each (json.number n) = ap (λ (form : Form G). none_in (of_plain g form)) (asks (json.number n))
  members_kept h f asks each (json.string s) = ap (λ (form : Form G). none_in (of_plain g form)) (asks (json.string s))
  members_kept h f asks each (json.array js) = ap (λ (form : Form G). none_in (of_array g form (λ h. in_items look h 0 js))) (asks (json.array js))
  members_kept h f asks each (json.object ms) =
      ap (λ (form : Form G). none_in (of_object g form (λ h. in_members look h ms) (λ es. in_object look g es ms))) (asks (json.object ms)) ∙ members_told look h f each ms

  -- an array whose items are of a form
  pub items_kept : {X : Type 0} (h : G) (f : json.Data → Option X) → ((j : json.Data) → look g j ≡ items h)
      → ((j : json.Data) → none_in (first_misfit look h j) ≡ is_some (f j)) → (j : json.Data) → none_in (first_misfit look g j) ≡ is_some (each_item f j)
  items_kept h f asks each json.null = ap (λ (form : Form G). none_in (of_plain g form)) (asks json.null)
  items_kept h f asks each (json.boolean b) = ap (λ (form : Form G). none_in (of_plain g form)) (asks (json.boolean b))
  items_kept h f asks each (json.number n) = ap (λ (form : Form G). none_in (of_plain g form)) (asks (json.number n))
  items_kept h f asks each (json.string s) = ap (λ (form : Form G). none_in (of_plain g form)) (asks (json.string s))
  items_kept h f asks each (json.array js) = ap (λ (form : Form G). none_in (of_array g form (λ h. in_items look h 0 js))) (asks (json.array js)) ∙ items_told look h f each 0 js
  items_kept h f asks each (json.object ms) =
      ap (λ (form : Form G). none_in (of_object g form (λ h. in_members look h ms) (λ es. in_object look g es ms))) (asks (json.object ms))

  -- a leaf
  pub leaf_kept : (b : json.Data → Bool) → ((j : json.Data) → look g j ≡ (if b j then fits else unfit)) → (j : json.Data) → none_in (first_misfit look g j) ≡ b j
  leaf_kept b asks json.null = ap (λ (form : Form G). none_in (of_plain g form)) (asks json.null) ∙ leaf_told g (b json.null)
  leaf_kept b asks (json.boolean x) = ap (λ (form : Form G). none_in (of_plain g form)) (asks (json.boolean x)) ∙ leaf_told g (b (json.boolean x))
  leaf_kept b asks (json.number n) = ap (λ (form : Form G). none_in (of_plain g form)) (asks (json.number n)) ∙ leaf_told g (b (json.number n))
  leaf_kept b asks (json.string s) = ap (λ (form : Form G). none_in (of_plain g form)) (asks (json.string s)) ∙ leaf_told g (b (json.string s))
  leaf_kept b asks (json.array js) =
      ap (λ (form : Form G). none_in (of_array g form (λ h. in_items look h 0 js))) (asks (json.array js)) ∙ leaf_array g (b (json.array js)) (λ h. in_items look h 0 js)
  leaf_kept b asks (json.object ms) =
      ap (λ (form : Form G). none_in (of_object g form (λ h. in_members look h ms) (λ es. in_object look g es ms))) (asks (json.object ms))
      ∙ leaf_object g (b (json.object ms)) (λ h. in_members look h ms) (λ es. in_object look g es ms)
