-- What the query of the objects of a record shows: each once, ascending by the names.
use Rattle.std.proofs.Common.{◌≡◌, ◌&&◌, ◌+◌, ◌≤◌, ◌<◌, inl, inr, ℕ, ℤ, zero, suc, List, [], ◌∷◌, map, flat_map, length, get_or, sum_by, Bool, true, false, cond, if◌then◌else◌, bytes_eq, Option, Some, refl, sym, ap, ap₂, subst, subst₂, add-one, ◌∙◌, arith, nat_cmp}
use Rattle.std.specs.List.{list_all, AllByRecursion}
use Rattle.std.specs.List.Sorted.{IsStrictlySortedBy}
use Rattle.std.specs.declared.cmp.Ordering.{Ordering}
use Rattle.std.specs.declared.cmp.Ordering.TheVariants.{Less, Equal, Greater}
use Rattle.std.specs.Ordering.{int_cmp, is_lt, ordering_then, ordering_reverse}
use Rattle.std.specs.Cmp.Lexicographic.{slice_cmp}
use Rattle.std.proofs.lemmas.Int.{ints}
use Rattle.std.proofs.lemmas.Bool.{cases_Bool, and_parts}
use Rattle.std.proofs.lemmas.Bool.Decides.{nat_tests}
use Rattle.std.proofs.lemmas.Cmp.{nat_list_cmp_total, tied_itself}
use Rattle.std.proofs.lemmas.Map.Lookups.{exact_bytes}
use Rattle.std.proofs.lemmas.Slice.Eq.{bytes_eq-Decides}
use Rattle.std.proofs.lemmas.List.Sums.{sum_by-cons}
use Rattle.std.proofs.lemmas.List.Sorted.{sum_by-IsPermutation}
use Rattle.sqlite.specs.declared.types.Value.TheVariants.{Int, Text}
use Rattle.sqlite.specs.Order.{Row, column, bytes, value_cmp}
use Rattle.sqlite.specs.Tree.{Trees, IsTable, rowid}
use Rattle.sqlite_value.proofs.OrderLemmas.{value_cmp-Int, value_cmp-Text}
use Rattle.sqlite_rules.specs.Lists.{Has}
use Rattle.sqlite_rules.proofs.ListLemmas.{all_has, has_at}
use Rattle.sqlite_rules.proofs.ProbeLemmas.{has_mapped, mapped_has}
use Rattle.sqlite.specs.Term.{holds}
use Rattle.sqlite.specs.Query.{Output, output, output_cmp, matches, inner, end, IsAnswer}
use Rattle.sqlite.specs.Program.{overlay}
use Rattle.fv_store_tables.specs.Rows.{IsRowOf, HasRows}
use Rattle.fv_store_tables.specs.Stands.{ObjectTexts, ObjectKey, part_row, IsTextPart, part_at, shown_part}
use Rattle.fv_store_tables.specs.Changes.{AllTexts, IsNamed}
use Rattle.fv_store_tables.proofs.Texts.{parts_query, by_first}
use Rattle.fv_store_tables.proofs.Layouts.{parts}
use Rattle.fv_store_tables.proofs.OneTable.{kept, ordered_sound, ordered_complete, part_by_id}
use Rattle.fv_store_tables.proofs.Objects.{same_id, below_apart}

-- the object that an output shows
abbrev pub thing_of : Output → List ℕ × ObjectTexts
thing_of o = (bytes (column o.1 0), record { kind = bytes (column o.1 1); fields = bytes (column o.1 2) })

abbrev pub name_of : Output → List ℕ
name_of o = bytes (column o.1 0)

-- ---- no name is shown twice

module _ (id name : List ℕ) where
  abbrev pub hit : Row → ℕ
  hit r = if bytes_eq (bytes (column r 1)) id && bytes_eq (bytes (column r 2)) name then 1 else 0

  none_hit : (rs : List Row) → ((r : Row) → Has rs r → hit r ≡ 0) → sum_by hit rs ≡ 0
  none_hit [] each = refl
  none_hit (r ∷ rs) each = let step : sum_by hit (r ∷ rs) ≡ hit r + sum_by hit rs = sum_by-cons hit r rs in let head = each r (inl refl) in let tail = none_hit rs (λ x h. each x (inr h)) in omega arith

  not_below : (n : ℤ) → int_cmp n n ≡ Less → ⊥
  not_below n h = grind (arith, ints, nat_tests)

  pub at_most_once : (m : ObjectKey → Option ObjectTexts) (rs : List Row) → HasRows part_row IsTextPart rs m → sum_by hit rs ≤ 1
  at_most_once m rs s = go rs s.apart s.sound s.once
    where
      key_is : (row : Row) (it : IsRowOf part_row IsTextPart m row) → (bytes_eq (bytes (column row 1)) id && bytes_eq (bytes (column row 2)) name) ≡ true → it.key ≡ (id, name)
      key_is row it same =
          let both = and_parts _ _ same in
          let one : it.key.0 ≡ id = ap (λ (r : Row). bytes (column r 1)) (sym it.is) ∙ (bytes_eq-Decides (bytes (column row 1)) id).0 both.0 in
          let two : it.key.1 ≡ name = ap (λ (r : Row). bytes (column r 2)) (sym it.is) ∙ (bytes_eq-Decides (bytes (column row 2)) name).0 both.1 in
          ap₂ (λ (a b : List ℕ). (a, b)) one two

      go : (xs : List Row) → IsTable xs → ((r : Row) → Has xs r → IsRowOf part_row IsTextPart m r) → ((i n : ℤ) (k : ObjectKey) (v w : ObjectTexts) → Has xs (part_row i k v) → Has xs (part_row n k w) → i ≡ n) → sum_by hit xs ≤ 1
      go [] up rows once = omega arith
      go (x ∷ xs) up rows once = let step : sum_by hit (x ∷ xs) ≡ hit x + sum_by hit xs = sum_by-cons hit x xs in elim (cases_Bool (bytes_eq (bytes (column x 1)) id && bytes_eq (bytes (column x 2)) name)) [
        | inr other ↦ let rest = go xs up.1 (λ r h. rows r (inr h)) (λ i n k v w p q. once i n k v w (inr p) (inr q)) in let head : hit x ≡ 0 = rw other refl in omega arith
        | inl same ↦
            let head : hit x ≡ 1 = rw same refl in
            let later = none_hit xs (λ y h. elim (cases_Bool (bytes_eq (bytes (column y 1)) id && bytes_eq (bytes (column y 2)) name)) [
              | inr other ↦ rw other refl
              | inl too ↦ absurd (
                  let rx = rows x (inl refl) in
                  let ry = rows y (inr h) in
                  let kx = key_is x rx same in
                  let ky = key_is y ry too in
                  let here : Has (x ∷ xs) (part_row rx.number (id, name) rx.value) = inl (ap (λ k. part_row rx.number k rx.value) (sym kx) ∙ sym rx.is) in
                  let there : Has (x ∷ xs) (part_row ry.number (id, name) ry.value) = inr (subst (Has xs) (ry.is ∙ ap (λ k. part_row ry.number k ry.value) ky) h) in
                  let number : rx.number ≡ ry.number = once rx.number ry.number (id, name) rx.value ry.value here there in
                  let less : value_cmp (rowid x) (rowid y) ≡ Less = all_has (λ r. value_cmp (rowid x) (rowid r) ≡ Less) xs y up.0 h in
                  let both : value_cmp (Int rx.number) (Int ry.number) ≡ Less = subst₂ (λ (a b : Row). value_cmp (rowid a) (rowid b) ≡ Less) rx.is ry.is less in
                  not_below rx.number (sym (value_cmp-Int rx.number rx.number) ∙ subst (λ n. value_cmp (Int rx.number) (Int n) ≡ Less) (sym number) both))
            ]) in
            omega arith
      ]

pub sum_by-map : {X Y : Type 0} (f : Y → ℕ) (g : X → Y) (xs : List X) → sum_by f (map g xs) ≡ sum_by (λ x. f (g x)) xs
sum_by-map f g [] = refl
sum_by-map f g (x ∷ xs) = sum_by-cons f (g x) (map g xs) ∙ ap (λ n. f (g x) + n) (sum_by-map f g xs) ∙ sym (sum_by-cons (λ z. f (g z)) x xs)

pub le_by : {a b : ℕ} → a ≡ b → b ≤ 1 → a ≤ 1
le_by e h = omega arith

pub both_le : {a b : ℕ} → a ≤ b → b ≤ 1 → a ≤ 1
both_le e h = omega arith

-- two places that count make two
pub two_hits : {X : Type 0} (f : X → ℕ) (xs : List X) (k : ℕ) (d : X) → k + 1 < length xs → f (get_or xs k d) ≡ 1 → f (get_or xs (suc k) d) ≡ 1 → 2 ≤ sum_by f xs
two_hits f [] k d h a b = absurd (omega arith)
two_hits f (x ∷ []) k d h a b = absurd (omega arith)
two_hits f (x ∷ y ∷ xs) zero d h a b = let step = sum_by-cons f x (y ∷ xs) in let next = sum_by-cons f y xs in omega arith
two_hits f (x ∷ y ∷ xs) (suc k) d h a b = let step : sum_by f (x ∷ y ∷ xs) ≡ f x + sum_by f (y ∷ xs) = sum_by-cons f x (y ∷ xs) in let rest = two_hits f (y ∷ xs) k d (omega arith) a b in omega arith

-- the outputs of the rows that pass count no more than the rows
pub fewer : {X Y : Type 0} (test : X → Bool) (out : X → Y) (f : Y → ℕ) (g : X → ℕ) (xs : List X) → ((x : X) → Has xs x → test x ≡ true → f (out x) ≡ g x) → sum_by f (flat_map (λ x. cond (test x) (out x ∷ []) []) xs) ≤ sum_by g xs
fewer test out f g [] same = omega arith
fewer test out f g (x ∷ xs) same =
    let step : sum_by g (x ∷ xs) ≡ g x + sum_by g xs = sum_by-cons g x xs in
    let rest = fewer test out f g xs (λ y h. same y (inr h)) in
    elim (cases_Bool (test x)) [
      | inl passes ↦ let here = same x (inl refl) passes in rw passes (let more = sum_by-cons f (out x) (flat_map (λ z. cond (test z) (out z ∷ []) []) xs) in omega arith)
      | inr fails ↦ rw fails (omega arith)
    ]

pub get_or_same : {X : Type 0} (xs : List X) (i : ℕ) (d : X) → i < length xs → get_or xs i d ≡ get_or xs i (get_or xs i d)
get_or_same [] i d h = absurd (omega arith)
get_or_same (x ∷ xs) zero d h = refl
get_or_same (x ∷ xs) (suc i) d h = get_or_same xs i d (omega arith)

-- what is neither below nor the same is above
pub strictly : (s t : List ℕ) → is_lt (slice_cmp nat_cmp s t) ≡ false → bytes_eq s t ≡ false → slice_cmp nat_cmp t s ≡ Less
strictly s t low apart = nat_list_cmp_total.antisymm t s ∙ go (slice_cmp nat_cmp s t) refl low
  where
    go : (o : Ordering) → slice_cmp nat_cmp s t ≡ o → is_lt o ≡ false → ordering_reverse o ≡ Less
    go Less is h = cc
    go Equal is h = absurd (let same = (bytes_eq-Decides s t).1 (exact_bytes s t is) in cc)
    go Greater is h = refl

pub all_above : (k l : List ℕ) (ns : List (List ℕ)) → slice_cmp nat_cmp k l ≡ Less → AllByRecursion (λ n. slice_cmp nat_cmp l n ≡ Less) ns → AllByRecursion (λ n. slice_cmp nat_cmp k n ≡ Less) ns
all_above k l [] below all = tt
all_above k l (n ∷ ns) below all = (nat_list_cmp_total.trans k l n below all.0, all_above k l ns below all.1)

-- where each is below its neighbour, each is below all that follow
ascending : (xs : List Output) → ((k : ℕ) (d : Output) → suc k < length xs → slice_cmp nat_cmp (name_of (get_or xs k d)) (name_of (get_or xs (suc k) d)) ≡ Less) → IsNamed (map thing_of xs)
unfolding IsStrictlySortedBy
ascending [] h = tt
ascending (x ∷ []) h = (tt, tt)
ascending (x ∷ y ∷ xs) h =
    let below : slice_cmp nat_cmp (name_of x) (name_of y) ≡ Less = h 0 x (omega arith) in
    let more = ascending (y ∷ xs) (λ k d within. h (suc k) d (omega arith)) in
    ((below, all_above (name_of x) (name_of y) (map (λ (o : List ℕ × ObjectTexts). o.0) (map thing_of xs)) below more.0), more)

each_shows : (xs : List Output) → ((o : Output) → Has xs o → o.1 ≡ shown_part (thing_of o)) → map (λ (o : Output). o.1) xs ≡ map shown_part (map thing_of xs)
each_shows [] each = refl
each_shows (x ∷ xs) each = ap₂ (λ (r : Row) rs. r ∷ rs) (each x (inl refl)) (each_shows xs (λ o h. each o (inr h)))

lesser : (s t : List ℕ) (a b : Row) → is_lt (output_cmp parts_query (Text s ∷ [], a) (Text t ∷ [], b)) ≡ false → is_lt (slice_cmp nat_cmp s t) ≡ false
lesser s t a b h = go (slice_cmp nat_cmp s t) (rw (value_cmp-Text s t) at h)
  where
    go : (o : Ordering) → is_lt (ordering_then o Equal) ≡ false → is_lt o ≡ false
    go Less e = e
    go Equal e = refl
    go Greater e = refl

module _ (db : Trees) (m : ObjectKey → Option ObjectTexts) (id : List ℕ) (rows : List Row) (s : HasRows part_row IsTextPart (db 3) m) (a : IsAnswer parts_query (overlay db []) (Text id ∷ []) rows) where
  abbrev given : Row
  given = Text id ∷ []

  abbrev shows : List ℕ → Output → ℕ
  shows name o = if bytes_eq (name_of o) name then 1 else 0

  shown_once : (name : List ℕ) → sum_by (shows name) a.ordered ≤ 1
  shown_once name =
      let all = kept 3 by_first parts_query.project parts_query.order parts_query.limit (overlay db []) given rows a in
      let moved = sum_by-IsPermutation (shows name) a.kept a.ordered a.same in
      let mapped = ap (sum_by (shows name)) all in
      let through = sum_by-map (shows name) (output parts_query) (matches (overlay db []) by_first (inner 3 end) (given ∷ [])) in
      let less = fewer (λ r. list_all (holds (given ∷ r ∷ [])) by_first) (λ r. given ∷ r ∷ []) (λ e. shows name (output parts_query e)) (hit id name) (db 3)
      (λ r there passes.
      let it = s.sound r there in
      let key : bytes_eq it.key.0 id ≡ true = sym (part_by_id m id [] r it) ∙ passes in
      rw (it.is, key) refl) in
      let most = at_most_once id name m (db 3) s in
      le_by (moved ∙ mapped ∙ through) (both_le less most)

  differ : (k : ℕ) (o : Output) → suc k < length a.ordered → bytes_eq (name_of (get_or a.ordered (suc k) o)) (name_of (get_or a.ordered k o)) ≡ false
  differ k o h = elim (cases_Bool (bytes_eq (name_of (get_or a.ordered (suc k) o)) (name_of (get_or a.ordered k o)))) [
    | inr other ↦ other
    | inl same ↦
        let name = name_of (get_or a.ordered k o) in
        let two = two_hits (shows name) a.ordered k o (omega arith) (rw (same_id name) refl) (rw same refl) in
        let one = shown_once name in
        absurd (omega arith)
  ]

  -- each output shows an object of the record
  shape : (o : Output) → Has a.ordered o → (name : List ℕ) × (p : ObjectTexts) × (m (id, name) ≡ Some p) × IsTextPart (id, name) p × (o ≡ (Text name ∷ [], shown_part (name, p)))
  shape o h =
      let r = ordered_sound 3 by_first parts_query.project parts_query.order parts_query.limit (overlay db []) given rows a o h in
      let it = s.sound r.0 r.1 in
      let key : it.key.0 ≡ id = (bytes_eq-Decides it.key.0 id).0 (sym (part_by_id m id [] r.0 it) ∙ r.2) in (
        it.key.1,
        it.value,
        ap (λ k. m (k, it.key.1)) (sym key) ∙ it.known,
        subst (λ k. IsTextPart (k, it.key.1) it.value) key it.good,
        r.3 ∙ ap (λ (v : Row). (column v 2 ∷ [], column v 2 ∷ column v 3 ∷ column v 4 ∷ [])) it.is,
      )

  abbrev pub things : AllTexts
  things = map thing_of a.ordered

  pub things_sound : (x : List ℕ × ObjectTexts) → Has things x → (m (id, x.0) ≡ Some x.1) × IsTextPart (id, x.0) x.1
  things_sound x h =
      let o = has_mapped thing_of a.ordered x h in
      let r = shape o.0 o.1 in
      let is : x ≡ (r.0, r.1) = o.2 ∙ ap thing_of r.4 in
      subst (λ (y : List ℕ × ObjectTexts). (m (id, y.0) ≡ Some y.1) × IsTextPart (id, y.0) y.1) (sym is) (r.2, r.3)

  pub things_complete : (name : List ℕ) (p : ObjectTexts) → m (id, name) ≡ Some p → Has things (name, p)
  things_complete name p is =
      let there = s.complete (id, name) p is in
      let row = part_row there.0 (id, name) p in
      let it = s.sound row there.1 in
      let key : (id, name) ≡ it.key = parts.keyed there.0 it.number (id, name) it.key p it.value it.is in
      let passes = part_by_id m id [] row it ∙ ap (λ (k : ObjectKey). bytes_eq k.0 id) (sym key) ∙ same_id id in
      mapped_has thing_of a.ordered _ (ordered_complete 3 by_first parts_query.project parts_query.order parts_query.limit (overlay db []) given rows a row there.1 passes)

  next_above : (k : ℕ) (o : Output) → suc k < length a.ordered → slice_cmp nat_cmp (name_of (get_or a.ordered k o)) (name_of (get_or a.ordered (suc k) o)) ≡ Less
  next_above k o within =
      let x = get_or a.ordered (suc k) o in
      let y = get_or a.ordered k o in
      let sx = shape x (has_at a.ordered (suc k) x (omega arith) (get_or_same a.ordered (suc k) o (omega arith))) in
      let sy = shape y (has_at a.ordered k y (omega arith) (get_or_same a.ordered k o (omega arith))) in
      let least : is_lt (output_cmp parts_query x y) ≡ false = rw add-one at (a.sorted k o (omega arith) (omega arith)) in
      let below = subst₂ (λ (p q : Output). is_lt (output_cmp parts_query p q) ≡ false) sx.4 sy.4 least in
      let apart : bytes_eq sx.0 sy.0 ≡ false = subst₂ (λ (p q : Output). bytes_eq (name_of p) (name_of q) ≡ false) sx.4 sy.4 (differ k o within) in
      subst₂ (λ (p q : Output). slice_cmp nat_cmp (name_of q) (name_of p) ≡ Less) (sym sx.4) (sym sy.4) (strictly sx.0 sy.0 (lesser sx.0 sy.0 (shown_part (sx.0, sx.1)) (shown_part (sy.0, sy.1)) below) apart)

  pub things_named : IsNamed things
  things_named = ascending a.ordered next_above

  pub rows_are : rows ≡ map shown_part things
  rows_are = a.shown ∙ each_shows a.ordered (λ o h. let it = shape o h in ap (λ (x : Output). x.1) it.4 ∙ ap shown_part (sym (ap thing_of it.4)))

-- ---- two lists of objects in order with the same members are one

part_has : (name : List ℕ) (p : ObjectTexts) (os : AllTexts) → part_at name os ≡ Some p → Has os (name, p)
part_has name p [] is = absurd cc
part_has name p (o ∷ os) is = elim (cases_Bool (bytes_eq name o.0)) [
  | inl same ↦
      let key = (bytes_eq-Decides name o.0).0 same in
      let value : Some o.1 ≡ Some p = rw same at is in
      let value_is : o.1 ≡ p = cc in
      inl (ap₂ (λ (n : List ℕ) (v : ObjectTexts). (n, v)) key (sym value_is))
  | inr other ↦ inr (part_has name p os (rw other at is))
]

above_has : (k : List ℕ) (os : AllTexts) → AllByRecursion (λ n. slice_cmp nat_cmp k n ≡ Less) (map (λ (o : List ℕ × ObjectTexts). o.0) os) → (x : List ℕ × ObjectTexts) → Has os x → slice_cmp nat_cmp k x.0 ≡ Less
above_has k [] all x h = absurd h
above_has k (o ∷ os) all x (inl is) = subst (λ (y : List ℕ × ObjectTexts). slice_cmp nat_cmp k y.0 ≡ Less) (sym is) all.0
above_has k (o ∷ os) all x (inr later) = above_has k os all.1 x later

pub has_part : (os : AllTexts) → IsNamed os → (x : List ℕ × ObjectTexts) → Has os x → part_at x.0 os ≡ Some x.1
unfolding IsStrictlySortedBy
has_part [] named x h = absurd h
has_part (o ∷ os) named x (inl is) = rw (is, same_id o.0) refl
has_part (o ∷ os) named x (inr later) = rw (below_apart o.0 x.0 (above_has o.0 os named.0 x later)) (has_part os named.1 x later)

never_less : (a : List ℕ) → slice_cmp nat_cmp a a ≡ Less → ⊥
never_less a less = let tied = tied_itself nat_list_cmp_total a in cc

same_things : (xs ys : AllTexts) → IsNamed xs → IsNamed ys → ((x : List ℕ × ObjectTexts) → Has xs x → Has ys x) → ((x : List ℕ × ObjectTexts) → Has ys x → Has xs x) → xs ≡ ys
unfolding IsStrictlySortedBy
same_things [] [] p q a b = refl
same_things [] (y ∷ ys) p q a b = absurd (b y (inl refl))
same_things (x ∷ xs) [] p q a b = absurd (a x (inl refl))
same_things (x ∷ xs) (y ∷ ys) p q a b =
    let first : x ≡ y = elim (a x (inl refl)) [
      | inl e ↦ e
      | inr later ↦ elim (b y (inl refl)) [
        | inl e ↦ sym e
        | inr also ↦ absurd (never_less x.0 (nat_list_cmp_total.trans x.0 y.0 x.0 (above_has x.0 xs p.0 y also) (above_has y.0 ys q.0 x later)))
      ]
    ] in
    ap₂ (λ (z : List ℕ × ObjectTexts) zs. z ∷ zs) first (same_things xs ys p.1 q.1
    (λ r h. elim (a r (inr h)) [ inl e ↦ absurd (never_less x.0 (subst (λ (z : List ℕ × ObjectTexts). slice_cmp nat_cmp x.0 z.0 ≡ Less) (e ∙ sym first) (above_has x.0 xs p.0 r h))) | inr k ↦ k ])
    (λ r h. elim (b r (inr h)) [ inl e ↦ absurd (never_less y.0 (subst (λ (z : List ℕ × ObjectTexts). slice_cmp nat_cmp y.0 z.0 ≡ Less) (e ∙ first) (above_has y.0 ys q.0 r h))) | inr k ↦ k ]))

-- the rows are those of the objects
pub shows_objects : (db : Trees) (m : ObjectKey → Option ObjectTexts) (id : List ℕ) (rows : List Row) → HasRows part_row IsTextPart (db 3) m → IsAnswer parts_query (overlay db []) (Text id ∷ []) rows
    → (os : AllTexts) → IsNamed os → ((name : List ℕ) → m (id, name) ≡ part_at name os) → rows ≡ map shown_part os
shows_objects db m id rows s a os named is =
    rows_are db m id rows s a ∙ ap (map shown_part) (same_things (things db m id rows s a) os (things_named db m id rows s a) named
    (λ x h. part_has x.0 x.1 os (sym (is x.0) ∙ (things_sound db m id rows s a x h).0))
    (λ x h. things_complete db m id rows s a x.0 x.1 (is x.0 ∙ has_part os named x h)))
