-- What the UPDATE of a range finds, the edit that it makes, and what that makes of the rows.
use Rattle.std.proofs.Common.{◌≡◌, ◌≢◌, ◌⊎◌, ◌++◌, ◌∷◌, inl, inr, ℕ, ℤ, negsuc, drop, true, false, length, List, [], map, filter, flat_map, cond, Bool, IsPermutation, Less, Some, refl, sym, ap, subst, subst₂, ◌∙◌, arith}
use Rattle.std.specs.List.{list_all}
use Rattle.std.proofs.lemmas.Bool.{cases_Bool}
use Rattle.std.proofs.lemmas.Cmp.{tied_itself}
use Rattle.std.proofs.lemmas.List.Sorted.{IsPermutation-refl, IsPermutation-cons, IsPermutation-middle, IsPermutation-trans}
use Rattle.sqlite.specs.declared.types.Value.TheVariants.{Int, Text}
use Rattle.sqlite.specs.Order.{Row, bytes, column}
use Rattle.sqlite.specs.Term.{holds, lit}
use Rattle.sqlite.specs.Tree.{Trees, IsAscending, IsTable, rowid, put_row}
use Rattle.sqlite.specs.Cast.{cast_row}
use Rattle.sqlite.specs.Edit.{id_in, without_all, numbered}
use Rattle.sqlite.specs.Rowids.TheVariants.{Given}
use Rattle.sqlite.specs.Query.{Output, output, IsAnswer}
use Rattle.sqlite.specs.Program.{overlay}
use Rattle.sqlite_value.specs.Order.{value_cmp}
use Rattle.sqlite_value.proofs.OrderLemmas.{value_cmp_total}
use Rattle.sqlite_rules.specs.Calls.{ids_of}
use Rattle.sqlite_rules.specs.Lists.{Has}
use Rattle.sqlite_rules.proofs.ProbeLemmas.{has_mapped}
use Rattle.sqlite_trees.proofs.ListLemmas.{all-permutation, ascending-filter, ascending-map, ascending_from_map, ascending_weaker, along_permutation}
use Rattle.fv_store_tables.specs.Tables.{kept_object}
use Rattle.fv_store_tables.specs.Rows.{HasRows}
use Rattle.fv_store_tables.specs.Stands.{ObjectTexts, ObjectKey, Maps, NumberedThing, IsTextPart, part_row, same_place, added}
use Rattle.fv_store_tables.specs.Changes.{NamedTexts, AllTexts, AreApart, all_added}
use Rattle.fv_store_tables.specs.Steps.{AreRowsOf, ArePartsOf}
use Rattle.fv_store_tables.specs.Updating.{IsRange, range_values, places_of, things_of, under_rowids}
use Rattle.fv_store_tables.proofs.Inserts.{at_trees}
use Rattle.fv_store_tables.proofs.Layouts.{parts, place_is, same_place_is}
use Rattle.fv_store_tables.proofs.Objects.{apart_back}
use Rattle.fv_store_tables.proofs.OneTable.{kept, shown_sound, shown_complete}
use Rattle.fv_store_tables.proofs.RangePlaces.{Rises, halved_is, has_filled, long_filled, long_under, origin, partner, passed_is, passes, rises, rises_filled}
use Rattle.fv_store_tables.proofs.RangeTexts.{RangeMeans, fields_of, halved, in_range, kind_of, passes_range, range_means, range_query, range_terms}
use Rattle.fv_store_tables.proofs.Replaces.{unmoved}
use Rattle.fv_store_tables.proofs.RowEdits.{value_at}
use Rattle.fv_store_tables.proofs.Runs.{others_apart}
use Rattle.fv_store_tables.proofs.Updates.{cast_int, edit_by, exchange}

-- ---- rows of which no two have one rowid, in any order

-- what holds between any two elements either way round holds in any order
unordered : {X : Type 0} (R : X → X → Type 0) → ((a b : X) → R a b → R b a) → (xs ys : List X) → IsPermutation xs ys → IsAscending R xs → IsAscending R ys
unordered R back xs ys same up = (along_permutation (λ us vs. IsPermutation us vs × (IsAscending R us → IsAscending R vs))
    (λ us. (IsPermutation-refl us, λ h. h))
    (λ x us vs h. (IsPermutation-cons x us vs h.0, λ k. (all-permutation (R x) us vs h.0 k.0, h.1 k.1)))
    (λ x y us. (IsPermutation-middle (x ∷ []) y us, λ k. ((back x y k.0.0, k.1.0), (k.0.1, k.1.1))))
    (λ us vs ws h k. (IsPermutation-trans us vs ws h.0 k.0, λ l. k.1 (h.1 l)))
    xs ys same).1 up

matched_rows : {X Y : Type 0} (p : X → Bool) (f : X → Y) (xs : List X) → flat_map (λ x. cond (p x) (f x ∷ []) []) xs ≡ map f (filter p xs)
matched_rows p f [] = refl
matched_rows p f (x ∷ xs) = rw (matched_rows p f xs) (go (p x))
  where
    go : (b : Bool) → (cond b (f x ∷ []) [] ++ map f (filter p xs)) ≡ map f (cond b (x ∷ filter p xs) (filter p xs))
    go true = refl
    go false = refl

apart_rowids : (rows : List Row) → IsTable rows → IsAscending (λ (a b : Row). rowid a ≢ rowid b) rows
apart_rowids rows up = ascending_weaker (λ (a b : Row). value_cmp (rowid a) (rowid b) ≡ Less) (λ (a b : Row). rowid a ≢ rowid b)
    (λ a b less same.
    let again : value_cmp (rowid a) (rowid a) ≡ Less = subst (λ v. value_cmp (rowid a) v ≡ Less) (sym same) less in
    let tied = tied_itself value_cmp_total (rowid a) in cc) rows up

-- so it is of what the query shows
shown_apart : (db : Trees) (given : Row) (rows : List Row) → IsTable (db 3) → IsAnswer range_query (overlay db []) given rows → IsAscending (λ (a b : Row). rowid a ≢ rowid b) rows
shown_apart db given rows up a =
    let test = λ (r : Row). list_all (holds (given ∷ r ∷ [])) in_range in
    let env = λ (r : Row). given ∷ r ∷ [] in
    let R = λ (o k : Output). rowid o.1 ≢ rowid k.1 in
    let all : a.kept ≡ map (output range_query) (map env (filter test (db 3))) =
    kept 3 in_range range_terms [] (lit (Int (negsuc 0))) (overlay db []) given rows a ∙ ap (map (output range_query)) (matched_rows test env (db 3)) in
    let passing = ascending-filter (λ (x y : Row). rowid x ≢ rowid y) test (db 3) (apart_rowids (db 3) up) in
    let shown = ascending-map R (output range_query) (map env (filter test (db 3))) (ascending-map (λ e g. R (output range_query e) (output range_query g)) env (filter test (db 3)) passing) in
    let ordered = unordered R (λ o k other same. other (sym same)) a.kept a.ordered a.same (subst (IsAscending R) (sym all) shown) in
    subst (IsAscending (λ (x y : Row). rowid x ≢ rowid y)) (sym a.shown) (ascending-map (λ (x y : Row). rowid x ≢ rowid y) (λ (o : Output). o.1) a.ordered ordered)

-- ---- what is added to a map

-- an object that is added is there
pub added_is : (id : List ℕ) (os : AllTexts) (t : Maps) → AreApart os → (o : NamedTexts) → Has os o → (all_added id os t).parts (id, o.0) ≡ Some o.1
added_is id [] t apart o h = absurd h
added_is id (x ∷ os) t apart o (inl is) =
    subst (λ (e : List ℕ × ObjectTexts). (all_added id os (added (id, x.0) x.1 t)).parts (id, e.0) ≡ Some e.1) (sym is)
    (unmoved id os x.0 (added (id, x.0) x.1 t) (λ y among. apart_back y.0 x.0 (others_apart x.0 os apart.0 y among)) ∙ rw (same_place_is (id, x.0) (id, x.0) refl) refl)
added_is id (x ∷ os) t apart o (inr later) = added_is id os (added (id, x.0) x.1 t) apart.1 o later

-- each place is that of an object that is added, or as before
pub reached : (id : List ℕ) (os : AllTexts) (t : Maps) (at : ObjectKey) → ((o : NamedTexts) × Has os o × (at ≡ (id, o.0))) ⊎ (((o : NamedTexts) → Has os o → at ≡ (id, o.0) → ⊥) × ((all_added id os t).parts at ≡ t.parts at))
reached id [] t at = inr (λ o h is. h, refl)
reached id (x ∷ os) t at = elim (cases_Bool (same_place at (id, x.0))) [
  | inl same ↦ inl (x, inl refl, place_is at (id, x.0) same)
  | inr other ↦ elim (reached id os (added (id, x.0) x.1 t) at) [
    | inl found ↦ inl (found.0, inr found.1, found.2)
    | inr left ↦ inr (
      λ o h is. elim h [
        | inl same ↦ let here = same_place_is at (id, x.0) (is ∙ ap (λ (e : NamedTexts). (id, e.0)) same) in absurd (cc (here, other))
        | inr later ↦ left.0 o later is
      ],
      left.1 ∙ rw other refl,
    )
  ]
]

-- ---- the rows of a range

module _ (id : List ℕ) where
  -- the new row of a place
  abbrev pub row_for : NumberedThing → Row
  row_for z = part_row z.0 (id, z.1.0) z.1.1

  -- what the query shows of it: its rowid before it
  abbrev shown_for : NumberedThing → Row
  shown_for z = Int z.0 ∷ row_for z

  shown_same : (a b : NumberedThing) → shown_for a ≡ shown_for b → a ≡ b
  shown_same a b e = ap (λ (r : Row). (id_in (column r 0), (bytes (column r 3), record { kind = bytes (column r 4); fields = bytes (column r 5) }))) e

  chosen : (from : List NumberedThing) (rows : List Row) → ((x : Row) → Has rows x → (z : NumberedThing) × Has from z × (x ≡ shown_for z))
      → (zs : List NumberedThing) × (rows ≡ map shown_for zs) × ((z : NumberedThing) → Has zs z → Has from z)
  chosen from [] each = ([], refl, λ z h. absurd h)
  chosen from (x ∷ rows) each =
      let one = each x (inl refl) in
      let more = chosen from rows (λ y h. each y (inr h)) in
      (one.0 ∷ more.0, (λ i. one.2 i ∷ more.1 i), λ z h. elim h [ inl is ↦ subst (Has from) (sym is) one.1 | inr later ↦ more.2 z later ])

  ids_shown : (zs : List NumberedThing) → ids_of (map shown_for zs) ≡ map (λ (z : NumberedThing). z.0) zs
  ids_shown [] = refl
  ids_shown (z ∷ zs) = ap (λ l. z.0 ∷ l) (ids_shown zs)

  cast_shown : (zs : List NumberedThing) → map (λ s. cast_row kept_object (drop 1 s)) (map shown_for zs) ≡ map row_for zs
  cast_shown [] = refl
  cast_shown (z ∷ zs) = rw (cast_int z.0, cast_shown zs) refl

  numbered_given : (rows news : List Row) → numbered Given rows news ≡ news
  numbered_given rows [] = refl
  numbered_given rows (x ∷ news) = ap (λ l. x ∷ l) (numbered_given (put_row x rows) news)

  -- the edit that such rows make
  pub edit_shown : (db : Trees) (zs : List NumberedThing) → edit_by db (map shown_for zs) ≡ exchange (map (λ (z : NumberedThing). z.0) zs) (map row_for zs)
  edit_shown db zs =
      let news = numbered_given (without_all (db 3) (ids_of (map shown_for zs))) (map (λ s. cast_row kept_object (drop 1 s)) (map shown_for zs)) ∙ cast_shown zs in
      λ i. exchange (ids_shown zs i) (news i)

module _ (db : Trees) (id : List ℕ) (rs : List NumberedThing) (os : AllTexts) (range : IsRange rs os) (t : Maps) (s : HasRows part_row IsTextPart (db 3) t.parts)
    (are : AreRowsOf id rs (at_trees db)) (all : ArePartsOf id (things_of rs) t) where
  abbrev pub news : List NumberedThing
  news = under_rowids rs os

  abbrev ps : List NumberedThing
  ps = places_of rs os

  -- the row that is there for a place
  pub old_row : (z : NumberedThing) → Has news z → (p : ObjectTexts) × Has (db 3) (part_row z.0 (id, z.1.0) p)
  old_row z h =
      let r = origin range.follow.0 rs os range.follow.1 z h in
      (r.0.1.1, subst₂ (λ (n : ℤ) (name : List ℕ). Has (db 3) (part_row n (id, name) r.0.1.1)) r.2 r.3 (are r.0 r.1))

  -- and the place of a row of the record
  place_for : (n : ℤ) (name : List ℕ) (p : ObjectTexts) → Has (db 3) (part_row n (id, name) p) → (z : NumberedThing) × Has news z × (z.0 ≡ n) × (z.1.0 ≡ name)
  place_for n name p there =
      let known = value_at part_row IsTextPart same_place parts (db 3) t.parts s n (id, name) p there in
      let among = has_mapped (λ (r : NumberedThing). r.1) rs (name, p) (all.1 name p known) in
      let r = among.0 in
      let mate = partner range.follow.0 rs os range.follow.1 r among.1 in
      let has : Has (db 3) (part_row r.0 (id, name) p) = subst (λ (o : NamedTexts). Has (db 3) (part_row r.0 (id, o.0) o.1)) (sym among.2) (are r among.1) in
      ((r.0, mate.0), mate.1, s.once r.0 n (id, name) p p has there, mate.2 ∙ ap (λ (o : NamedTexts). o.0) (sym among.2))

  long : length ps ≡ 16
  long = long_filled 16 news (omega (arith, long_under range.follow.0 rs os range.follow.1, range.some))

  up : IsAscending Rises ps
  up = rises_filled 16 news (rises range.follow.0 rs os range.follow.1)

  in_place_of : (z : NumberedThing) → Has news z → Has ps z
  in_place_of z h = has_filled 16 news z (omega (arith, long_under range.follow.0 rs os range.follow.1, range.few)) h

  means : RangeMeans id ps
  means = range_means id ps long

  -- what the query shows of a row that is in a place
  gives : (n : ℤ) (at : ObjectKey) (q : ObjectTexts) (z : NumberedThing) → Has news z → z.0 ≡ n → at.0 ≡ id → z.1.0 ≡ at.1
      → (output range_query (range_values id ps ∷ part_row n at q ∷ [])).1 ≡ shown_for id z
  gives n at q z h number of name =
      let kind = means.kind n at q ∙ ap (halved kind_of 4 ps) (sym number) ∙ halved_is kind_of 4 ps long up z (in_place_of z h) in
      let fields = means.fields n at q ∙ ap (halved fields_of 4 ps) (sym number) ∙ halved_is fields_of 4 ps long up z (in_place_of z h) in
      λ i. Int (sym number i) ∷ Int (sym number i) ∷ Text (of i) ∷ Text (sym name i) ∷ kind i ∷ fields i ∷ []

  module _ (rows : List Row) (a : IsAnswer range_query (overlay db []) (range_values id ps) rows) where
    sound : (x : Row) → Has rows x → (z : NumberedThing) × Has news z × (x ≡ shown_for id z)
    sound x h =
        let r = shown_sound 3 in_range range_terms [] (overlay db []) (range_values id ps) rows a x h in
        let is = s.sound r.0 r.1 in
        let passed : passes_range is.number is.key.0 id ps ≡ true = sym (means.tests is.number is.key is.value) ∙ ap (λ (row : Row). list_all (holds (range_values id ps ∷ row ∷ [])) in_range) (sym is.is) ∙ r.2 in
        let of = passed_is is.number is.key.0 id ps passed in
        let z = place_for is.number is.key.1 is.value (subst (Has (db 3)) (is.is ∙ ap (λ (k : List ℕ). part_row is.number (k, is.key.1) is.value) of) r.1) in
        (z.0, z.1, r.3 ∙ ap (λ (row : Row). (output range_query (range_values id ps ∷ row ∷ [])).1) is.is ∙ gives is.number is.key is.value z.0 z.1 z.2 of z.3)

    complete : (z : NumberedThing) → Has news z → Has rows (shown_for id z)
    complete z h =
        let old = old_row z h in
        let row = part_row z.0 (id, z.1.0) old.0 in
        subst (Has rows) (gives z.0 (id, z.1.0) old.0 z h refl refl refl)
        (shown_complete 3 in_range range_terms [] (overlay db []) (range_values id ps) rows a row old.1 (means.tests z.0 (id, z.1.0) old.0 ∙ passes id ps up z (in_place_of z h)))

    -- the places in the order in which the rows are written
    pub record Order : Type 0 where
      pub zs : List NumberedThing
      pub shown : rows ≡ map (shown_for id) zs
      pub only : (z : NumberedThing) → Has zs z → Has news z
      pub each : (z : NumberedThing) → Has news z → Has zs z
      pub apart : IsAscending (λ (x y : NumberedThing). Int x.0 ≢ Int y.0) zs

    pub order : Order
    order =
        let some = chosen id news rows sound in
        record {
          zs = some.0;
          shown = some.1;
          only = some.2;
          each = λ z h.
              let found = has_mapped (shown_for id) some.0 (shown_for id z) (subst (λ l. Has l (shown_for id z)) some.1 (complete z h)) in
              subst (Has some.0) (sym (shown_same id z found.0 found.2)) found.1;
          apart = ascending_from_map (λ (x y : Row). rowid x ≢ rowid y) (shown_for id) some.0 (subst (IsAscending (λ (x y : Row). rowid x ≢ rowid y)) some.1 (shown_apart db (range_values id ps) rows s.apart a));
        }
