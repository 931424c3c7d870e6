-- What edits of the rows of a table make of the map that they spell.
use Rattle.std.proofs.Common.{◌≡◌, ◌⊎◌, inl, inr, ℤ, true, false, not, cond, Bool, List, [], ◌∷◌, if◌then◌else◌, Option, Some, None, refl, sym, ap, subst, ◌∙◌, arith}
use Rattle.std.proofs.lemmas.Int.{ints}
use Rattle.std.proofs.lemmas.Bool.{cases_Bool, not-true, false_from_ne_true, true≢false}
use Rattle.std.proofs.lemmas.Bool.Decides.{nat_tests}
use Rattle.std.specs.declared.cmp.Ordering.{Ordering}
use Rattle.std.specs.declared.cmp.Ordering.TheVariants.{Less, Equal, Greater}
use Rattle.std.specs.List.{list_any}
use Rattle.std.specs.Ordering.{is_eq, int_cmp}
use Rattle.sqlite.specs.declared.types.Value.TheVariants.{Int}
use Rattle.sqlite.specs.Order.{Row}
use Rattle.sqlite_value.proofs.OrderLemmas.{value_cmp-Int}
use Rattle.sqlite.specs.Tree.{IsTable, rowid, has_rowid, without_rowid}
use Rattle.sqlite.specs.Edit.{put_all, are_fresh, without_all}
use Rattle.sqlite_rules.proofs.ListLemmas.{has_filtered, has_kept, some_has}
use Rattle.sqlite_rules.proofs.PlaceLemmas.{tied_same}
use Rattle.sqlite_keyed.proofs.ListLemmas.{ascending-filter}
use Rattle.sqlite_rules.specs.Lists.{Has}
use Rattle.sqlite_rules.proofs.TableLemmas.{put_all_has, put_all_keeps, put_all_adds}
use Rattle.sqlite_trees.proofs.TreeLemmas.{IsTable-put_row}
use Rattle.fv_store_tables.specs.Rows.{IsRowOf, HasRows}

pub equal_ints : (i n : ℤ) → is_eq (int_cmp n i) ≡ true → i ≡ n
equal_ints i n h = grind (arith, ints, nat_tests)

pub same_int : (n : ℤ) → is_eq (int_cmp n n) ≡ true
same_int n = grind (arith, ints, nat_tests)

pub rowid_is : (i n : ℤ) (row : Row) → rowid row ≡ Int n → has_rowid i row ≡ true → i ≡ n
rowid_is i n row id is = equal_ints i n (rw (id, value_cmp-Int n i) at is)

pub has_itself : (n : ℤ) (row : Row) → rowid row ≡ Int n → has_rowid n row ≡ true
has_itself n row id = rw (id, value_cmp-Int n n) (same_int n)

pub equal_is : (o : Ordering) → is_eq o ≡ true → o ≡ Equal
equal_is Less h = cc
equal_is Equal h = refl
equal_is Greater h = cc

pub int_in : (i n : ℤ) → Int i ≡ Int n → i ≡ n
int_in i n e = cc

same_rowid : (rows : List Row) (a b : Row) (n : ℤ) → IsTable rows → Has rows a → Has rows b → rowid a ≡ Int n → rowid b ≡ Int n → a ≡ b
same_rowid rows a b n up ha hb one two = tied_same rows a b up ha hb (rw (one, two, value_cmp-Int n n) (equal_is _ (same_int n)))

pub some_same : {V : Type 0} (v w : V) → Some v ≡ Some w → v ≡ w
some_same v w e = cc

pub some_none : {V : Type 0} {P : Type 0} (v : V) (o : Option V) → o ≡ None → o ≡ Some v → P
some_none v o none some = absurd (let e : None ≡ Some v = sym none ∙ some in cc)

-- ---- rows taken out

abbrev Lacks : List ℤ → Row → Type 0
Lacks ids x = (id : ℤ) → Has ids id → has_rowid id x ≡ false

pub left_from : (ids : List ℤ) (rows : List Row) (x : Row) → Has (without_all rows ids) x → Has rows x × Lacks ids x
left_from [] rows x h = (h, λ id none. absurd none)
left_from (id ∷ ids) rows x h =
    let r = left_from ids (without_rowid id rows) x h in
    let was = has_filtered (λ y. not (has_rowid id y)) rows x r.0 in
    (was.0, λ other k. elim k [ inl e ↦ rw e (not-true _ was.1) | inr more ↦ r.1 other more ])

pub left_has : (ids : List ℤ) (rows : List Row) (x : Row) → Has rows x → Lacks ids x → Has (without_all rows ids) x
left_has [] rows x h lacks = h
left_has (id ∷ ids) rows x h lacks = left_has ids (without_rowid id rows) x (has_kept (λ y. not (has_rowid id y)) rows x h (ap not (lacks id (inl refl)))) (λ other k. lacks other (inr k))

pub left_apart : (ids : List ℤ) (rows : List Row) → IsTable rows → IsTable (without_all rows ids)
left_apart [] rows up = up
left_apart (id ∷ ids) rows up = left_apart ids (without_rowid id rows) (ascending-filter _ (λ y. not (has_rowid id y)) rows up)

-- a rowid that was taken out is free
free_again : (n : ℤ) (rows : List Row) → list_any (has_rowid n) (without_rowid n rows) ≡ false
free_again n rows = false_from_ne_true _ (λ taken.
    let it = some_has (has_rowid n) (without_rowid n rows) taken in
    let other = not-true _ (has_filtered (λ y. not (has_rowid n y)) rows it.0 it.1).1 in
    true≢false (sym it.2 ∙ other))

-- how rows show their rowids and keys, and how keys are compared
pub record Shows {K V : Type 0} (row_of : ℤ → K → V → Row) (same : K → K → Bool) : Type 0 where
  pub numbered : (n : ℤ) (k : K) (v : V) → rowid (row_of n k v) ≡ Int n
  pub keyed : (i n : ℤ) (k l : K) (v w : V) → row_of i k v ≡ row_of n l w → k ≡ l
  pub valued : (i n : ℤ) (k l : K) (v w : V) → row_of i k v ≡ row_of n l w → v ≡ w
  pub decides : (k l : K) → (same k l ≡ true → k ≡ l) × (k ≡ l → same k l ≡ true)

-- the rowids that are taken out are those of these keys
pub record AreOf {K V : Type 0} (row_of : ℤ → K → V → Row) (rows : List Row) (gone : K → Bool) (ids : List ℤ) : Type 0 where
  pub sound : (i : ℤ) → Has ids i → (k : K) × (v : V) × Has rows (row_of i k v) × (gone k ≡ true)
  pub complete : (i : ℤ) (k : K) (v : V) → Has rows (row_of i k v) → gone k ≡ true → Has ids i

module _ {K V : Type 0} (row_of : ℤ → K → V → Row) (IsGood : K → V → Type 0) (same : K → K → Bool) (shows : Shows row_of same) (rows : List Row) (m : K → Option V) (s : HasRows row_of IsGood rows m) where
  -- a row that is there is that of its key
  pub value_at : (n : ℤ) (k : K) (v : V) → Has rows (row_of n k v) → m k ≡ Some v
  value_at n k v h =
      let it = s.sound (row_of n k v) h in
      let one = shows.keyed n it.number k it.key v it.value it.is in
      let two = shows.valued n it.number k it.key v it.value it.is in
      ap m one ∙ it.known ∙ ap Some (sym two)

  pub numbers_apart : (i n : ℤ) (k l : K) (v w : V) → Has rows (row_of i k v) → Has rows (row_of n l w) → i ≡ n → row_of i k v ≡ row_of n l w
  numbers_apart i n k l v w one two is = same_rowid rows (row_of i k v) (row_of n l w) n s.apart one two (shows.numbered i k v ∙ ap Int is) (shows.numbered n l w)

  -- ---- a row put in

  module _ (n : ℤ) (k : K) (v : V) (none : m k ≡ None) (good : IsGood k v) (free : are_fresh rows (row_of n k v ∷ []) ≡ true) where
    abbrev put : List Row
    put = put_all rows (row_of n k v ∷ [])

    abbrev more : K → Option V
    more l = if same l k then Some v else m l

    one : (row : Row) → Has put row → (row ≡ row_of n k v) ⊎ Has rows row
    one row h = elim (put_all_has (row_of n k v ∷ []) rows row h) [
      | inl new ↦ elim new [ inl is ↦ inl is | inr never ↦ absurd never ]
      | inr was ↦ inr was
    ]

    other_key : (l : K) (w : V) → m l ≡ Some w → same l k ≡ false
    other_key l w some = false_from_ne_true _ (λ is. some_none w (m l) (ap m ((shows.decides l k).0 is) ∙ none) some)

    put_sound : (row : Row) → Has put row → IsRowOf row_of IsGood more row
    put_sound row h = elim (one row h) [
      | inl is ↦ record { number = n; key = k; value = v; is = is; known = rw ((shows.decides k k).1 refl) refl; good = good }
      | inr was ↦ let it = s.sound row was in record { number = it.number; key = it.key; value = it.value; is = it.is; known = rw (other_key it.key it.value it.known) it.known; good = it.good }
    ]

    put_complete : (l : K) (w : V) → more l ≡ Some w → (i : ℤ) × Has put (row_of i l w)
    put_complete l w is = elim (cases_Bool (same l k)) [
      | inl alike ↦
          let key = (shows.decides l k).0 alike in
          let value : v ≡ w = some_same v w (rw alike at is) in
          (n, rw (key, ← value) (put_all_adds (row_of n k v ∷ []) rows (row_of n k v) free (inl refl)))
      | inr other ↦
          let it = s.complete l w (rw other at is) in
          (it.0, put_all_keeps (row_of n k v ∷ []) rows (row_of it.0 l w) free it.1)
    ]

    -- a row that was there has another key
    never : {P : Type 0} (i j : ℤ) (l : K) (w u : V) → row_of i l w ≡ row_of n k v → Has rows (row_of j l u) → P
    never i j l w u is was = some_none u (m l) (ap m (shows.keyed i n l k w v is) ∙ none) (value_at j l u was)

    put_once : (i j : ℤ) (l : K) (w u : V) → Has put (row_of i l w) → Has put (row_of j l u) → i ≡ j
    put_once i j l w u a b = elim (one (row_of i l w) a) [
      | inl ia ↦ elim (one (row_of j l u) b) [
        | inl ib ↦ int_in i j (sym (shows.numbered i l w) ∙ ap rowid (ia ∙ sym ib) ∙ shows.numbered j l u)
        | inr wb ↦ never i j l w u ia wb
      ]
      | inr wa ↦ elim (one (row_of j l u) b) [
        | inl ib ↦ never j i l u w ib wa
        | inr wb ↦ s.once i j l w u wa wb
      ]
    ]

    pub spells_put : HasRows row_of IsGood put more
    spells_put = record { apart = IsTable-put_row (row_of n k v) rows s.apart; sound = put_sound; complete = put_complete; once = put_once }

  -- ---- rows taken out

  module _ (gone : K → Bool) (ids : List ℤ) (are : AreOf row_of rows gone ids) where
    abbrev less : K → Option V
    less l = if gone l then None else m l

    out : {P : Type 0} (n : ℤ) (k : K) (v : V) → Has (without_all rows ids) (row_of n k v) → gone k ≡ true → P
    out n k v h is =
        let it = left_from ids rows (row_of n k v) h in
        let found = are.complete n k v it.0 is in
        absurd (true≢false (sym (has_itself n (row_of n k v) (shows.numbered n k v)) ∙ it.1 n found))

    stays : (n : ℤ) (k : K) (v : V) → gone k ≡ false → Has rows (row_of n k v) → Lacks ids (row_of n k v)
    stays n k v other h i there = false_from_ne_true _ (λ is.
        let r = are.sound i there in
        let number : i ≡ n = rowid_is i n (row_of n k v) (shows.numbered n k v) is in
        let key = shows.keyed i n r.0 k r.1 v (numbers_apart i n r.0 k r.1 v r.2 h number) in
        true≢false (sym r.3 ∙ ap gone key ∙ other))

    left_sound : (row : Row) → Has (without_all rows ids) row → IsRowOf row_of IsGood less row
    left_sound row h =
        let it = s.sound row (left_from ids rows row h).0 in
        elim (cases_Bool (gone it.key)) [
          | inl is ↦ out it.number it.key it.value (subst (Has (without_all rows ids)) it.is h) is
          | inr other ↦ record { number = it.number; key = it.key; value = it.value; is = it.is; known = rw other it.known; good = it.good }
        ]

    left_complete : (k : K) (v : V) → less k ≡ Some v → (n : ℤ) × Has (without_all rows ids) (row_of n k v)
    left_complete k v is = elim (cases_Bool (gone k)) [
      | inl yes_gone ↦ some_none v None refl (rw yes_gone at is)
      | inr other ↦
          let it = s.complete k v (rw other at is) in
          (it.0, left_has ids rows (row_of it.0 k v) it.1 (stays it.0 k v other it.1))
    ]

    pub spells_left : HasRows row_of IsGood (without_all rows ids) less
    spells_left = record {
      apart = left_apart ids rows s.apart;
      sound = left_sound;
      complete = left_complete;
      once = λ i n k v w a b. s.once i n k v w (left_from ids rows (row_of i k v) a).0 (left_from ids rows (row_of n k w) b).0;
    }

-- ---- a row in place of another

module _ {K V : Type 0} (row_of : ℤ → K → V → Row) (IsGood : K → V → Type 0) (same : K → K → Bool) (shows : Shows row_of same) (rows : List Row) (m : K → Option V) (s : HasRows row_of IsGood rows m)
    (n : ℤ) (k : K) (v w : V) (there : Has rows (row_of n k v)) (good : IsGood k w) where
  abbrev is_this : K → Bool
  is_this l = same l k

  only : AreOf row_of rows is_this (n ∷ [])
  only = record {
    sound = λ i h. elim h [ inl is ↦ (k, v, rw is there, (shows.decides k k).1 refl) | inr never ↦ absurd never ];
    complete = λ i l u has is.
        let key = (shows.decides l k).0 is in
        inl (s.once i n k u v (subst (λ x. Has rows (row_of i x u)) key has) there);
  }

  abbrev bare : List Row
  bare = without_all rows (n ∷ [])

  abbrev left : K → Option V
  left l = if same l k then None else m l

  pub fresh_again : are_fresh bare (row_of n k w ∷ []) ≡ true
  fresh_again = rw (shows.numbered n k w, free_again n rows) refl

  replaced : ◌≡◌ {A = K → Option V} (λ l. if same l k then Some w else left l) (λ l. if same l k then Some w else m l)
  replaced = λ i l. go (same l k) (m l) i
    where
      go : (b : Bool) (o : Option V) → cond b (Some w) (cond b None o) ≡ cond b (Some w) o
      go true o = refl
      go false o = refl

  -- the row of the key is that of another value, under the same rowid
  pub spells_replaced : HasRows row_of IsGood (put_all bare (row_of n k w ∷ [])) (λ l. if same l k then Some w else m l)
  spells_replaced =
      subst (HasRows row_of IsGood (put_all bare (row_of n k w ∷ []))) replaced
      (spells_put row_of IsGood same shows bare left (spells_left row_of IsGood same shows rows m s is_this (n ∷ []) only) n k w (rw ((shows.decides k k).1 refl) refl) good fresh_again)
