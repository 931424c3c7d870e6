-- Ids that are looked at page by page, each of which has a value or a fault.
use Rattle.std.proofs.Common.{◌≡◌, ◌⊎◌, inl, inr, ℕ, ◌<◌, ◌-◌, zero, suc, List, [], ◌∷◌, ◌++◌, length, map, take, get_or, Option, Some, Result, Ok, Err, Less, Greater, nat_cmp, refl, sym, ap, subst, ◌∙◌, append_assoc, arith}
use Rattle.std.specs.Cmp.Lexicographic.{slice_cmp}
use Rattle.std.specs.List.{AllByRecursion}
use Rattle.std.specs.List.Sorted.{IsStrictlySortedBy}
use Rattle.std.specs.Map.{keys_of}
use Rattle.std.specs.Ordering.{ordering_reverse}
use Rattle.std.proofs.lemmas.Cmp.{nat_list_cmp_total}
use Rattle.std.proofs.lemmas.List.{append-nil}
use Rattle.std.proofs.lemmas.Map.Keys.{sorted_head, sorted_tail}
use Rattle.sqlite_rules.specs.Lists.{Has}
use Rattle.fv_datum.specs.Ascending.{IsAscending}
use Rattle.fv_engine_pending.specs.Passes.{AreKnown, Reaches, last_of}

-- ---- orders of ids

abbrev pub Below : List ℕ → List ℕ → Type 0
Below a b = slice_cmp nat_cmp a b ≡ Less

below_more : (a b c : List ℕ) → Below a b → Below b c → Below a c
below_more a b c = nat_list_cmp_total.trans a b c

below_not : (a b : List ℕ) → Below a b → Below b a → ⊥
below_not a b p q = let e : Less ≡ Greater = sym p ∙ nat_list_cmp_total.antisymm a b ∙ ap ordering_reverse q in cc

-- no id is below the empty one
pub below_empty : (x : List ℕ) → Below x [] → ⊥
below_empty [] less = cc
below_empty (y ∷ ys) less = cc

-- ---- lists

pub all_has : {X : Type 0} (P : X → Type 0) (xs : List X) (x : X) → AllByRecursion P xs → Has xs x → P x
all_has P [] x all has = absurd has
all_has P (y ∷ ys) x all (inl is) = subst P (sym is) all.0
all_has P (y ∷ ys) x all (inr later) = all_has P ys x all.1 later

pub all_append : {X : Type 0} (P : X → Type 0) (xs ys : List X) → AllByRecursion P xs → AllByRecursion P ys → AllByRecursion P (xs ++ ys)
all_append P [] ys left right = right
all_append P (x ∷ xs) ys left right = (left.0, all_append P xs ys left.1 right)

all_each : {X : Type 0} (P Q : X → Type 0) → ((x : X) → P x → Q x) → (xs : List X) → AllByRecursion P xs → AllByRecursion Q xs
all_each P Q f [] all = tt
all_each P Q f (x ∷ xs) all = (f x all.0, all_each P Q f xs all.1)

pub has_left : {X : Type 0} (xs ys : List X) (x : X) → Has xs x → Has (xs ++ ys) x
has_left [] ys x has = absurd has
has_left (y ∷ xs) ys x (inl is) = inl is
has_left (y ∷ xs) ys x (inr later) = inr (has_left xs ys x later)

pub has_right : {X : Type 0} (xs ys : List X) (x : X) → Has ys x → Has (xs ++ ys) x
has_right [] ys x has = has
has_right (y ∷ xs) ys x has = inr (has_right xs ys x has)

pub keys_append : {V : Type 0} (xs ys : List (List ℕ × V)) → keys_of (xs ++ ys) ≡ keys_of xs ++ keys_of ys
keys_append [] ys = refl
keys_append (x ∷ xs) ys = ap (λ ks. x.0 ∷ ks) (keys_append xs ys)

pub length_keys : {V : Type 0} (xs : List (List ℕ × V)) → length (keys_of xs) ≡ length xs
length_keys [] = refl
length_keys (x ∷ xs) = let rest : length (keys_of xs) ≡ length xs = length_keys xs in omega arith

ascending_end : (ids : List (List ℕ)) (id : List ℕ) → IsAscending ids → AllByRecursion (λ i. Below i id) ids → IsAscending (ids ++ id ∷ [])
unfolding IsStrictlySortedBy
ascending_end [] id ascending below = (tt, tt)
ascending_end (x ∷ xs) id ascending below = (all_append (λ y. Below x y) xs (id ∷ []) ascending.0 (below.0, tt), ascending_end xs id ascending.1 below.1)

ascending_none : IsAscending []
unfolding IsStrictlySortedBy
ascending_none = tt

ascending_one : (id : List ℕ) → IsAscending (id ∷ [])
unfolding IsStrictlySortedBy
ascending_one id = (tt, tt)

-- a list whose element i was looked at
pub split_at : {X Y : Type 0} (f : X → Y) (xs : List X) (i : ℕ) (x : X) → i < length xs → x ≡ get_or xs i x → (rest : List Y) × (map f xs ≡ map f (take i xs) ++ f x ∷ rest)
split_at f [] i x within is = absurd (omega arith)
split_at f (y ∷ ys) zero x within is = (map f ys, ap (λ z. f z ∷ map f ys) (sym is))
split_at f (y ∷ ys) (suc i) x within is = let r = split_at f ys i x (omega arith) is in (r.0, ap (λ zs. f y ∷ zs) r.1)

pub taken_one : {X Y : Type 0} (f : X → Y) (xs : List X) (i : ℕ) (x : X) → i < length xs → x ≡ get_or xs i x → map f (take (suc i) xs) ≡ map f (take i xs) ++ f x ∷ []
taken_one f [] i x within is = absurd (omega arith)
taken_one f (y ∷ ys) zero x within is = ap (λ z. f z ∷ []) (sym is)
taken_one f (y ∷ ys) (suc i) x within is = ap (λ zs. f y ∷ zs) (taken_one f ys i x (omega arith) is)

pub last_end : {X : Type 0} (f : X → List ℕ) (above : List ℕ) (xs : List X) (x : X) → f x ≡ last_of above (map f (xs ++ x ∷ []))
last_end f above [] x = refl
last_end f above (y ∷ ys) x = last_end f (f y) ys x

-- ---- the ids above one

-- an id above this one
pub record IsAbove {V : Type 0} (m : List ℕ → Option V) (above id : List ℕ) : Type 0 where
  pub value : V
  pub known : m id ≡ Some value
  pub is_above : Below above id

-- all of them, each once, ascending
pub record AreAbove {V : Type 0} (m : List ℕ → Option V) (above : List ℕ) (ids : List (List ℕ)) : Type 0 where
  pub ascending : IsAscending ids
  pub sound : (id : List ℕ) → Has ids id → IsAbove m above id
  pub complete : (id : List ℕ) → IsAbove m above id → Has ids id

-- the first of them, so many at most
abbrev pub Pages : {V : Type 0} → (List ℕ → Option V) → List ℕ → ℕ → List (List ℕ) → Type 0
Pages m above limit ids = (all : List (List ℕ)) × AreAbove m above all × (ids ≡ take limit all)

-- the first id of a page is the next above one, and the rest of the page are the ids above it
pub record IsNext {V : Type 0} (m : List ℕ → Option V) (above : List ℕ) (n : ℕ) (id : List ℕ) (ids : List (List ℕ)) : Type 0 where
  pub listed : IsAbove m above id
  pub least : (x : List ℕ) → IsAbove m above x → (x ≡ id) ⊎ Below id x
  pub rest : Pages m id n ids

module _ {V : Type 0} (m : List ℕ → Option V) (above : List ℕ) where
  tail_above : (id : List ℕ) (ids : List (List ℕ)) → AreAbove m above (id ∷ ids) → AreAbove m id ids
  tail_above id ids all = record {
    ascending = sorted_tail (slice_cmp nat_cmp) id ids all.ascending;
    sound = λ x has.
        let l = all.sound x (inr has) in
        record { value = l.value; known = l.known; is_above = all_has (λ y. Below id y) ids x (sorted_head (slice_cmp nat_cmp) id ids all.ascending) has };
    complete = λ x l. at x l (all.complete x (record { value = l.value; known = l.known; is_above = below_more above id x (all.sound id (inl refl)).is_above l.is_above }));
  }
    where
      at : (x : List ℕ) → IsAbove m id x → Has (id ∷ ids) x → Has ids x
      at x l (inl is) = absurd (let same : Below id id = subst (Below id) is l.is_above in below_not id id same same)
      at x l (inr later) = later

  head_above : (id : List ℕ) (ids : List (List ℕ)) → AreAbove m above (id ∷ ids) → (x : List ℕ) → IsAbove m above x → (x ≡ id) ⊎ Below id x
  head_above id ids all x l = at (all.complete x l)
    where
      at : Has (id ∷ ids) x → (x ≡ id) ⊎ Below id x
      at (inl is) = inl is
      at (inr later) = inr (all_has (λ y. Below id y) ids x (sorted_head (slice_cmp nat_cmp) id ids all.ascending) later)

  next_of : (n : ℕ) (id : List ℕ) (ids : List (List ℕ)) → Pages m above (suc n) (id ∷ ids) → IsNext m above n id ids
  next_of n id ids (all, listed, is) = go all listed is
    where
      go : (all : List (List ℕ)) → AreAbove m above all → id ∷ ids ≡ take (suc n) all → IsNext m above n id ids
      go [] listed is = cc
      go (x ∷ xs) listed is =
          let e : x ≡ id = cc in
          let es : ids ≡ take n xs = cc in
          let here : AreAbove m above (id ∷ xs) = subst (λ (y : List ℕ). AreAbove m above (y ∷ xs)) e listed in
          record {
            listed = here.sound id (inl refl);
            least = head_above id xs here;
            rest = (xs, tail_above id xs here, es);
          }

  -- a page of no place is empty
  none_of_none : (id : List ℕ) (ids : List (List ℕ)) → Pages m above 0 (id ∷ ids) → ⊥
  none_of_none id ids (all, listed, is) = cc

  -- behind a page that isn't full there is none
  none_left : (n : ℕ) (id : List ℕ) (v : V) → Pages m above (suc n) [] → m id ≡ Some v → Below above id → ⊥
  none_left n id v (all, listed, is) known less = go all listed is
    where
      go : (all : List (List ℕ)) → AreAbove m above all → [] ≡ take (suc n) all → ⊥
      go [] listed is = listed.complete id (record { value = v; known = known; is_above = less })
      go (x ∷ xs) listed is = cc

-- each id of a page is there
pub page_known : {V : Type 0} (m : List ℕ → Option V) (n : ℕ) (above : List ℕ) (ids : List (List ℕ)) → Pages m above n ids → AllByRecursion (λ id. (v : V) × (m id ≡ Some v)) ids
page_known m n above [] page = tt
page_known m zero above (id ∷ ids) page = absurd (none_of_none m above id ids page)
page_known m (suc n) above (id ∷ ids) page =
    let next = next_of m above n id ids page in
    ((next.listed.value, next.listed.known), page_known m n id ids next.rest)

-- ---- how far a pass has come

-- the first id that has a fault
pub record IsFirstFault {K E : Type 0} (m : List ℕ → Option (Result K E)) (id : List ℕ) (why : E) : Type 0 where
  pub known : m id ≡ Some (Err why)
  pub first : (other : List ℕ) (r : Result K E) → m other ≡ Some r → Below other id → (k : K) × (r ≡ Ok k)

module _ {K E : Type 0} (m : List ℕ → Option (Result K E)) where
  -- one value is found at an id
  pub known_at : (done : List (List ℕ × K)) (id : List ℕ) (r : Result K E) → AreKnown m done → m id ≡ Some r → (k : K) × Has done (id, k) → (k : K) × (r ≡ Ok k)
  known_at done id r known is (k, has) =
      let found : m id ≡ Some (Ok k) = all_has (λ j. m j.0 ≡ Some (Ok j.1)) done (id, k) known has in
      (k, cc)

  pub reach_none : ((r : Result K E) → m [] ≡ Some r → ⊥) → Reaches m [] []
  reach_none none = record {
    ascending = ascending_none;
    within = tt;
    known = tt;
    complete = λ id r is. at id r is;
  }
    where
      at : (id : List ℕ) (r : Result K E) → m id ≡ Some r → Below [] id ⊎ ((k : K) × Has {X = List ℕ × K} [] (id, k))
      at [] r is = absurd (none r is)
      at (x ∷ xs) r is = inl refl

  pub reach_only : (k : K) → m [] ≡ Some (Ok k) → Reaches m [] (([], k) ∷ [])
  reach_only k known = record {
    ascending = ascending_one [];
    within = (inl refl, tt);
    known = (known, tt);
    complete = λ id r is. at id;
  }
    where
      at : (id : List ℕ) → Below [] id ⊎ ((j : K) × Has {X = List ℕ × K} (([], k) ∷ []) (id, j))
      at [] = inr (k, inl refl)
      at (x ∷ xs) = inl refl

  below_next : (above id x : List ℕ) → Below above id → (x ≡ above) ⊎ Below x above → Below x id
  below_next above id x less (inl is) = subst (λ (y : List ℕ). Below y id) (sym is) less
  below_next above id x less (inr before) = below_more x above id before less

  reach_next : (above : List ℕ) (done : List (List ℕ × K)) (n : ℕ) (id : List ℕ) (k : K) (ids : List (List ℕ)) → Reaches m above done → IsNext m above n id ids → m id ≡ Some (Ok k) → Reaches m id (done ++ (id, k) ∷ [])
  reach_next above done n id k ids r next known =
      let below = all_each (λ x. (x ≡ above) ⊎ Below x above) (λ x. Below x id) (λ x h. below_next above id x next.listed.is_above h) (keys_of done) r.within in
      let keys = keys_append done ((id, k) ∷ []) in
      record {
        ascending = subst IsAscending (sym keys) (ascending_end (keys_of done) id r.ascending below);
        within = subst (AllByRecursion (λ x. (x ≡ id) ⊎ Below x id)) (sym keys) (all_append (λ x. (x ≡ id) ⊎ Below x id) (keys_of done) (id ∷ []) (all_each (λ x. Below x id) (λ x. (x ≡ id) ⊎ Below x id) (λ x h. inr h) (keys_of done) below) (inl refl, tt));
        known = all_append (λ j. m j.0 ≡ Some (Ok j.1)) done ((id, k) ∷ []) r.known (known, tt);
        complete = λ x u is. at x u is (r.complete x u is);
      }
    where
      here : (x : List ℕ) → (x ≡ id) ⊎ Below id x → Below id x ⊎ ((j : K) × Has (done ++ (id, k) ∷ []) (x, j))
      here x (inl same) = inr (k, has_right done ((id, k) ∷ []) (x, k) (inl (ap (λ (y : List ℕ). (y, k)) same)))
      here x (inr above) = inl above

      at : (x : List ℕ) (u : Result K E) → m x ≡ Some u → Below above x ⊎ ((j : K) × Has done (x, j)) → Below id x ⊎ ((j : K) × Has (done ++ (id, k) ∷ []) (x, j))
      at x u is (inl later) = here x (next.least x (record { value = u; known = is; is_above = later }))
      at x u is (inr (j, before)) = inr (j, has_left done ((id, k) ∷ []) (x, j) before)

  -- some ids of a page are read: those behind them are the ids above the last that is read
  pub reach_page : (n : ℕ) (above : List ℕ) (done read : List (List ℕ × K)) (more : List (List ℕ)) → Reaches m above done → Pages m above n (keys_of read ++ more) → AreKnown m read
      → Reaches m (last_of above (keys_of read)) (done ++ read) × Pages m (last_of above (keys_of read)) (n - length read) more
  reach_page n above done [] more r page known = (subst (Reaches m above) (sym (append-nil done)) r, subst (λ (k : ℕ). Pages m above k more) (let e : n ≡ n - 0 = omega arith in e) page)
  reach_page zero above done (e ∷ es) more r page known = absurd (none_of_none m above e.0 (keys_of es ++ more) page)
  reach_page (suc n) above done (e ∷ es) more r page known =
      let next = next_of m above n e.0 (keys_of es ++ more) page in
      let rest = reach_page n e.0 (done ++ e ∷ []) es more (reach_next above done n e.0 e.1 (keys_of es ++ more) r next known.0) next.rest known.1 in
      let moved : (done ++ e ∷ []) ++ es ≡ done ++ e ∷ es = simp append_assoc in
      let count : n - length es ≡ suc n - length (e ∷ es) = omega arith in
      (subst (Reaches m (last_of e.0 (keys_of es))) moved rest.0, subst (λ (k : ℕ). Pages m (last_of e.0 (keys_of es)) k more) count rest.1)

  -- where a page isn't full, all are done
  pub all_done : (above : List ℕ) (n : ℕ) (done : List (List ℕ × K)) → Reaches m above done → Pages m above (suc n) [] → (id : List ℕ) (r : Result K E) → m id ≡ Some r → (k : K) × Has done (id, k)
  all_done above n done reaches page id r known = at (reaches.complete id r known)
    where
      at : Below above id ⊎ ((k : K) × Has done (id, k)) → (k : K) × Has done (id, k)
      at (inl later) = absurd (none_left m above n id r page known later)
      at (inr has) = has

  first_fault : (above : List ℕ) (n : ℕ) (done : List (List ℕ × K)) (id : List ℕ) (why : E) (ids : List (List ℕ)) → Reaches m above done → IsNext m above n id ids → m id ≡ Some (Err why) → IsFirstFault m id why
  first_fault above n done id why ids reaches next known = record {
    known = known;
    first = λ other r is less. at other r is less (reaches.complete other r is);
  }
    where
      no : (other : List ℕ) → Below other id → (other ≡ id) ⊎ Below id other → ⊥
      no other less (inl is) = let same : Below id id = subst (λ (x : List ℕ). Below x id) is less in below_not id id same same
      no other less (inr more) = below_not other id less more

      at : (other : List ℕ) (r : Result K E) → m other ≡ Some r → Below other id → Below above other ⊎ ((k : K) × Has done (other, k)) → (k : K) × (r ≡ Ok k)
      at other r is less (inl later) = absurd (no other less (next.least other (record { value = r; known = is; is_above = later })))
      at other r is less (inr has) = known_at done other r reaches.known is has

  -- one that has a fault where those before it on its page have none is the first
  pub fault_in : (n : ℕ) (above : List ℕ) (done : List (List ℕ × K)) (id : List ℕ) (why : E) (ids : List (List ℕ)) → Reaches m above done → Pages m above n (id ∷ ids) → m id ≡ Some (Err why) → IsFirstFault m id why
  fault_in zero above done id why ids reaches page known = absurd (none_of_none m above id ids page)
  fault_in (suc n) above done id why ids reaches page known = first_fault above n done id why ids reaches (next_of m above n id ids page) known

  -- the ids of what is known are there
  pub each_known : (ks : List (List ℕ × K)) → AreKnown m ks → AllByRecursion (λ id. (r : Result K E) × (m id ≡ Some r)) (keys_of ks)
  each_known [] known = tt
  each_known (k ∷ ks) known = ((Ok k.1, known.0), each_known ks known.1)
