-- What is read has the members of each object in order.
use Rattle.std.proofs.Common.{◌≡◌, ℕ, List, [], ◌∷◌, map, Option, Some, None, option_map, option_and_then, Ordering, Less, Equal, Greater, nat_cmp, refl, ap, subst, ◌∙◌}
use Rattle.std.specs.Cmp.Lexicographic.{slice_cmp}
use Rattle.std.specs.List.{AllByRecursion}
use Rattle.std.specs.List.Sorted.{IsStrictlySortedBy}
use Rattle.std.specs.Ordering.{match_ordering, ordering_reverse}
use Rattle.std.proofs.lemmas.Cmp.{nat_list_cmp_total}
use Rattle.json.specs.Json as json
use Rattle.json.specs.Lex.{tokens}
use Rattle.serde_json.specs.Data.{Num, Data, number, array, object, item, Members, no_members, member, put}
use Rattle.serde_json.specs.Read.{number_of, of_json, of_items, of_members, max_depth, read}
use Rattle.fv_datum.specs.Ascending.{IsAscending}
use Rattle.fv_store_upgrade.proofs.Order.{IsOrdered, AreOrdered, AreItemsOrdered, AreValuesOrdered}
use Rattle.fv_datum.specs.Members.{pairs}

-- ---- a member that is put

-- a name is below those that are above another that is above it
below_all : (x y : List ℕ) (ys : List (List ℕ)) → slice_cmp nat_cmp x y ≡ Less → AllByRecursion (λ z. slice_cmp nat_cmp y z ≡ Less) ys → AllByRecursion (λ z. slice_cmp nat_cmp x z ≡ Less) ys
below_all x y [] lt h = tt
below_all x y (z ∷ ys) lt h = (nat_list_cmp_total.trans x y z lt h.0, below_all x y ys lt h.1)

abbrev names : Members → List (List ℕ)
names ms = map (λ (m : List ℕ × Data). m.0) (pairs ms)

by_case : {A : Type 0} (P : A → Type 0) (o : Ordering) (a b c : A) → P a → P b → P c → P (match_ordering o a b c)
by_case P Less a b c x y z = x
by_case P Equal a b c x y z = y
by_case P Greater a b c x y z = z

put_values : (k : List ℕ) (d : Data) (ms : Members) → IsOrdered d → AreValuesOrdered ms → AreValuesOrdered (put k d ms)
put_values k d no_members o h = (o, tt)
put_values k d (member l e ms) o h =
    by_case AreValuesOrdered (slice_cmp nat_cmp k l) (member k d (member l e ms)) (member l d ms) (member l e (put k d ms)) (o, h) (o, h.1) (h.0, put_values k d ms o h.1)

put_all : (P : List ℕ → Type 0) (k : List ℕ) (d : Data) (ms : Members) → P k → AllByRecursion P (names ms) → AllByRecursion P (names (put k d ms))
put_all P k d no_members p h = (p, tt)
put_all P k d (member l e ms) p h =
    by_case (λ ns. AllByRecursion P (names ns)) (slice_cmp nat_cmp k l) (member k d (member l e ms)) (member l d ms) (member l e (put k d ms)) (p, h) h (h.0, put_all P k d ms p h.1)

put_names_at : (o : Ordering) (k l : List ℕ) (d e : Data) (ms : Members) → slice_cmp nat_cmp k l ≡ o → IsAscending (names (member l e ms)) → IsAscending (names (put k d ms))
    → IsAscending (names (match_ordering o (member k d (member l e ms)) (member l d ms) (member l e (put k d ms))))
unfolding IsStrictlySortedBy
put_names_at Less k l d e ms is up later = ((is, below_all k l (names ms) is up.0), up)
put_names_at Equal k l d e ms is up later = up
put_names_at Greater k l d e ms is up later =
    (put_all (λ n. slice_cmp nat_cmp l n ≡ Less) k d ms (nat_list_cmp_total.antisymm l k ∙ ap ordering_reverse is) up.0, later)

put_names : (k : List ℕ) (d : Data) (ms : Members) → IsAscending (names ms) → IsAscending (names (put k d ms))
unfolding IsStrictlySortedBy
put_names k d no_members up = (tt, tt)
put_names k d (member l e ms) up = put_names_at (slice_cmp nat_cmp k l) k l d e ms refl up (put_names k d ms up.1)

put_ordered : (k : List ℕ) (d : Data) (ms : Members) → IsOrdered d → AreOrdered ms → AreOrdered (put k d ms)
put_ordered k d ms o h = (put_names k d ms h.0, put_values k d ms o h.1)

none_ordered : AreOrdered no_members
unfolding IsStrictlySortedBy
none_ordered = (tt, tt)

-- ---- what is converted

-- P holds of what was read, if anything was
abbrev IfRead : {A : Type 0} → (A → Type 0) → Option A → Type 0
IfRead P None = Unit {0}
IfRead P (Some a) = P a

read_on : {A B : Type 0} (P : A → Type 0) (Q : B → Type 0) (f : A → Option B) (o : Option A) → IfRead P o → ((a : A) → P a → IfRead Q (f a)) → IfRead Q (option_and_then f o)
read_on P Q f None h g = tt
read_on P Q f (Some a) h g = g a h

read_as : {A B : Type 0} (P : A → Type 0) (Q : B → Type 0) (f : A → B) (o : Option A) → IfRead P o → ((a : A) → P a → Q (f a)) → IfRead Q (option_map f o)
read_as P Q f None h g = tt
read_as P Q f (Some a) h g = g a h

number_ordered : (o : Option Num) → IfRead IsOrdered (option_map number o)
number_ordered None = tt
number_ordered (Some n) = tt

mutual
  json_ordered : (j : json.Json) → IfRead IsOrdered (of_json j)
  json_ordered json.null = tt
  json_ordered (json.boolean b) = tt
  json_ordered (json.number s) = number_ordered (number_of s)
  json_ordered (json.string s) = tt
  json_ordered (json.array js) = read_as AreItemsOrdered IsOrdered array (of_items js) (items_ordered js) (λ ds h. h)
  json_ordered (json.object ms) = read_as AreOrdered IsOrdered object (of_members ms no_members) (members_ordered ms no_members none_ordered) (λ found h. h)

  items_ordered : (js : json.Items) → IfRead AreItemsOrdered (of_items js)
  items_ordered json.no_items = tt
  items_ordered (json.item j js) =
      read_on IsOrdered AreItemsOrdered (λ d. option_map (item d) (of_items js)) (of_json j) (json_ordered j)
      (λ d o. read_as AreItemsOrdered AreItemsOrdered (item d) (of_items js) (items_ordered js) (λ ds h. (o, h)))

  members_ordered : (ms : json.Members) (found : Members) → AreOrdered found → IfRead AreOrdered (of_members ms found)
  members_ordered json.no_members found h = h
  members_ordered (json.member k j ms) found h =
      read_on IsOrdered AreOrdered (λ d. of_members ms (put k d found)) (of_json j) (json_ordered j)
      (λ d o. members_ordered ms (put k d found) (put_ordered k d found o h))

whole_ordered : (o : Option json.Json) → IfRead IsOrdered (option_and_then of_json o)
whole_ordered None = tt
whole_ordered (Some j) = json_ordered j

-- a text's value is in order
pub read_ordered : (text : List ℕ) (d : Data) → read text ≡ Some d → IsOrdered d
read_ordered text d e =
    subst (λ (o : Option Data). IfRead IsOrdered o) e (whole_ordered (option_and_then (λ p. json.if_last p.0 p.1) (json.value max_depth (tokens text))))
