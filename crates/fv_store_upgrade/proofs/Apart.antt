-- No two objects that are read of one row have one name.
use Rattle.std.proofs.Common.{◌≡◌, ℕ, List, [], ◌∷◌, Bool, true, false, cond, Option, Some, None, option_map, option_and_then, map, codes, nat_cmp, Ordering, Less, Equal, Greater, refl, sym, ap, subst, ◌∙◌}
use Rattle.std.specs.Cmp.Lexicographic.{slice_cmp}
use Rattle.std.specs.List.{AllByRecursion}
use Rattle.std.specs.List.Sorted.{IsStrictlySortedBy}
use Rattle.std.specs.Ordering.{match_ordering}
use Rattle.serde_json.specs.Data as json
use Rattle.serde_json.specs.Data.{Data, null, boolean, number, string, array, object}
use Rattle.serde_json.specs.Find.{as_str, get, get_member}
use Rattle.serde_json.specs.Read.{read}
use Rattle.fv_datum.specs.Ascending.{IsAscending}
use Rattle.fv_datum.specs.Forms.{each_member, map2, required}
use Rattle.fv_datum.specs.Members.{each_some, has_only, pairs}
use Rattle.fv_store_upgrade.proofs.Order.{IsOrdered, AreValuesOrdered}
use Rattle.fv_store_upgrade.proofs.Ordered.{read_ordered}
use Rattle.fv_store_tables.specs.Changes.{AreApart, NamedTexts, AllTexts, has_name, names_of}
use Rattle.fv_store_tables.specs.Olds.{Old}
use Rattle.fv_store_tables.specs.Stands.{Entry}
use Rattle.fv_store_tables.proofs.Objects.{below_apart}
use Rattle.fv_store_upgrade.specs.Upgraded.{bundle_in, entry_in, upgraded_entry, fields_in, object_in}
use Rattle.fv_store_upgrade.proofs.Reading.{each_parts}

-- ---- names that ascend are apart

none_named : (name : List ℕ) (os : AllTexts) → AllByRecursion (λ y. slice_cmp nat_cmp name y ≡ Less) (names_of os) → has_name name os ≡ false
none_named name [] above = refl
none_named name (o ∷ os) above = rw (below_apart name o.0 above.0) (none_named name os above.1)

named_apart : (os : AllTexts) → IsAscending (names_of os) → AreApart os
unfolding IsStrictlySortedBy
named_apart [] up = tt
named_apart (o ∷ os) up = (none_named o.0 os up.0, named_apart os up.1)

-- ---- an object keeps its member's name

object_named : (m : List ℕ × Data) (o : NamedTexts) → object_in m ≡ Some o → o.0 ≡ m.0
object_named m o is = go (has_only (codes "fields" ∷ codes "type" ∷ []) m.1) (required as_str (codes "type") m.1) (required fields_in (codes "fields") m.1) is
  where
    go : (b : Bool) (kind fields : Option (List ℕ)) → cond b (map2 (λ kind fields. (m.0, record { kind = kind; fields = fields })) kind fields) None ≡ Some o → o.0 ≡ m.0
    go false kind fields whole = absurd cc
    go true None fields whole = absurd cc
    go true (Some k) None whole = absurd cc
    go true (Some k) (Some f) whole = let same : (m.0, record { kind = k; fields = f }) ≡ o = cc in ap (λ (x : NamedTexts). x.0) (sym same)

objects_named : (ms : List (List ℕ × Data)) (os : AllTexts) → each_some object_in ms ≡ Some os → names_of os ≡ map (λ m. m.0) ms
objects_named [] os is = let none : [] ≡ os = cc in ap names_of (sym none)
objects_named (m ∷ ms) os is =
    let it = each_parts object_in m ms os is in
    ap names_of it.4 ∙ ap (λ n. n ∷ names_of it.1) (object_named m it.0 it.2) ∙ ap (λ ns. m.0 ∷ ns) (objects_named ms it.1 it.3)

-- ---- members ascend

member_ordered : (name : List ℕ) (ms : json.Members) (d : Data) → AreValuesOrdered ms → get_member name ms ≡ Some d → IsOrdered d
member_ordered name json.no_members d up is = absurd cc
member_ordered name (json.member k e ms) d up is = go (member_ordered name ms d up.1) (slice_cmp nat_cmp name k) is
  where
    go : (get_member name ms ≡ Some d → IsOrdered d) → (o : Ordering) → match_ordering o (get_member name ms) (Some e) (get_member name ms) ≡ Some d → IsOrdered d
    go later Less found = later found
    go later Equal found = let same : e ≡ d = cc in subst IsOrdered same up.0
    go later Greater found = later found

part_ordered : (name : List ℕ) (j d : Data) → IsOrdered j → get name j ≡ Some d → IsOrdered d
part_ordered name null d up is = absurd cc
part_ordered name (boolean b) d up is = absurd cc
part_ordered name (number n) d up is = absurd cc
part_ordered name (string s) d up is = absurd cc
part_ordered name (array js) d up is = absurd cc
part_ordered name (object ms) d up is = member_ordered name ms d up.1 is

members_apart : (d : Data) (os : AllTexts) → IsOrdered d → each_member object_in d ≡ Some os → AreApart os
members_apart null os up is = absurd cc
members_apart (boolean b) os up is = absurd cc
members_apart (number n) os up is = absurd cc
members_apart (string s) os up is = absurd cc
members_apart (array js) os up is = absurd cc
members_apart (object ms) os up is = named_apart os (subst IsAscending (sym (objects_named (pairs ms) os is)) up.0)

bundle_apart : (j : Data) (b : List ℕ × AllTexts) → IsOrdered j → bundle_in j ≡ Some b → AreApart b.1
bundle_apart j b up is = go (has_only (codes "objects" ∷ codes "root" ∷ []) j) (required as_str (codes "root") j) (get (codes "objects") j) refl is
  where
    inner : (root : List ℕ) (d : Data) → IsOrdered d → (o : Option AllTexts) → each_member object_in d ≡ o → option_map (λ os. (root, os)) o ≡ Some b → AreApart b.1
    inner root d ordered None read whole = absurd cc
    inner root d ordered (Some os) read whole = let same : (root, os) ≡ b = cc in subst (λ (x : List ℕ × AllTexts). AreApart x.1) same (members_apart d os ordered read)

    go : (only : Bool) (root : Option (List ℕ)) (o : Option Data) → get (codes "objects") j ≡ o → cond only (map2 (λ root objects. (root, objects)) root (option_and_then (each_member object_in) o)) None ≡ Some b → AreApart b.1
    go false root o found whole = absurd cc
    go true None o found whole = absurd cc
    go true (Some r) None found whole = absurd cc
    go true (Some r) (Some d) found whole = inner r d (part_ordered (codes "objects") j d up found) (each_member object_in d) refl whole

-- a row's objects are apart
pub entry_apart : (o : Old) (k : Entry) → entry_in o ≡ Some k → AreApart k.objects
entry_apart o k is = go (read o.bundle) refl is
  where
    inner : (j : Data) → IsOrdered j → (b : Option (List ℕ × AllTexts)) → bundle_in j ≡ b → option_map (upgraded_entry o.form) b ≡ Some k → AreApart k.objects
    inner j up None found whole = absurd cc
    inner j up (Some b) found whole = let same : upgraded_entry o.form b ≡ k = cc in subst (λ (x : Entry). AreApart x.objects) same (bundle_apart j b up found)

    go : (r : Option Data) → read o.bundle ≡ r → option_map (upgraded_entry o.form) (option_and_then bundle_in r) ≡ Some k → AreApart k.objects
    go None found whole = absurd cc
    go (Some j) found whole = inner j (read_ordered o.bundle j found) (bundle_in j) refl whole
