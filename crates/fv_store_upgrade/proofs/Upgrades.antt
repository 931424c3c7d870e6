-- The records that are read of all rows are those of version 2.
use Rattle.std.proofs.Common.{◌≡◌, ◌⊎◌, ◌+◌, length, inl, inr, ℕ, List, [], ◌∷◌, true, bytes_eq, Option, Some, None, IsSome, option_map, option_and_then, refl, sym, ap, ap₂, subst, ◌∙◌}
use Rattle.std.proofs.lemmas.Bool.{cases_Bool}
use Rattle.std.proofs.lemmas.Slice.Eq.{bytes_eq-Decides}
use Rattle.sqlite_rules.specs.Lists.{Has}
use Rattle.fv_datum.specs.Members.{each_some}
use Rattle.fv_store_tables.specs.Causes.{AreShort, IsShortHead}
use Rattle.fv_store_tables.specs.Creating.{no_entries}
use Rattle.fv_store_tables.specs.Olds.{AreOlds, Old, Olds}
use Rattle.fv_store_tables.specs.Stands.{Entry, TableEntries, with_entry}
use Rattle.fv_store_upgrade.specs.Steps.{AllApart, EachShort, Named, all_put, named_in, rows_taken}
use Rattle.fv_store_upgrade.specs.Upgraded.{AllShort, AllUpgrade, entry_in, rows_in, rows_of, upgraded}
use Rattle.fv_store_upgrade.proofs.Apart.{entry_apart}
use Rattle.fv_store_upgrade.proofs.Reading.{each_parts}

-- ---- puts of just these records make them

found_in : (ks : List Named) (m : TableEntries) (id : List ℕ) (k : Entry) → all_put ks m id ≡ Some k → Has ks (id, k) ⊎ (m id ≡ Some k)
found_in [] m id k is = inr is
found_in (e ∷ ks) m id k is = elim (found_in ks (with_entry e.0 e.1 m) id k is) [
  | inl later ↦ inl (inr later)
  | inr here ↦ elim (cases_Bool (bytes_eq id e.0)) [
    | inl same ↦
        let key = (bytes_eq-Decides id e.0).0 same in
        let value : Some e.1 ≡ Some k = rw same at here in
        let value_is : e.1 ≡ k = cc in
        inl (inl (ap₂ (λ (a : List ℕ) (b : Entry). (a, b)) key (sym value_is)))
    | inr other ↦ inr (rw other at here)
  ]
]

none_lost : (ks : List Named) (m : TableEntries) (id : List ℕ) → all_put ks m id ≡ None → m id ≡ None
none_lost [] m id is = is
none_lost (e ∷ ks) m id is = elim (cases_Bool (bytes_eq id e.0)) [
  | inl same ↦ let never : Some e.1 ≡ None = rw same at (none_lost ks (with_entry e.0 e.1 m) id is) in absurd cc
  | inr other ↦ rw other at (none_lost ks (with_entry e.0 e.1 m) id is)
]

none_has : (ks : List Named) (m : TableEntries) (id : List ℕ) (k : Entry) → all_put ks m id ≡ None → Has ks (id, k) → ⊥
none_has [] m id k is h = h
none_has (e ∷ ks) m id k is (inr later) = none_has ks (with_entry e.0 e.1 m) id k is later
none_has (e ∷ ks) m id k is (inl same) =
    let none = none_lost ks (with_entry e.0 e.1 m) id is in
    let key : bytes_eq id e.0 ≡ true = (bytes_eq-Decides id e.0).1 (ap (λ (p : Named). p.0) same) in
    let never : Some e.1 ≡ None = rw key at none in
    cc

puts_make : (ks : List Named) (m : TableEntries) → ((k : Named) → Has ks k → m k.0 ≡ Some k.1) → ((id : List ℕ) (k : Entry) → m id ≡ Some k → Has ks (id, k)) → all_put ks no_entries ≡ m
puts_make ks m sound complete = λ i id. go id (all_put ks no_entries id) refl (m id) refl i
  where
    go : (id : List ℕ) (o : Option Entry) → all_put ks no_entries id ≡ o → (p : Option Entry) → m id ≡ p → all_put ks no_entries id ≡ m id
    go id None none None lacks = none ∙ sym lacks
    go id None none (Some k) has = absurd (none_has ks no_entries id k none (complete id k has))
    go id (Some k) some p is = elim (found_in ks no_entries id k some) [
      | inl there ↦ some ∙ sym (sound (id, k) there)
      | inr never ↦ absurd (let wrong : None ≡ Some k = never in cc)
    ]

-- ---- one row

named_parts : (e : List ℕ × Old) (k : Named) → named_in e ≡ Some k → (e.0 ≡ k.0) × (entry_in e.1 ≡ Some k.1)
named_parts e k is = go (entry_in e.1) refl is
  where
    go : (o : Option Entry) → entry_in e.1 ≡ o → option_map (λ x. (e.0, x)) o ≡ Some k → (e.0 ≡ k.0) × (entry_in e.1 ≡ Some k.1)
    go None found whole = absurd cc
    go (Some x) found whole = let same : (e.0, x) ≡ k = cc in (ap (λ (p : Named). p.0) same, found ∙ ap (λ (p : Named). Some p.1) same)

-- ---- all rows

-- each record that is read is of one of the rows
read_from : (es : List (List ℕ × Old)) (ks : List Named) → each_some named_in es ≡ Some ks → (k : Named) → Has ks k → (e : List ℕ × Old) × Has es e × (named_in e ≡ Some k)
read_from [] ks read k there = let none : [] ≡ ks = cc in absurd (subst (λ l. Has l k) (sym none) there)
read_from (e ∷ es) ks read k there =
    let it = each_parts named_in e es ks read in
    elim (subst (λ l. Has l k) it.4 there) [
      | inl is ↦ (e, inl refl, it.2 ∙ ap (λ x. Some x) (sym is))
      | inr later ↦ let x = read_from es it.1 it.3 k later in (x.0, inr x.1, x.2)
    ]

-- and each row is read
read_to : (es : List (List ℕ × Old)) (ks : List Named) → each_some named_in es ≡ Some ks → (e : List ℕ × Old) → Has es e → (k : Named) × Has ks k × (named_in e ≡ Some k)
read_to [] ks read e there = absurd there
read_to (x ∷ es) ks read e there =
    let it = each_parts named_in x es ks read in
    elim there [
      | inl is ↦ (it.0, subst (λ l. Has l it.0) (sym it.4) (inl refl), ap named_in is ∙ it.2)
      | inr later ↦ let y = read_to es it.1 it.3 e later in (y.0, subst (λ l. Has l y.0) (sym it.4) (inr y.1), y.2)
    ]

pub all_apart : (es : List (List ℕ × Old)) (ks : List Named) → each_some named_in es ≡ Some ks → AllApart ks
all_apart [] ks read = let none : [] ≡ ks = cc in subst AllApart none tt
all_apart (e ∷ es) ks read =
    let it = each_parts named_in e es ks read in
    subst AllApart (sym it.4) (entry_apart e.1 it.0.1 (named_parts e it.0 it.2).1, all_apart es it.1 it.3)

-- they take as many rows as was counted
pub rows_read : (es : List (List ℕ × Old)) (ks : List Named) → each_some named_in es ≡ Some ks → rows_of es ≡ rows_taken ks
rows_read [] ks read = let none : [] ≡ ks = cc in ap rows_taken none
rows_read (e ∷ es) ks read =
    let it = each_parts named_in e es ks read in
    let one : rows_in e.1 ≡ 1 + length it.0.1.objects = rw (named_parts e it.0 it.2).1 refl in
    ap₂ (λ a b. a + b) one (rows_read es it.1 it.3) ∙ ap rows_taken (sym it.4)

each_short : (ks : List Named) → ((k : Named) → Has ks k → IsShortHead k.0 (record { form = k.1.form; root = k.1.root }) × AreShort k.0 k.1.objects) → EachShort ks
each_short [] short = tt
each_short (k ∷ ks) short = (short k (inl refl), each_short ks (λ x h. short x (inr h)))

some_in : (o : Option Old) (k : Entry) → option_and_then entry_in o ≡ Some k → (old : Old) × (o ≡ Some old) × (entry_in old ≡ Some k)
some_in None k is = absurd cc
some_in (Some old) k is = (old, refl, is)

read_as : (ks : List Named) (id : List ℕ) (o : Old) (k : Entry) (x : Named) → Has ks x → named_in (id, o) ≡ Some x → entry_in o ≡ Some k → Has ks (id, k)
read_as ks id o k x there read is =
    let parts = named_parts (id, o) x read in
    let value : Some x.1 ≡ Some k = sym parts.1 ∙ is in
    let same : x.1 ≡ k = cc in
    subst (Has ks) {x = x} (ap₂ (λ (a : List ℕ) (b : Entry). (a, b)) (sym parts.0) same) there

module _ (es : List (List ℕ × Old)) (ks : List Named) (m : Olds) (are : AreOlds es m) (read : each_some named_in es ≡ Some ks) where
  sound : (k : Named) → Has ks k → upgraded m k.0 ≡ Some k.1
  sound k there =
      let it = read_from es ks read k there in
      let parts = named_parts it.0 k it.2 in
      ap (λ id. option_and_then entry_in (m id)) (sym parts.0) ∙ ap (option_and_then entry_in) (are.sound it.0 it.1) ∙ parts.1

  complete : (id : List ℕ) (k : Entry) → upgraded m id ≡ Some k → Has ks (id, k)
  complete id k is =
      let x = some_in (m id) k is in
      let it = read_to es ks read (id, x.0) (are.complete id x.0 x.1) in
      read_as ks id x.0 k it.0 it.1 it.2 x.2

  pub upgraded_are : all_put ks no_entries ≡ upgraded m
  upgraded_are = puts_make ks (upgraded m) sound complete

  pub all_short : AllShort (upgraded m) → EachShort ks
  all_short short = each_short ks (λ k there. short k.0 k.1 (sound k there))

  pub all_upgrade : AllUpgrade m
  all_upgrade id o is =
      let it = read_to es ks read (id, o) (are.complete id o is) in
      subst IsSome (sym (named_parts (id, o) it.0 it.2).1) refl

-- ---- a row that isn't read

never : IsSome {T = Entry} None → ⊥
never h = cc

each_read : (es : List (List ℕ × Old)) → ((e : List ℕ × Old) → Has es e → IsSome (entry_in e.1)) → each_some named_in es ≡ None → ⊥
each_read [] all none = cc
each_read (e ∷ es) all none = go (each_read es (λ x h. all x (inr h))) (entry_in e.1) refl (each_some named_in es) refl none
  where
    go : (each_some named_in es ≡ None → ⊥) → (o : Option Entry) → entry_in e.1 ≡ o → (r : Option (List Named)) → each_some named_in es ≡ r → option_and_then (λ y. option_map (λ ys. y ∷ ys) r) (option_map (λ k. (e.0, k)) o) ≡ None → ⊥
    go rest None first r later whole = never (subst IsSome first (all e (inl refl)))
    go rest (Some k) first None later whole = rest later
    go rest (Some k) first (Some ks) later whole = cc

pub not_all : (es : List (List ℕ × Old)) (m : Olds) → AreOlds es m → each_some named_in es ≡ None → AllUpgrade m → ⊥
not_all es m are none all = each_read es (λ e there. all e.0 e.1 (are.sound e there)) none
