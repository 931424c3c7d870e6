-- The objects of a record that is there are replaced by one UPDATE.
use Rattle.std.proofs.Common.{◌≡◌, ◌+◌, inl, inr, ℕ, ℤ, true, List, [], ◌∷◌, map, IsSome, refl, sym, ap, subst, ◌∙◌, arith}
use Rattle.sqlite.specs.Effect.{Database}
use Rattle.sqlite.specs.Order.{Row}
use Rattle.sqlite.specs.declared.error.Error.{Error}
use Rattle.sqlite.specs.State.{State, HasCleanDisk}
use Rattle.sqlite_rules.specs.Lists.{Has}
use Rattle.sqlite_rules.proofs.ProbeLemmas.{has_mapped, mapped_has}
use Rattle.sqlite_trees.proofs.ListLemmas.{map-map}
use Rattle.fv_store_tables.specs.declared.entry.FoundRow.{FoundRow}
use Rattle.fv_store_tables.specs.Stands.{ObjectTexts, Maps, NumberedThing, SpellsTables, Frame, IsOwned}
use Rattle.fv_store_tables.specs.Causes.{AreShort, HasRooms, IsExcused}
use Rattle.fv_store_tables.specs.Changes.{NamedTexts, AllTexts, AreApart, all_added, found_objects, found_view, has_name, names_of, others_dropped, replaced}
use Rattle.fv_store_tables.specs.Steps.{Advances, Makes, AreRowsOf, ArePartsOf}
use Rattle.fv_store_tables.specs.Updating.{Follow, IsRange, UpdatesRange, things_of}
use Rattle.fv_store_tables.proofs.Composed.{fewer_rooms}
use Rattle.fv_store_tables.proofs.RangePlaces.{object_of, partner}
use Rattle.fv_store_tables.proofs.Replaces.{dropped_added, named}
use Rattle.fv_store_tables.proofs.Steps.{failed_then}

-- none is taken out whose name is among the new ones
none_dropped : (id : List ℕ) (os : AllTexts) (names : List (List ℕ)) (t : Maps) → ((name : List ℕ) → Has names name → has_name name os ≡ true) → others_dropped id os names t ≡ t
none_dropped id os [] t each = refl
none_dropped id os (n ∷ names) t each = rw (each n (inl refl)) (none_dropped id os names t (λ name h. each name (inr h)))

named_among : (os : AllTexts) (name : List ℕ) → Has (names_of os) name → has_name name os ≡ true
named_among os name h =
    let o = has_mapped (λ (x : List ℕ × ObjectTexts). x.0) os name h in
    subst (λ (n : List ℕ). has_name n os ≡ true) (sym o.2) (named os o.0 o.1)

-- each object that the rows keep has the name of a new one
has_new : (n : ℤ) (rs : List NumberedThing) (os : AllTexts) → Follow n rs os → (o : NamedTexts) → Has (things_of rs) o → Has (names_of os) o.0
has_new n rs os follow o h =
    let r = has_mapped (λ (x : NumberedThing). x.1) rs o h in
    let mate = partner n rs os follow r.0 r.1 in
    let among = mapped_has (λ (x : List ℕ × ObjectTexts). x.0) os mate.0 (object_of rs os (r.0.0, mate.0) mate.1) in
    subst (Has (names_of os)) (mate.2 ∙ ap (λ (x : NamedTexts). x.0) (sym r.2)) among

-- so they are those of the record when they are written
all_replaced : (id : List ℕ) (rs : List NumberedThing) (os : AllTexts) (t : Maps) → IsRange rs os → ArePartsOf id (things_of rs) t → all_added id os t ≡ replaced id os t
all_replaced id rs os t range parts =
    ap (all_added id os) (sym (none_dropped id os (names_of os) t (named_among os)))
    ∙ dropped_added id os (names_of os) t (λ name p known. has_new range.follow.0 rs os range.follow.1 (name, p) (parts.1 name p known))

module _ (a b c : State) (id : List ℕ) (there : List FoundRow) (os : AllTexts) (k : ℕ) (range : IsRange (map found_view there) os)
    (found : (d : List Row) (t : Maps) → SpellsTables a.now d t → AreRowsOf id (map found_view there) a.now × ArePartsOf id (found_objects there) t) (p : Advances a b (λ was is. is ≡ was)) where
  abbrev rs : List NumberedThing
  rs = map found_view there

  kept_in : (d : List Row) (t : Maps) → SpellsTables a.now d t → SpellsTables b.now d t × AreRowsOf id rs b.now × ArePartsOf id (things_of rs) t
  kept_in d t spelled =
      let it = found d t spelled in (
        subst (λ (x : Database). SpellsTables x d t) (sym p.change) spelled,
        subst (λ (x : Database). AreRowsOf id rs x) (sym p.change) it.0,
        subst (λ (os : AllTexts). ArePartsOf id os t) (sym (map-map (λ (r : NumberedThing). r.1) found_view there)) it.1,
      )

  pub range_replaced : Advances b c (UpdatesRange id rs os) → Advances a c (Makes k (λ _. AreApart os) (replaced id os))
  range_replaced q = record {
    was_open = λ live. p.was_open (q.was_open live);
    mode = q.mode;
    committed = q.committed ∙ p.committed;
    change = λ d t spelled apart.
        let in_b = kept_in d t spelled in
        let it = q.change d t in_b.0 in_b.1 in_b.2 apart in (
          subst (SpellsTables c.now d) (all_replaced id rs os t range in_b.2) it.0,
          λ n room. it.1 n (subst (HasRooms n) (sym p.change) (fewer_rooms n (n + k) a.now (omega arith) room)),
        );
  }

  pub range_replaced_cause : HasCleanDisk c → Frame a b → Frame b c → (e : Error)
      → ((d : List Row) (t : Maps) → SpellsTables b.now d t → AreRowsOf id rs b.now → ArePartsOf id (things_of rs) t → AreApart os → IsOwned t → IsSome (t.heads id) → HasRooms 0 b.now → AreShort id os → IsExcused b c e)
      → (d : List Row) (t : Maps) → SpellsTables a.now d t → AreApart os → IsOwned t → IsSome (t.heads id) → HasRooms k a.now → AreShort id os → IsExcused a c e
  range_replaced_cause clean before after e h d t spelled apart owned has room short refused =
      let in_b = kept_in d t spelled in
      failed_then a b c (after.clean clean) before after.counts
      (h d t in_b.0 in_b.1 in_b.2 apart owned has (subst (HasRooms 0) (sym p.change) (fewer_rooms 0 k a.now (omega arith) room)) short refused)
