-- Adding changes to those that are found.
use Rattle.std.proofs.Common.{◌≡◌, ◌⊎◌, inl, inr, ℕ, List, Bool, true, false, cond, Option, Some, IsSome, String, BTreeMap, Global, bytes_eq, string_bytes, string_cmp, map, refl, sym, ap, ◌∙◌}
use Rattle.std.specs.BTreeMap.{insert_entry}
use Rattle.std.proofs.lemmas.Slice.Eq.{bytes_eq-Decides}
use Rattle.fv_datum.specs.Lookup.{at_name}
use Rattle.fv_datum.proofs.Maps.{at_insert, put_seen}
use Rattle.fv_explain_over.specs.Adding.{Adds, found_view}
use Rattle.fv_explain_over.specs.Changes.{Only}
use Rattle.fv_explain_over.specs.declared.differing.Change.{Change}

abbrev pub Told : Type 0
Told = List (List ℕ × Change)

-- nothing is added
pub adds_none : (a : Told) (R : List ℕ → Change → Type 0) → ((p : List ℕ) (x : Change) → R p x → ⊥) → Adds a a R
adds_none a R none = record {
  sound = λ p x is. inl is;
  kept = λ p is. is;
  complete = λ p x r. absurd (none p x r);
}

-- some are added, and then others
pub adds_then : (a b c : Told) (R S : List ℕ → Change → Type 0) → Adds a b R → Adds b c S → Adds a c (λ p x. R p x ⊎ S p x)
adds_then a b c R S first second = record {
  sound = λ p x is.
      elim (second.sound p x is) [
        | inl was ↦ elim (first.sound p x was) [ inl old ↦ inl old | inr r ↦ inr (inl r) ]
        | inr s ↦ inr (inr s)
      ];
  kept = λ p is. second.kept p (first.kept p is);
  complete = λ p x is. elim is [ inl r ↦ second.kept p (first.complete p x r) | inr s ↦ second.complete p x s ];
}

-- the same, said in another way
pub adds_as : (a b : Told) (R S : List ℕ → Change → Type 0) → ((p : List ℕ) (x : Change) → R p x → S p x) → ((p : List ℕ) (x : Change) → S p x → (y : Change) × R p y) → Adds a b R → Adds a b S
adds_as a b R S there back adds = record {
  sound = λ p x is. elim (adds.sound p x is) [ inl old ↦ inl old | inr r ↦ inr (there p x r) ];
  kept = adds.kept;
  complete = λ p x s. let r = back p x s in adds.complete p r.0 r.1;
}

module _ (old : Told) (k : List ℕ) (x : Change) where
  chosen : (p : List ℕ) (c : Change) (b : Bool) → bytes_eq p k ≡ b → cond b (Some x) (at_name p old) ≡ Some c → (at_name p old ≡ Some c) ⊎ ((p ≡ k) × (c ≡ x))
  chosen p c true same is = inr ((bytes_eq-Decides p k).0 same, (let e : c ≡ x = cc in e))
  chosen p c false other is = inl is

  stays : (b : Bool) (o : Option Change) → IsSome o → IsSome (cond b (Some x) o)
  stays true o is = refl
  stays false o is = is

  put_adds : (new : Told) → ((q : List ℕ) → at_name q new ≡ cond (bytes_eq q k) (Some x) (at_name q old)) → Adds old new (Only k x)
  put_adds new step = record {
    sound = λ p c is. chosen p c _ refl (sym (step p) ∙ is);
    kept = λ p is. rw (step p) (stays (bytes_eq p k) (at_name p old) is);
    complete = λ p c is. rw (step p, (bytes_eq-Decides p k).1 is.0) refl;
  }

-- one is put in
pub inserted : (old new : BTreeMap (String Global) Change) (k : String Global) (x : Change) → new.entries ≡ insert_entry string_cmp old.entries k x → Adds (found_view old) (found_view new) (Only (string_bytes k) x)
inserted old new k x is =
    put_adds (found_view old) (string_bytes k) x (found_view new)
    (λ q. ap (λ es. at_name q (map (λ e. (string_bytes e.0, e.1)) es)) is ∙ ap (at_name q) (put_seen (λ y. y) old.entries k x) ∙ at_insert (found_view old) (string_bytes k) x q)
