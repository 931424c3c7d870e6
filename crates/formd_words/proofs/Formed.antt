-- Forms, put into a map one by one.
use Rattle.std.proofs.Common.{◌≡◌, ◌≢◌, ℕ, List, [], ◌∷◌, ◌++◌, map, Bool, true, false, String, string_bytes, bytes_eq, refl, sym, ap, ◌∙◌, true≢false, arith}
use Rattle.std.specs.List.{AllByRecursion, AllPairs, IsDistinct}
use Rattle.std.specs.Map.{keys_of}
use Rattle.std.specs.String.{string_eq}
use Rattle.std.specs.declared.alloc.Global.{Global}
use Rattle.std.proofs.lemmas.List.Elements.{All-from_recursion}
use Rattle.std.proofs.lemmas.List.Kept.{AllPairs-cons}
use Rattle.std.proofs.lemmas.Map.Keys.{IsDistinct-head, IsDistinct-tail}
use Rattle.std.proofs.lemmas.Slice.Eq.{bytes_eq-Decides}
use Rattle.indexmap.specs.IndexMap.{insert_entry}
use Rattle.fv_datum.proofs.Apart.{apart-head, apart-tail}

abbrev pub AreApart : List (List ℕ × List ℕ) → Type 0
AreApart = AllPairs (λ a b. a.0 ≢ b.0)

module _ {V : Type 0} (entry : String Global × V → List ℕ × List ℕ) (names : (e : String Global × V) → (entry e).0 ≡ string_bytes e.0) where
  others_apart : (n : List ℕ) (k : String Global) → n ≡ string_bytes k → (es : List (String Global × V)) → AllByRecursion (λ y. string_eq k y ≡ false) (keys_of es) → AllByRecursion (λ f. n ≢ f.0) (map entry es)
  others_apart n k is [] h = tt
  others_apart n k is (e ∷ es) h =
      (λ same. true≢false (sym ((bytes_eq-Decides (string_bytes k) (string_bytes e.0)).1 (sym is ∙ same ∙ names e)) ∙ h.0), others_apart n k is es h.1)

  -- the names of the forms of a map stand once
  pub forms_apart : (es : List (String Global × V)) → IsDistinct string_eq (keys_of es) → AreApart (map entry es)
  forms_apart [] h = λ i j d lt within. absurd (omega arith)
  forms_apart (e ∷ es) h =
      AllPairs-cons (λ a b. a.0 ≢ b.0) (entry e) (map entry es) (All-from_recursion (λ f. (entry e).0 ≢ f.0) (map entry es) (others_apart (entry e).0 e.0 (names e) es (IsDistinct-head string_eq e.0 (keys_of es) h)))
      (forms_apart es (IsDistinct-tail string_eq e.0 (keys_of es) h))

other : (b : Bool) (k l : List ℕ) → bytes_eq k l ≡ b → k ≢ l → b ≡ false
other true k l e differs = absurd (differs ((bytes_eq-Decides k l).0 e))
other false k l e differs = refl

middle : (n k : List ℕ) (x : List ℕ) (es more : List (List ℕ × List ℕ)) → AllByRecursion (λ f. f.0 ≢ n) (es ++ (k, x) ∷ more) → k ≢ n
middle n k x [] more h = h.0
middle n k x (e ∷ es) more h = middle n k x es more h.1

-- an entry of a new name goes last
pub insert_new : {K V : Type 0} (name : K → List ℕ) (view : V → List ℕ) (es : List (K × V)) (k : K) (v : V) (more : List (List ℕ × List ℕ))
    → AreApart (map (λ e. (name e.0, view e.1)) es ++ (name k, view v) ∷ more)
    → map (λ e. (name e.0, view e.1)) (insert_entry (λ a b. bytes_eq (name a) (name b)) es k v) ++ more ≡ map (λ e. (name e.0, view e.1)) es ++ (name k, view v) ∷ more
insert_new name view [] k v more h = refl
insert_new name view (e ∷ es) k v more h =
    let seen = map (λ f. (name f.0, view f.1)) es in
    let differs = middle (name e.0) (name k) (view v) seen more (apart-head (name e.0, view e.1) (seen ++ (name k, view v) ∷ more) h) in
    rw (other _ (name k) (name e.0) refl differs) (ap (λ xs. (name e.0, view e.1) ∷ xs) (insert_new name view es k v more (apart-tail (name e.0, view e.1) (seen ++ (name k, view v) ∷ more) h)))
