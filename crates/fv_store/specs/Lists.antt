-- The first ids of the records that pass a test.
use Rattle.std.specs.Prelude.{◌≡◌, ℕ, List, take}
use Rattle.fv_store.specs.Pages.{AreListedOf}
use Rattle.fv_store.specs.Records.{Kept, Records}

-- the first ids above this one of the records that are as said, so many at most
abbrev pub ListsOf : Records → (Kept → Type 0) → List ℕ → ℕ → List (List ℕ) → Type 0
ListsOf m Wanted above limit ids = (all : List (List ℕ)) × AreListedOf m Wanted above all × (ids ≡ take limit all)

-- the first ids above this one of a form's records, so many at most
abbrev pub Lists : Records → List ℕ → List ℕ → ℕ → List (List ℕ) → Type 0
Lists m form above limit ids = (all : List (List ℕ)) × AreListedOf m (λ k. k.form ≡ form) above all × (ids ≡ take limit all)
