-- Lists of which no two elements are alike.
use Rattle.std.specs.Prelude.{◌≢◌, List, [], ◌∷◌}
use Rattle.std.specs.List.{AllByRecursion}
use Rattle.fv_datum.specs.Data.{Data}
use Rattle.fv_extract.specs.Parts.{Locus}

-- each is so to each that follows it
abbrev pub Pairwise : {X : Type 0} → (X → X → Type 0) → List X → Type 0
Pairwise R [] = Unit {0}
Pairwise R (x ∷ xs) = AllByRecursion (R x) xs × Pairwise R xs

-- the loci are two
abbrev pub Differ : Locus × Data → Locus × Data → Type 0
Differ p q = p.0 ≢ q.0
