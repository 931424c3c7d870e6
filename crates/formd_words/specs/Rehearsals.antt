-- What a rehearsal does beside answering.
use Rattle.std.specs.Prelude.{◌≡◌, ℕ, ℤ, List, [], ◌∷◌, ◌++◌, codes}
use Rattle.fv_engine_lines.specs.Runs.{Steps}

-- the line that asks for the record of an id
abbrev pub get_line : List ℕ → List ℕ
get_line id = codes "{\"do\":\"get\",\"id\":\"" ++ (id ++ codes "\"}")

-- records were asked for, one after another, at a moment
abbrev pub Asks : {P : Type 0} → Steps P → ℤ → P → List (List ℕ) → P → Type 0
Asks step now old [] new = new ≡ old
Asks {P} step now old (id ∷ ids) new = (mid : P) × (reply : List ℕ) × step old (get_line id) now reply mid × Asks step now mid ids new

-- a line was answered, and then some records were asked for
abbrev pub Rehearses : {P : Type 0} → Steps P → Steps P
Rehearses {P} step old line now reply new = (mid : P) × step old line now reply mid × ((ids : List (List ℕ)) × Asks step now mid ids new)
