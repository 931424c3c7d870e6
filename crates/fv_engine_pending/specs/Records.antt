-- For private clauses: records by their ids, judged one after another.
use Rattle.std.specs.Prelude.{◌≡◌, ℕ, ℤ, List, [], ◌∷◌, ◌++◌}
use Rattle.sqlite_rules.specs.Lists.{Has}
use Rattle.fv_declare_schema.specs.Declarations.{Declarations}
use Rattle.fv_engine_pending.specs.Judging.{IsListingOf, IsOverVisited}
use Rattle.fv_registry.specs.Meanings.{Meanings}
use Rattle.fv_store.specs.Records.{Kept}
use Rattle.fv_validate.specs.Violations.{Judged, Reported}

-- each record with its violations, in order
abbrev pub AreJudged : Meanings → Declarations → ℤ → List (List ℕ × Kept) → List Judged → Type 0
AreJudged means ds now [] ls = ls ≡ []
AreJudged means ds now (k ∷ ks) ls = (vs : List Reported) × (rest : List Judged) × (ls ≡ (k.0, vs) ∷ rest)
    × IsListingOf means ds now k.1 vs × AreJudged means ds now ks rest

-- one of the records has too many visits
abbrev pub OneIsOver : Declarations → List (List ℕ × Kept) → Type 0
OneIsOver ds ks = (k : List ℕ × Kept) × Has ks k × IsOverVisited ds k.1

-- a record with its violations, if it has some
abbrev pub some_of : List ℕ → List Reported → List Judged
some_of id [] = []
some_of id (v ∷ vs) = (id, v ∷ vs) ∷ []

-- the records that have violations
abbrev pub with_some : List Judged → List Judged
with_some [] = []
with_some (l ∷ ls) = some_of l.0 l.1 ++ with_some ls
