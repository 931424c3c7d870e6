-- Groups by their numbers.
use Rattle.std.proofs.Common.{◌<◌, ℕ, zero, suc, List, [], ◌∷◌, arith}
use Rattle.std.specs.List.{All, AllByRecursion}
use Rattle.fv_declare_schema.specs.Tables.{indices}
use Rattle.fv_declare_schema.specs.declared.declared.GroupId.{GroupId}

-- numbers that are below a bound, at the groups that have them
pub all_below : (n : ℕ) (gs : List GroupId) → AllByRecursion (λ g. g < n) (indices gs) → All (λ h. h.index < n) gs
all_below n [] all k d less = absurd (omega arith)
all_below n (g ∷ gs) all zero d less = all.0
all_below n (g ∷ gs) all (suc k) d less = all_below n gs all.1 k d (omega arith)
