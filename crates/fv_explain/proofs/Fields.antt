-- The most fields that a type has, one after another.
use Rattle.std.proofs.Common.{◌≡◌, ◌<◌, ◌+◌, ◌∷◌, ℕ, zero, suc, [], length, drop, max, add-one, arith}
use Rattle.fv_bundle.specs.Types.{Declared, fields_at}
use Rattle.fv_explain.specs.Explained.{most_fields}

fields_more_suc : (ts : Declared) (i most : ℕ) → i < length ts
    → max (most_fields (drop i ts)) most ≡ max (most_fields (drop (suc i) ts)) (max (length (fields_at ts i)) most)
fields_more_suc [] i most h = absurd (omega arith)
fields_more_suc (t ∷ ts) zero most h = omega arith
fields_more_suc (t ∷ ts) (suc i) most h = fields_more_suc ts i most (omega arith)

-- one type more
pub fields_more : (ts : Declared) (i most : ℕ) → i < length ts
    → max (most_fields (drop i ts)) most ≡ max (most_fields (drop (i + 1) ts)) (max (length (fields_at ts i)) most)
fields_more ts i most h = rw add-one (fields_more_suc ts i most h)
