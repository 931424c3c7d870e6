-- What groups stand for are plain groups.
use Rattle.std.proofs.Common.{◌≡◌, ◌<◌, ℕ, zero, suc, List, [], ◌∷◌, map, length, get_or, Bool, true, false, cond, ◌⊎◌, inl, inr, refl, subst, arith}
use Rattle.std.specs.List.{concat}
use Rattle.fv_graph.specs.Graph.{mem, IsIn}
use Rattle.fv_graph.specs.Recursion.{value_in}
use Rattle.fv_graph.proofs.Lists.{in_cases}
use Rattle.fv_declare_schema.specs.Groups.{Groups, is_sequence, member_next, members_of, form_at, ranked, ranks}
use Rattle.fv_declare_schema.specs.Once.{once_after, once}
use Rattle.fv_declare_schema.specs.Tables.{indices}
use Rattle.fv_declare_schema.specs.declared.declared.GroupId.{GroupId}
use Rattle.fv_declare_schema.proofs.Edges.{numbers_below}

from_once : (done xs : List ℕ) (j : ℕ) → IsIn (once_after done xs) j → IsIn xs j
from_once done [] j h = h
from_once done (x ∷ xs) j h = go (from_once done xs j) (from_once (x ∷ done) xs j) (mem done x) h
  where
    go : (IsIn (once_after done xs) j → IsIn xs j) → (IsIn (once_after (x ∷ done) xs) j → IsIn xs j) → (b : Bool) → IsIn (cond b (once_after done xs) (x ∷ once_after (x ∷ done) xs)) j → (x ≡ j) ⊎ IsIn xs j
    go old new true k = inr (old k)
    go old new false (inl e) = inl e
    go old new false (inr k) = inr (new k)

from_concat : (f : ℕ → List ℕ) (xs : List ℕ) (j : ℕ) → IsIn (concat (map f xs)) j → (k : ℕ) × IsIn xs k × IsIn (f k) j
from_concat f [] j h = absurd h
from_concat f (x ∷ xs) j h = elim (in_cases (f x) (concat (map f xs)) j h) [
  | inl a ↦ (x, inl refl, a)
  | inr b ↦ (let r = from_concat f xs j b in (r.0, inr r.1, r.2))
]

-- a plain node, which is the node itself or one that edges lead to
ranked_in : (flag : ℕ → Bool) (next : ℕ → List ℕ) (deep i j : ℕ) → IsIn (value_in (ranked flag) next deep i) j → (flag j ≡ false) × ((i ≡ j) ⊎ ((k : ℕ) × IsIn (next k) j))
ranked_in flag next zero i j h = go (flag i) refl h
  where
    go : (b : Bool) → flag i ≡ b → IsIn (cond b (once (concat [])) (i ∷ [])) j → (flag j ≡ false) × ((i ≡ j) ⊎ ((k : ℕ) × IsIn (next k) j))
    go true e k = absurd k
    go false e (inl is) = (subst (λ (w : ℕ). flag w ≡ false) is e, inl is)
    go false e (inr k) = absurd k
ranked_in flag next (suc deep) i j h = go (flag i) refl (λ k m. ranked_in flag next deep k j m) h
  where
    go : (b : Bool) → flag i ≡ b → ((k : ℕ) → IsIn (value_in (ranked flag) next deep k) j → (flag j ≡ false) × ((k ≡ j) ⊎ ((m : ℕ) × IsIn (next m) j)))
        → IsIn (cond b (once (concat (map (λ k. value_in (ranked flag) next deep k) (next i)))) (i ∷ [])) j → (flag j ≡ false) × ((i ≡ j) ⊎ ((k : ℕ) × IsIn (next k) j))
    go true e ih k =
        let r = from_concat (λ m. value_in (ranked flag) next deep m) (next i) j (from_once [] (concat (map (λ m. value_in (ranked flag) next deep m) (next i))) j k) in
        let p = ih r.0 r.2 in
        (p.0, inr (elim p.1 [ inl is ↦ (i, subst (λ (w : ℕ). IsIn (next i) w) is r.1) | inr m ↦ m ]))
    go false e ih (inl is) = (subst (λ (w : ℕ). flag w ≡ false) is e, inl is)
    go false e ih (inr k) = absurd k

pub ranks_plain : (gs : Groups) (g j : ℕ) → g < length gs → IsIn (ranks gs g) j → (j < length gs) × (is_sequence gs j ≡ false)
ranks_plain gs g j less h =
    let p = ranked_in (is_sequence gs) (member_next gs) (length gs) g j h in (
      elim p.1 [
        | inl is ↦ subst (λ (w : ℕ). w < length gs) is less
        | inr m ↦ numbers_below gs (members_of (form_at gs m.0)) j m.1
      ],
      p.0,
    )

-- a group of a list is among its numbers
index_in : (groups : List GroupId) (k : ℕ) (d : GroupId) → k < length groups → IsIn (indices groups) (get_or groups k d).index
index_in [] k d less = absurd (omega arith)
index_in (g ∷ groups) zero d less = inl refl
index_in (g ∷ groups) (suc k) d less = inr (index_in groups k d (omega arith))

pub each_plain : (gs : Groups) (g : ℕ) (groups : List GroupId) → g < length gs → indices groups ≡ ranks gs g → (k : ℕ) (d : GroupId) → k < length groups
    → ((get_or groups k d).index < length gs) × (is_sequence gs (get_or groups k d).index ≡ false)
each_plain gs g groups less is k d small =
    ranks_plain gs g (get_or groups k d).index less (subst (λ (l : List ℕ). IsIn l (get_or groups k d).index) is (index_in groups k d small))
