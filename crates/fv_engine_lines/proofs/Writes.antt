-- One write after another.
use Rattle.std.proofs.Common.{◌≡◌, ℕ, zero, suc, ◌+◌, ◌<◌, ◌≤◌, List, [], ◌++◌, length, take, drop, Option, Some, None, refl, subst, sym, ap, ◌∙◌, append_assoc, arith, inl, inr, ◌-◌, min, length-drop}
use Rattle.std.proofs.Math.Seq.{take-append-add}
use Rattle.std.proofs.lemmas.List.{append-nil, take-append-drop, length-take-le, take_all}
use Rattle.std.proofs.lemmas.Bool.{cases_lt}
use Rattle.std.specs.Io.KnownBytes.{Appends, Keeps}
use Rattle.fv_engine_lines.specs.Writes.{AppendsFront}

pub appends_then : (a b c : Option (List ℕ)) (xs ys : List ℕ) → Appends a b xs → Appends b c ys → Appends a c (xs ++ ys)
appends_then None b c xs ys p q = tt
appends_then (Some x) None c xs ys p q = absurd p
appends_then (Some x) (Some y) None xs ys p q = absurd q
appends_then (Some x) (Some y) (Some z) xs ys p q = q ∙ ap (λ (l : List ℕ). l ++ ys) p ∙ append_assoc x xs ys

pub appends_none : (a : Option (List ℕ)) → Appends a a []
appends_none None = tt
appends_none (Some x) = sym (append-nil x)

pub appends_kept : (a b c : Option (List ℕ)) (xs : List ℕ) → Appends a b xs → Keeps b c → Appends a c xs
appends_kept None b c xs p q = tt
appends_kept (Some x) None c xs p q = absurd p
appends_kept (Some x) (Some y) None xs p q = absurd q
appends_kept (Some x) (Some y) (Some z) xs p q = q ∙ p

-- some more of a slice
pub take_on : (at n : ℕ) (bs : List ℕ) → at ≤ length bs → take at bs ++ take n (drop at bs) ≡ take (at + n) bs
take_on at n bs le =
    let e : take (length (take at bs) + n) (take at bs ++ drop at bs) ≡ take at bs ++ take n (drop at bs) = take-append-add (take at bs) (drop at bs) n in
    sym (rw (length-take-le at bs le, take-append-drop at bs) at e)

-- the slice from a place on, as `&bs[at..]` has it
pub from_on : (at : ℕ) (bs : List ℕ) → take (length bs - at) (drop at bs) ≡ drop at bs
from_on at bs = take_all (length bs - at) (drop at bs) (omega (arith, length-drop at bs))

pub wrote_on : (a b c : Option (List ℕ)) (at n : ℕ) (bs : List ℕ) → at ≤ length bs → Appends a b (take at bs) → Appends b c (take n (take (length bs - at) (drop at bs))) → Appends a c (take (at + n) bs)
wrote_on a b c at n bs le p q = rw (← take_on at n bs le) (appends_then a b c _ _ p (rw from_on at q))

-- a write that took nothing
appends_nil : (a b : Option (List ℕ)) → Appends a b [] → Keeps a b
appends_nil None b p = tt
appends_nil (Some x) None p = absurd p
appends_nil (Some x) (Some y) p = p ∙ append-nil x

pub took_none : (a b : Option (List ℕ)) (n : ℕ) (bs : List ℕ) → n ≡ 0 → Appends a b (take n bs) → Keeps a b
took_none a b n bs none p = appends_nil a b (subst (λ (k : ℕ). Appends a b (take k bs)) none p)

pub wrote_some : (a c : Option (List ℕ)) (n : ℕ) (bs : List ℕ) → Appends a c (take n bs) → AppendsFront a c bs
wrote_some a c n bs p = (take n bs, drop n bs, sym (take-append-drop n bs), p)

pub front_whole : (a c : Option (List ℕ)) (bs : List ℕ) → Appends a c bs → AppendsFront a c bs
front_whole a c bs p = (bs, [], sym (append-nil bs), p)

-- what fits below a limit is what a longer list keeps
pub kept_fitting : (limit n : ℕ) (xs ys : List ℕ) → length xs ≤ limit → n ≡ min (length ys) (limit - length xs) → xs ++ take n ys ≡ take limit (xs ++ ys)
kept_fitting limit n xs ys le is =
    let free : ℕ = limit - length xs in
    let all : length xs + free ≡ limit = omega arith in
    let same : take n ys ≡ take free ys =
    elim (cases_lt free (length ys)) [
      | inl lt ↦ ap (λ (k : ℕ). take k ys) (omega arith)
      | inr fits ↦ take_all n ys (omega arith) ∙ sym (take_all free ys fits)
    ] in
    ap (λ (l : List ℕ). xs ++ l) same ∙ sym (take-append-add xs ys free) ∙ ap (λ (k : ℕ). take k (xs ++ ys)) all

-- what isn't nothing is something
pub some_taken : (n : ℕ) → (n ≡ 0 → ⊥) → 0 < n
some_taken zero some = absurd (some refl)
some_taken (suc n) some = omega arith
