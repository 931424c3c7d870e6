-- One write after another.
use Rattle.std.proofs.Common.{ℕ, zero, suc, ◌++◌, List, Option, sym, ap, subst, ◌∙◌, append_assoc}
use Rattle.std.proofs.KnownBytes.{Appends-trans}
use Rattle.std.specs.Io.KnownBytes.{Appends}
use Rattle.fv_engine_lines.specs.Reads.{Times}
use Rattle.fv_engine_lines.specs.Writes.{Breaks}

-- some calls, and then some more
times_then : {O : Type 0} (calls : O → O → Type 0) (n m : ℕ) (a b c : O) → Times calls n a b → Times calls m b c → (k : ℕ) × Times calls k a c
times_then calls n zero a b c first more = (n, subst (Times calls n a) (sym more) first)
times_then calls n (suc m) a b c first more = let it = times_then calls n m a b more.0 first more.1 in (suc it.0, (more.0, it.1, more.2))

module _ {O : Type 0} (contents : O → Option (List ℕ)) (takes fails : O → O → Type 0) (a b : O) (xs ys : List ℕ) where
  -- all of these, and then a front of those
  pub breaks_then : (c : O) → Appends (contents a) (contents b) xs → ((n : ℕ) × Times takes n a b) → Breaks contents takes fails b c ys → Breaks contents takes fails a c (xs ++ ys)
  breaks_then c first took more =
      let front = more.1 in (
        more.0,
        (
          xs ++ front.0,
          front.1,
          ap (λ (l : List ℕ). xs ++ l) front.2 ∙ sym (append_assoc xs front.0 front.1),
          Appends-trans (contents a) (contents b) (contents more.0) xs front.0 first front.3,
        ),
        times_then takes took.0 more.2.0 a b more.0 took.1 more.2.1,
        more.3,
        more.4,
      )

  -- a front of these, where those were to follow
  pub breaks_before : Breaks contents takes fails a b xs → Breaks contents takes fails a b (xs ++ ys)
  breaks_before first =
      let front = first.1 in
      (first.0, (front.0, front.1 ++ ys, ap (λ (l : List ℕ). l ++ ys) front.2 ∙ append_assoc front.0 front.1 ys, front.3), first.2, first.3, first.4)
