-- Lines that are added behind others.
use Rattle.std.proofs.Common.{◌≡◌, ◌+◌, ◌++◌, ◌∷◌, ◌∙◌, ℕ, List, [], length, ap, sym, subst, append_assoc, append-nil, arith}
use Rattle.std.specs.List.{AllZip}
use Rattle.fv_explain.specs.Adding.{Adds, texts}
use Rattle.fv_explain.specs.Explained.{AreLinesFrom}
use Rattle.fv_explain.specs.declared.lines.Lines.{Lines}

-- some and then others
pub adds_then : (a b c : Lines) (xs ys : List (List ℕ)) → Adds a xs b → Adds b ys c → Adds a (xs ++ ys) c
adds_then a b c xs ys first then =
    (then.0 ∙ ap (λ (ls : List (List ℕ)). ls ++ ys) first.0 ∙ append_assoc (texts a) xs ys, then.1 ∙ first.1)

-- a line for the next number
pub lines_push : (P : ℕ → List ℕ → Type 0) (n m : ℕ) (lines : List (List ℕ)) (line : List ℕ) → AreLinesFrom n P lines
    → m ≡ n + length lines → P m line → AreLinesFrom n P (lines ++ line ∷ [])
lines_push P n m [] line are is here =
    let e : m ≡ n = omega arith in
    (subst (λ (k : ℕ). P k line) e here, tt)
lines_push P n m (l ∷ ls) line are is here =
    let e : m ≡ n + 1 + length ls = omega arith in
    (are.0, lines_push P (n + 1) m ls line are.1 e here)

-- what is told of those that are left completes what is told of all
abbrev pub Completes : {X Y : Type 0} → (X → Y → Type 0) → List X → List X → List Y → Type 0
Completes {X} {Y} R all left done = (rest : List Y) → AllZip R left rest → AllZip R all (done ++ rest)

-- one of those that are left is told
pub completes_more : {X Y : Type 0} (R : X → Y → Type 0) (all left more : List X) (x : X) (done : List Y) (y : Y) → left ≡ x ∷ more → R x y
    → Completes R all left done → Completes R all more (done ++ y ∷ [])
completes_more {X} {Y} R all left more x done y is here so = λ rest are.
    subst (AllZip R all) (sym (append_assoc done (y ∷ []) rest))
    (so (y ∷ rest) (subst (λ (l : List X). AllZip R l (y ∷ rest)) (sym is) (here, are)))

-- none is left
pub completes_all : {X Y : Type 0} (R : X → Y → Type 0) (all left : List X) (done : List Y) → left ≡ [] → Completes R all left done → AllZip R all done
completes_all {X} R all left done is so =
    subst (AllZip R all) (append-nil done) (so [] (subst (λ (l : List X). AllZip R l []) (sym is) tt))
