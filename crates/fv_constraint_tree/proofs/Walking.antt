-- A walk over trees by the numbers of their nodes, past all that stands below a node that reports as one.
use Rattle.std.proofs.Common.{◌≡◌, ℕ, suc, ◌+◌, ◌≤◌, ◌∙◌, List, [], ◌∷◌, ◌++◌, Bool, true, false, ◌||◌, ◌&&◌, cond, length, map, take, drop, refl, sym, ap, append_assoc, length-append, append-nil, arith}
use Rattle.std.specs.List.{list_any}
use Rattle.std.proofs.lemmas.List.{map-append, drop_all, drop-drop, length-drop}
use Rattle.std.proofs.Math.Bool.{or-false}
use Rattle.std.proofs.lemmas.List.Folds.{list_any-append}
use Rattle.fv_constraint_tree.specs.Codes.{length-preorder, length-preorders, take-preorders, drop-preorders}
use Rattle.fv_constraint_tree.specs.Preorder.{preorder, preorders}
use Rattle.fv_constraint_tree.specs.Reports.{is_bad, any_bad, reported, reported_all, reported_if}
use Rattle.fv_constraint_tree.specs.Trees.{Tree, tree, Trees, none, more, size, sizes}

-- trees, and behind them others
abbrev pub join : {N : Type 0} → Trees N → Trees N → Trees N
join none us = us
join (more t ts) us = more t (join ts us)

pub preorders_join : {N : Type 0} (ts us : Trees N) → preorders (join ts us) ≡ preorders ts ++ preorders us
preorders_join none us = refl
preorders_join (more t ts) us = ap (λ es. preorder t ++ es) (preorders_join ts us) ∙ sym (append_assoc (preorder t) (preorders ts) (preorders us))

pub reported_join : {N : Type 0} (single refuses : N → Bool) (k : ℕ) (ts us : Trees N)
    → reported_all single refuses k (join ts us) ≡ reported_all single refuses k ts ++ reported_all single refuses (k + sizes ts) us
reported_join single refuses k none us = ap (λ (n : ℕ). reported_all single refuses n us) (omega arith)
reported_join single refuses k (more t ts) us =
    let further : (k + size t) + sizes ts ≡ k + (size t + sizes ts) = omega arith in
    let others = reported_join single refuses (k + size t) ts us ∙ ap (λ (n : ℕ). reported_all single refuses (k + size t) ts ++ reported_all single refuses n us) further in
    ap (λ rs. reported single refuses k t ++ rs) others
    ∙ sym (append_assoc (reported single refuses k t) (reported_all single refuses (k + size t) ts) (reported_all single refuses (k + (size t + sizes ts)) us))

mutual
  -- a tree is bad where one of its nodes refuses
  pub bad_is : {N : Type 0} (refuses : N → Bool) (t : Tree N) → list_any refuses (map (λ e. e.0) (preorder t)) ≡ is_bad refuses t
  bad_is refuses (tree n below) = ap (λ b. refuses n || b) (any_bad_is refuses below)

  pub any_bad_is : {N : Type 0} (refuses : N → Bool) (ts : Trees N) → list_any refuses (map (λ e. e.0) (preorders ts)) ≡ any_bad refuses ts
  any_bad_is refuses none = refl
  any_bad_is refuses (more t ts) = rw (map-append, list_any-append, bad_is refuses t, any_bad_is refuses ts) refl

-- the first of the trees that are left, where their first entry is known: what stands below it, and behind it
pub record Turn {N : Type 0} (left : Trees N) (n : N) (b : ℕ) (rest : List (N × ℕ)) : Type 0 where
  pub kids : Trees N
  pub behind : Trees N
  pub left_is : left ≡ more (tree n kids) behind
  pub below_is : b ≡ sizes kids
  pub rest_is : rest ≡ preorders kids ++ preorders behind

pub turn : {N : Type 0} (left : Trees N) (n : N) (b : ℕ) (rest : List (N × ℕ)) → preorders left ≡ (n, b) ∷ rest → Turn left n b rest
turn none n b rest is = absurd (cc)
turn {N} (more (tree m kids) us) n b rest is =
    let first : ◌≡◌ {A = N × ℕ} (m, sizes kids) (n, b) = cc in
    record {
      kids = kids;
      behind = us;
      left_is = ap (λ (e : N × ℕ). more (tree e.0 kids) us) first;
      below_is = sym (ap (λ (e : N × ℕ). e.1) first);
      rest_is = cc;
    }

-- the numbers of nodes that are reported
abbrev pub numbers : {N : Type 0} → List (ℕ × N) → List ℕ
numbers rs = map (λ r. r.0) rs

-- where a walk stands at a number: the trees that are left, behind the numbers that are found
pub record Walk {N : Type 0} (single refuses : N → Bool) (whole : Tree N) (number : ℕ) (out : List ℕ) : Type 0 where
  pub left : Trees N
  pub left_is : preorders left ≡ drop number (preorder whole)
  pub done : out ++ numbers (reported_all single refuses number left) ≡ numbers (reported single refuses 0 whole)

pub start : {N : Type 0} (single refuses : N → Bool) (whole : Tree N) → Walk single refuses whole 0 []
start single refuses whole = record {
  left = more whole none;
  left_is = append-nil (preorder whole);
  done = ap numbers (append-nil (reported single refuses 0 whole));
}

nothing : {N : Type 0} (single refuses : N → Bool) (k : ℕ) (ts : Trees N) → preorders ts ≡ [] → reported_all single refuses k ts ≡ []
nothing single refuses k none is = refl
nothing single refuses k (more (tree n kids) us) is = absurd (cc)

pub ended : {N : Type 0} (single refuses : N → Bool) (whole : Tree N) (number : ℕ) (out : List ℕ) → Walk single refuses whole number out → size whole ≤ number
    → out ≡ numbers (reported single refuses 0 whole)
ended single refuses whole number out w past =
    let none_left : preorders w.left ≡ [] = w.left_is ∙ drop_all number (preorder whole) (omega (arith, length-preorder whole)) in
    sym (append-nil out) ∙ ap (λ rs. out ++ numbers rs) (sym (nothing single refuses number w.left none_left)) ∙ w.done

-- what stands below the node of a number stands in the tree
pub room : {N : Type 0} (single refuses : N → Bool) (whole : Tree N) (number : ℕ) (out : List ℕ) (n : N) (b : ℕ) (rest : List (N × ℕ)) → Walk single refuses whole number out
    → drop number (preorder whole) ≡ (n, b) ∷ rest → (b ≤ length rest) × (number + (b + 1) ≤ size whole)
room single refuses whole number out n b rest w is =
    let t = turn w.left n b rest (w.left_is ∙ is) in
    let long = ap length t.rest_is in
    let all = ap length is in
    let within : b ≤ length rest = omega (arith, t.below_is, long, length-append (preorders t.kids) (preorders t.behind), length-preorders t.kids) in
    (within, omega (arith, within, all, length-drop number (preorder whole), length-preorder whole))

-- the trees that are left behind a node, and what is reported of the node before what they report
pub record Passed {N : Type 0} (single refuses : N → Bool) (left : Trees N) (number next : ℕ) (stands : Bool) (rest : List (N × ℕ)) : Type 0 where
  pub then : Trees N
  pub then_is : preorders then ≡ rest
  pub reports : numbers (reported_all single refuses number left) ≡ cond stands (number ∷ []) [] ++ numbers (reported_all single refuses next then)

numbers_if : {N : Type 0} (stands : Bool) (k : ℕ) (n : N) → numbers (reported_if stands k n) ≡ cond stands (k ∷ []) []
numbers_if true k n = refl
numbers_if false k n = refl

-- past a node that reports as one
past_single : {N : Type 0} (single refuses : N → Bool) (n : N) (kids behind : Trees N) (number next : ℕ) → single n ≡ true → next ≡ number + (1 + sizes kids)
    → Passed single refuses (more (tree n kids) behind) number next (refuses n || any_bad refuses kids) (preorders behind)
past_single single refuses n kids behind number next one far = record {
  then = behind;
  then_is = refl;
  reports = rw (one, far, map-append, numbers_if) refl;
}

-- past another node
past_other : {N : Type 0} (single refuses : N → Bool) (n : N) (kids behind : Trees N) (number next : ℕ) → single n ≡ false → next ≡ number + 1
    → Passed single refuses (more (tree n kids) behind) number next (refuses n) (preorders kids ++ preorders behind)
past_other single refuses n kids behind number next other far =
    let further : number + (1 + sizes kids) ≡ (number + 1) + sizes kids = omega arith in
    record {
      then = join kids behind;
      then_is = preorders_join kids behind;
      reports = rw (other, far, further, reported_join) (simp (map-append, numbers_if, append_assoc));
    }

-- past a node, whether it reports as one or not
passed : {N : Type 0} (single refuses : N → Bool) (left : Trees N) (n : N) (b : ℕ) (rest : List (N × ℕ)) (number next : ℕ) (stands s : Bool)
    → Turn left n b rest → single n ≡ s → stands ≡ (refuses n || (s && list_any refuses (map (λ e. e.0) (take b rest)))) → next ≡ number + cond s (b + 1) 1
    → Passed single refuses left number next stands (drop (cond s b 0) rest)
passed {N} single refuses left n b rest number next stands true t one is far =
    let front : take b rest ≡ preorders t.kids = rw (t.rest_is, t.below_is) (take-preorders t.kids (preorders t.behind)) in
    let back : drop b rest ≡ preorders t.behind = rw (t.rest_is, t.below_is) (drop-preorders t.kids (preorders t.behind)) in
    let bad : stands ≡ (refuses n || any_bad refuses t.kids) =
    is ∙ ap (λ x. refuses n || x) (ap (λ (es : List (N × ℕ)). list_any refuses (map (λ e. e.0) es)) front ∙ any_bad_is refuses t.kids) in
    rw (t.left_is, bad, back) (past_single single refuses n t.kids t.behind number next one (omega (arith, far, t.below_is)))
passed single refuses left n b rest number next stands false t other is far =
    let own : stands ≡ refuses n = is ∙ or-false (refuses n) in
    rw (t.left_is, own, t.rest_is) (past_other single refuses n t.kids t.behind number next other far)

-- one node further
pub step : {N : Type 0} (single refuses : N → Bool) (whole : Tree N) (number next : ℕ) (out new : List ℕ) (n : N) (b : ℕ) (rest : List (N × ℕ)) (stands : Bool)
    → Walk single refuses whole number out → drop number (preorder whole) ≡ (n, b) ∷ rest
    → stands ≡ (refuses n || (single n && list_any refuses (map (λ e. e.0) (take b rest))))
    → new ≡ out ++ cond stands (number ∷ []) [] → next ≡ number + cond (single n) (b + 1) 1 → Walk single refuses whole next new
step {N} single refuses whole number next out new n b rest stands w is stands_is new_is next_is =
    let p = passed single refuses w.left n b rest number next stands (single n) (turn w.left n b rest (w.left_is ∙ is)) refl stands_is next_is in
    record {
      left = p.then;
      left_is = p.then_is ∙ sym (after (single n) next_is);
      done =
          rw new_is (append_assoc out (cond stands (number ∷ []) []) (numbers (reported_all single refuses next p.then)))
          ∙ ap (λ (rs : List ℕ). out ++ rs) (sym p.reports) ∙ w.done;
    }
  where
    after : (s : Bool) → next ≡ number + cond s (b + 1) 1 → drop next (preorder whole) ≡ drop (cond s b 0) rest
    after true far = ap (λ (k : ℕ). drop k (preorder whole)) (far ∙ omega arith) ∙ sym (drop-drop (suc b) number (preorder whole)) ∙ ap (drop (suc b)) is
    after false far = ap (λ (k : ℕ). drop k (preorder whole)) far ∙ sym (drop-drop 1 number (preorder whole)) ∙ ap (drop 1) is
