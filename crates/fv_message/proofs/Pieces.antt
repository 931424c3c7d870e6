-- How the pieces of templates are read.
use Rattle.std.proofs.Common.{◌≡◌, ◌<◌, ℕ, suc, ◌&&◌, ◌||◌, List, [], ◌∷◌, ◌++◌, map, length, get_or, Bool, true, false, not, Option, Some, None, option_map, eqb, refl, sym, ap, ◌∙◌, arith, append_assoc}
use Rattle.std.specs.List.{list_all}
use Rattle.std.proofs.lemmas.Bool.{or_parts, and_parts, not-true, eqb-true, ne_eqb}
use Rattle.std.proofs.lemmas.List.{append-nil}
use Rattle.fv_message.specs.Template.{Piece, plain, parameter, is_brace, is_special, in_name, is_parameter_name, begins, stands_plain, escaped}
use Rattle.fv_message.specs.Reading.{naming, put, read_from, pieces_of}

-- ---- plain bytes

-- a special byte behind a backslash
pub escape_read : (b : ℕ) (bs : List ℕ) → is_special b ≡ true → pieces_of (92 ∷ b ∷ bs) ≡ put (plain b) (pieces_of bs)
escape_read b bs e = rw (e, read_from) refl

-- a byte that is neither a backslash nor a brace, nor a dollar sign in front of an opening brace
step_read : (b : ℕ) (bs : List ℕ) → eqb b 92 ≡ false → eqb b 123 ≡ false → (eqb b 125 || (eqb b 36 && begins (λ c. eqb c 123) bs)) ≡ false
    → pieces_of (b ∷ bs) ≡ put (plain b) (pieces_of bs)
step_read b bs d e f = rw (d, e, f, read_from) refl

-- a byte that isn't special
pub ordinary_read : (b : ℕ) (bs : List ℕ) → is_special b ≡ false → pieces_of (b ∷ bs) ≡ put (plain b) (pieces_of bs)
ordinary_read b bs e =
    let dollar = or_parts (is_brace b || eqb b 92) (eqb b 36) e in
    let slash = or_parts (is_brace b) (eqb b 92) dollar.0 in
    let brace = or_parts (eqb b 123) (eqb b 125) slash.0 in
    let last : (eqb b 125 || (eqb b 36 && begins (λ c. eqb c 123) bs)) ≡ false = rw (brace.1, dollar.1) refl in
    step_read b bs slash.1 brace.0 last

-- a backslash in front of no special byte
lone_read : (bs : List ℕ) → begins is_special bs ≡ false → pieces_of (92 ∷ bs) ≡ put (plain 92) (pieces_of bs)
lone_read [] e = refl
lone_read (c ∷ cs) e =
    let e' : is_special c ≡ false = e in
    rw (e', read_from) (ap (put (plain 92)) (sym (ordinary_read c cs e')))

-- a byte that is plain as it stands
pub plain_read : (b : ℕ) (bs : List ℕ) → stands_plain b bs ≡ true → pieces_of (b ∷ bs) ≡ put (plain b) (pieces_of bs)
plain_read b bs e = go (eqb b 92) refl
  where
    parts : ((not (is_brace b) && not (eqb b 92 && begins is_special bs)) ≡ true) × (not (eqb b 36 && begins (λ c. eqb c 123) bs) ≡ true)
    parts = and_parts (not (is_brace b) && not (eqb b 92 && begins is_special bs)) (not (eqb b 36 && begins (λ c. eqb c 123) bs)) e

    more : (not (is_brace b) ≡ true) × (not (eqb b 92 && begins is_special bs) ≡ true)
    more = and_parts (not (is_brace b)) (not (eqb b 92 && begins is_special bs)) parts.0

    brace : (eqb b 123 ≡ false) × (eqb b 125 ≡ false)
    brace = or_parts (eqb b 123) (eqb b 125) (not-true (is_brace b) more.0)

    go : (v : Bool) → eqb b 92 ≡ v → pieces_of (b ∷ bs) ≡ put (plain b) (pieces_of bs)
    go true v =
        let none : begins is_special bs ≡ false = rw v at (not-true (eqb b 92 && begins is_special bs) more.1) in
        rw (eqb-true b 92 v) (lone_read bs none)
    go false v =
        let dollar = not-true (eqb b 36 && begins (λ c. eqb c 123) bs) parts.1 in
        let last : (eqb b 125 || (eqb b 36 && begins (λ c. eqb c 123) bs)) ≡ false = rw (brace.1, dollar) refl in
        step_read b bs v brace.0 last

-- ---- runs of plain bytes

put_more : (p : Piece) (ps : List Piece) (o : Option (List Piece)) → put p (option_map (λ more. ps ++ more) o) ≡ option_map (λ more. (p ∷ ps) ++ more) o
put_more p ps None = refl
put_more p ps (Some qs) = refl

put_none : (o : Option (List Piece)) → o ≡ option_map (λ more. [] ++ more) o
put_none None = refl
put_none (Some qs) = refl

-- bytes that aren't special
pub run_read : (run bs : List ℕ) → list_all (λ b. not (is_special b)) run ≡ true → pieces_of (run ++ bs) ≡ option_map (λ more. map plain run ++ more) (pieces_of bs)
run_read [] bs e = put_none (pieces_of bs)
run_read (b ∷ run) bs e =
    let parts = and_parts (not (is_special b)) (list_all (λ b. not (is_special b)) run) e in
    ordinary_read b (run ++ bs) (not-true (is_special b) parts.0) ∙ ap (put (plain b)) (run_read run bs parts.1) ∙ put_more (plain b) (map plain run) (pieces_of bs)

-- a byte that is plain as it stands, and bytes that aren't special
pub plain_run_read : (b : ℕ) (run bs : List ℕ) → stands_plain b (run ++ bs) ≡ true → list_all (λ b. not (is_special b)) run ≡ true
    → pieces_of (b ∷ (run ++ bs)) ≡ option_map (λ more. map plain (b ∷ run) ++ more) (pieces_of bs)
plain_run_read b run bs s e = plain_read b (run ++ bs) s ∙ ap (put (plain b)) (run_read run bs e) ∙ put_more (plain b) (map plain run) (pieces_of bs)

-- an escaped text
pub escaped_read : (text bs : List ℕ) → pieces_of (escaped text ++ bs) ≡ option_map (λ more. map plain text ++ more) (pieces_of bs)
escaped_read [] bs = put_none (pieces_of bs)
escaped_read (b ∷ text) bs = go (is_special b) refl (ap (put (plain b)) (escaped_read text bs) ∙ put_more (plain b) (map plain text) (pieces_of bs))
  where
    go : (v : Bool) → is_special b ≡ v → put (plain b) (pieces_of (escaped text ++ bs)) ≡ option_map (λ more. map plain (b ∷ text) ++ more) (pieces_of bs)
        → pieces_of (escaped (b ∷ text) ++ bs) ≡ option_map (λ more. map plain (b ∷ text) ++ more) (pieces_of bs)
    go true v rest = rw v (escape_read b (escaped text ++ bs) v ∙ rest)
    go false v rest = rw v (ordinary_read b (escaped text ++ bs) v ∙ rest)

-- an escaped text by itself
pub escaped_whole : (text : List ℕ) → pieces_of (escaped text) ≡ Some (map plain text)
escaped_whole text = ap pieces_of (sym (append-nil (escaped text))) ∙ escaped_read text [] ∙ ap (λ (l : List Piece). Some l) (append-nil (map plain text))

-- ---- parameters

-- a byte that may stand in a name is no closing brace
no_closing : (b : ℕ) → in_name b ≡ true → eqb b 125 ≡ false
no_closing b e =
    (or_parts (eqb b 123) (eqb b 125) (or_parts (is_brace b) (eqb b 92) (not-true (is_brace b || eqb b 92) e)).0).1

-- one more byte of a name
goes_on : (b : ℕ) (acc bs : List ℕ) → eqb b 125 ≡ false → in_name b ≡ true → read_from (naming acc) (b ∷ bs) ≡ read_from (naming (acc ++ b ∷ [])) bs
goes_on b acc bs e i = rw (e, i, read_from) refl

-- a byte that may not
stops : (b : ℕ) (acc bs : List ℕ) → eqb b 125 ≡ false → in_name b ≡ false → read_from (naming acc) (b ∷ bs) ≡ None
stops b acc bs e i = rw (e, i, read_from) refl

-- a name and its closing brace
named_read : (name acc bs : List ℕ) → list_all in_name name ≡ true → is_parameter_name (acc ++ name) ≡ true
    → read_from (naming acc) (name ++ 125 ∷ bs) ≡ put (parameter (acc ++ name)) (pieces_of bs)
named_read [] acc bs e n =
    let n' : is_parameter_name acc ≡ true = rw append-nil at n in
    rw (append-nil acc, n', read_from) refl
named_read (b ∷ name) acc bs e n =
    let parts = and_parts (in_name b) (list_all in_name name) e in
    let same : (acc ++ b ∷ []) ++ name ≡ acc ++ (b ∷ name) = append_assoc acc (b ∷ []) name in
    goes_on b acc (name ++ 125 ∷ bs) (no_closing b parts.0) parts.0
    ∙ named_read name (acc ++ b ∷ []) bs parts.1 (ap is_parameter_name same ∙ n)
    ∙ ap (λ x. put (parameter x) (pieces_of bs)) same

-- a parameter
pub parameter_read : (name bs : List ℕ) → is_parameter_name name ≡ true → pieces_of (123 ∷ (name ++ 125 ∷ bs)) ≡ put (parameter name) (pieces_of bs)
parameter_read name bs n = named_read name [] bs (and_parts (not (eqb (length name) 0)) (list_all in_name name) n).1 n

-- a name without a closing brace
pub open_read : (bs acc : List ℕ) → ((i : ℕ) → i < length bs → get_or bs i 0 ≡ 125 → ⊥) → read_from (naming acc) bs ≡ None
open_read [] acc none = refl
open_read (b ∷ bs) acc none = go (in_name b) refl (open_read bs (acc ++ b ∷ []) (λ i l. none (suc i) (omega arith)))
  where
    other : eqb b 125 ≡ false
    other = ne_eqb b 125 (none 0 (omega arith))

    go : (v : Bool) → in_name b ≡ v → read_from (naming (acc ++ b ∷ [])) bs ≡ None → read_from (naming acc) (b ∷ bs) ≡ None
    go true v rest = goes_on b acc bs other v ∙ rest
    go false v rest = stops b acc bs other v

-- what stands before the closing brace is no name
pub misnamed_read : (name acc bs : List ℕ) → ((i : ℕ) → i < length name → get_or name i 0 ≡ 125 → ⊥) → is_parameter_name (acc ++ name) ≡ false
    → read_from (naming acc) (name ++ 125 ∷ bs) ≡ None
misnamed_read [] acc bs none n =
    let n' : is_parameter_name acc ≡ false = rw append-nil at n in
    rw (n', read_from) refl
misnamed_read (b ∷ name) acc bs none n =
    go (in_name b) refl (misnamed_read name (acc ++ b ∷ []) bs (λ i l. none (suc i) (omega arith)) (ap is_parameter_name (append_assoc acc (b ∷ []) name) ∙ n))
  where
    other : eqb b 125 ≡ false
    other = ne_eqb b 125 (none 0 (omega arith))

    go : (v : Bool) → in_name b ≡ v → read_from (naming (acc ++ b ∷ [])) (name ++ 125 ∷ bs) ≡ None → read_from (naming acc) (b ∷ (name ++ 125 ∷ bs)) ≡ None
    go true v rest = goes_on b acc (name ++ 125 ∷ bs) other v ∙ rest
    go false v rest = stops b acc (name ++ 125 ∷ bs) other v
