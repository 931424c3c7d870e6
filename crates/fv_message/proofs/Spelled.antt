-- What is read of a text is what the text spells.
use Rattle.std.proofs.Common.{◌≡◌, ◌↔◌, ℕ, ◌&&◌, ◌||◌, List, [], ◌∷◌, ◌++◌, Bool, true, false, Option, Some, None, eqb, inl, inr, refl, sym, ap, subst, ◌∙◌, append_assoc}
use Rattle.std.proofs.lemmas.Bool.{or_parts, and_parts, eqb-true}
use Rattle.fv_message.specs.Template.{Piece, plain, parameter, is_brace, is_special, in_name, is_parameter_name, begins, stands_plain, SpellsPieces}
use Rattle.fv_message.specs.Reading.{Standing, outside, escaping, naming, put, read_from, pieces_of}
use Rattle.fv_message.proofs.Pieces.{escape_read, plain_read, parameter_read}

-- ---- from what is spelled to what is read

pub read_spelled : (ps : List Piece) (text : List ℕ) → SpellsPieces ps text → pieces_of text ≡ Some ps
read_spelled [] text s = ap pieces_of s
read_spelled (plain b ∷ ps) text (rest, inl (e, stands), more) = ap pieces_of e ∙ plain_read b rest stands ∙ ap (put (plain b)) (read_spelled ps rest more)
read_spelled (plain b ∷ ps) text (rest, inr (e, special), more) = ap pieces_of e ∙ escape_read b rest special ∙ ap (put (plain b)) (read_spelled ps rest more)
read_spelled (parameter name ∷ ps) text (rest, e, is_name, more) = ap pieces_of e ∙ parameter_read name rest is_name ∙ ap (put (parameter name)) (read_spelled ps rest more)

-- ---- and back

-- what stands before a place in a text
abbrev before : Standing → List ℕ
before outside = []
before escaping = 92 ∷ []
before (naming name) = 123 ∷ name

-- what was put in front
put_first : (p : Piece) (o : Option (List Piece)) (ps : List Piece) → put p o ≡ Some ps → (qs : List Piece) × (o ≡ Some qs) × (ps ≡ p ∷ qs)
put_first p None ps e = absurd (cc)
put_first p (Some qs) ps e = (qs, refl, cc)

stands : (b : ℕ) (bs : List ℕ) → eqb b 92 ≡ false → eqb b 123 ≡ false → (eqb b 125 || (eqb b 36 && begins (λ c. eqb c 123) bs)) ≡ false → stands_plain b bs ≡ true
stands b bs d e f =
    let parts = or_parts (eqb b 125) (eqb b 36 && begins (λ c. eqb c 123) bs) f in
    rw (e, parts.0, d, parts.1) refl

stands_ordinary : (b : ℕ) (bs : List ℕ) → is_special b ≡ false → stands_plain b bs ≡ true
stands_ordinary b bs e =
    let dollar = or_parts (is_brace b || eqb b 92) (eqb b 36) e in
    let slash = or_parts (is_brace b) (eqb b 92) dollar.0 in
    let brace = or_parts (eqb b 123) (eqb b 125) slash.0 in
    rw (brace.0, brace.1, slash.1, dollar.1) refl

stands_lone : (b : ℕ) (bs : List ℕ) → is_special b ≡ false → stands_plain 92 (b ∷ bs) ≡ true
stands_lone b bs e = rw e refl

-- a step of the reader, by what it tells of the byte
abbrev out_step : Bool → Bool → Bool → ℕ → List ℕ → Option (List Piece)
out_step x y z b bs =
    elim x [ true ↦ read_from escaping bs | false ↦ elim y [ true ↦ read_from (naming []) bs | false ↦ elim z [ true ↦ None | false ↦ put (plain b) (read_from outside bs) ] ] ]

abbrev escape_step : Bool → ℕ → List ℕ → Option (List Piece)
escape_step x b bs = elim x [ true ↦ put (plain b) (read_from outside bs) | false ↦ put (plain 92) (put (plain b) (read_from outside bs)) ]

abbrev name_step : Bool → Bool → List ℕ → ℕ → List ℕ → Option (List Piece)
name_step x y name b bs =
    elim x [ true ↦ put (parameter name) (read_from outside bs) | false ↦ elim y [ true ↦ read_from (naming (name ++ b ∷ [])) bs | false ↦ None ] ]

-- what is read of the rest of a text is spelled by it
abbrev Reads : List ℕ → Type 0
Reads bs = (st : Standing) (ps : List Piece) → read_from st bs ≡ Some ps → SpellsPieces ps (before st ++ bs)

out_spelled : (b : ℕ) (bs : List ℕ) (ps : List Piece) → Reads bs → (x y z : Bool) → eqb b 92 ≡ x → eqb b 123 ≡ y → (eqb b 125 || (eqb b 36 && begins (λ c. eqb c 123) bs)) ≡ z
    → out_step x y z b bs ≡ Some ps → SpellsPieces ps (b ∷ bs)
out_spelled b bs ps ih true y z d e f h = subst (λ (c : ℕ). SpellsPieces ps (c ∷ bs)) (sym (eqb-true b 92 d)) (ih escaping ps h)
out_spelled b bs ps ih false true z d e f h = subst (λ (c : ℕ). SpellsPieces ps (c ∷ bs)) (sym (eqb-true b 123 e)) (ih (naming []) ps h)
out_spelled b bs ps ih false false true d e f h = absurd (cc)
out_spelled b bs ps ih false false false d e f h =
    let first = put_first (plain b) (read_from outside bs) ps h in
    subst (λ (l : List Piece). SpellsPieces l (b ∷ bs)) (sym first.2) (bs, inl (refl, stands b bs d e f), ih outside first.0 first.1)

escape_spelled : (b : ℕ) (bs : List ℕ) (ps : List Piece) → Reads bs → (x : Bool) → is_special b ≡ x → escape_step x b bs ≡ Some ps → SpellsPieces ps (92 ∷ b ∷ bs)
escape_spelled b bs ps ih true e h =
    let first = put_first (plain b) (read_from outside bs) ps h in
    subst (λ (l : List Piece). SpellsPieces l (92 ∷ b ∷ bs)) (sym first.2) (bs, inr (refl, e), ih outside first.0 first.1)
escape_spelled b bs ps ih false e h =
    let first = put_first (plain 92) (put (plain b) (read_from outside bs)) ps h in
    let second = put_first (plain b) (read_from outside bs) first.0 first.1 in
    subst (λ (l : List Piece). SpellsPieces l (92 ∷ b ∷ bs)) (sym first.2)
    (b ∷ bs, inl (refl, stands_lone b bs e), subst (λ (l : List Piece). SpellsPieces l (b ∷ bs)) (sym second.2) (bs, inl (refl, stands_ordinary b bs e), ih outside second.0 second.1))

name_spelled : (name : List ℕ) (b : ℕ) (bs : List ℕ) (ps : List Piece) → Reads bs → (x y : Bool) → (eqb b 125 && is_parameter_name name) ≡ x → in_name b ≡ y
    → name_step x y name b bs ≡ Some ps → SpellsPieces ps (123 ∷ (name ++ b ∷ bs))
name_spelled name b bs ps ih true y e f h =
    let parts = and_parts (eqb b 125) (is_parameter_name name) e in
    let first = put_first (parameter name) (read_from outside bs) ps h in
    subst (λ (l : List Piece). SpellsPieces l (123 ∷ (name ++ b ∷ bs))) (sym first.2)
    (bs, ap (λ (c : ℕ). 123 ∷ (name ++ c ∷ bs)) (eqb-true b 125 parts.0), parts.1, ih outside first.0 first.1)
name_spelled name b bs ps ih false true e f h =
    subst (λ (l : List ℕ). SpellsPieces ps (123 ∷ l)) (append_assoc name (b ∷ []) bs) (ih (naming (name ++ b ∷ [])) ps h)
name_spelled name b bs ps ih false false e f h = absurd (cc)

reads : (bs : List ℕ) → Reads bs
reads [] outside ps h = subst (λ (l : List Piece). SpellsPieces l []) (some h) refl
  where
    some : Some [] ≡ Some ps → [] ≡ ps
    some e = cc
reads [] escaping ps h = subst (λ (l : List Piece). SpellsPieces l (92 ∷ [])) (some h) ([], inl (refl, refl), refl)
  where
    some : Some (plain 92 ∷ []) ≡ Some ps → plain 92 ∷ [] ≡ ps
    some e = cc
reads [] (naming name) ps h = absurd (cc)
reads (b ∷ bs) outside ps h =
    out_spelled b bs ps (reads bs) (eqb b 92) (eqb b 123) (eqb b 125 || (eqb b 36 && begins (λ c. eqb c 123) bs)) refl refl refl h
reads (b ∷ bs) escaping ps h = escape_spelled b bs ps (reads bs) (is_special b) refl h
reads (b ∷ bs) (naming name) ps h = name_spelled name b bs ps (reads bs) (eqb b 125 && is_parameter_name name) (in_name b) refl refl h

pub spelled_read : (text : List ℕ) (ps : List Piece) → (pieces_of text ≡ Some ps) ↔ SpellsPieces ps text
spelled_read text ps = (λ h. reads text outside ps h, λ s. read_spelled ps text s)
