-- How the logic stores a pattern: as the list of its parts, each behind those that it is made of.
use Rattle.std.proofs.Common.{◌≡◌, ℕ, zero, suc, ◌⊎◌, inl, inr, List, [], ◌∷◌, ◌++◌, Bool, refl, sym, ap, ◌∙◌, append_assoc}
use Rattle.std.proofs.lemmas.List.{append-nil}
use Rattle.std.specs.Coded.{Coded, code_by, coded_ℕ, coded_bool, coded_list, coded×, coded⊎}
use Rattle.regex.specs.Patterns.{Re, empty, literal, byte_in, char_in, look, cat, alt, group, plus}
use Rattle.regex_hir.specs.declared.look.Look.{Look}
use Rattle.regex_hir.specs.contracts.look.Look as looks

-- no part of its own (nothing, one behind another, one or another), a literal, bytes, characters, a look, a group, a repetition
abbrev pub Part : Type 0
Part = ℕ ⊎ (List ℕ ⊎ (List (ℕ × ℕ) ⊎ (List (ℕ × ℕ) ⊎ (Look ⊎ (ℕ ⊎ Bool)))))

-- the parts of a pattern, each behind those that it is made of
abbrev pub parts : Re → List Part
parts empty = inl 0 ∷ []
parts (literal bytes) = inr (inl bytes) ∷ []
parts (byte_in ranges) = inr (inr (inl ranges)) ∷ []
parts (char_in ranges) = inr (inr (inr (inl ranges))) ∷ []
parts (look l) = inr (inr (inr (inr (inl l)))) ∷ []
parts (cat a b) = parts a ++ (parts b ++ (inl 1 ∷ []))
parts (alt a b) = parts a ++ (parts b ++ (inl 2 ∷ []))
parts (group n a) = parts a ++ (inr (inr (inr (inr (inr (inl n))))) ∷ [])
parts (plus greedy a) = parts a ++ (inr (inr (inr (inr (inr (inr greedy))))) ∷ [])

-- what a part makes of the patterns before it, the last first
abbrev pub made : Part → List Re → List Re
made (inl zero) rs = empty ∷ rs
made (inl (suc zero)) (b ∷ a ∷ rs) = cat a b ∷ rs
made (inl (suc (suc n))) (b ∷ a ∷ rs) = alt a b ∷ rs
made (inr (inl bytes)) rs = literal bytes ∷ rs
made (inr (inr (inl ranges))) rs = byte_in ranges ∷ rs
made (inr (inr (inr (inl ranges)))) rs = char_in ranges ∷ rs
made (inr (inr (inr (inr (inl l))))) rs = look l ∷ rs
made (inr (inr (inr (inr (inr (inl n)))))) (a ∷ rs) = group n a ∷ rs
made (inr (inr (inr (inr (inr (inr greedy)))))) (a ∷ rs) = plus greedy a ∷ rs
made _ rs = rs

-- what parts, one after another, make of the patterns before them, the last first
abbrev pub made_all : List Part → List Re → List Re
made_all [] rs = rs
made_all (p ∷ ps) rs = made_all ps (made p rs)

-- the first of the patterns, the empty one where there is none
abbrev pub first_of : List Re → Re
first_of [] = empty
first_of (r ∷ rs) = r

-- the pattern that parts make
abbrev pub from_parts : List Part → Re
from_parts ps = first_of (made_all ps [])

-- the parts of a pattern put it before the patterns that are there
pub made-parts : (r : Re) (ps : List Part) (rs : List Re) → made_all (parts r ++ ps) rs ≡ made_all ps (r ∷ rs)
made-parts empty ps rs = refl
made-parts (literal bytes) ps rs = refl
made-parts (byte_in ranges) ps rs = refl
made-parts (char_in ranges) ps rs = refl
made-parts (look l) ps rs = refl
made-parts (cat a b) ps rs =
    ap (λ qs. made_all qs rs) (append_assoc (parts a) (parts b ++ (inl 1 ∷ [])) ps ∙ ap (λ qs. parts a ++ qs) (append_assoc (parts b) (inl 1 ∷ []) ps))
    ∙ made-parts a (parts b ++ (inl 1 ∷ ps)) rs ∙ made-parts b (inl 1 ∷ ps) (a ∷ rs)
made-parts (alt a b) ps rs =
    ap (λ qs. made_all qs rs) (append_assoc (parts a) (parts b ++ (inl 2 ∷ [])) ps ∙ ap (λ qs. parts a ++ qs) (append_assoc (parts b) (inl 2 ∷ []) ps))
    ∙ made-parts a (parts b ++ (inl 2 ∷ ps)) rs ∙ made-parts b (inl 2 ∷ ps) (a ∷ rs)
made-parts (group n a) ps rs =
    ap (λ qs. made_all qs rs) (append_assoc (parts a) (inr (inr (inr (inr (inr (inl n))))) ∷ []) ps)
    ∙ made-parts a (inr (inr (inr (inr (inr (inl n))))) ∷ ps) rs
made-parts (plus greedy a) ps rs =
    ap (λ qs. made_all qs rs) (append_assoc (parts a) (inr (inr (inr (inr (inr (inr greedy))))) ∷ []) ps)
    ∙ made-parts a (inr (inr (inr (inr (inr (inr greedy))))) ∷ ps) rs

-- the parts of a pattern make it again
pub from-parts : (r : Re) → from_parts (parts r) ≡ r
from-parts r = let whole : made_all (parts r) [] ≡ r ∷ [] = ap (λ ps. made_all ps []) (sym (append-nil (parts r))) ∙ made-parts r [] [] in ap first_of whole

-- how the logic stores a list of ranges
abbrev pub coded_ranges : Coded (List (ℕ × ℕ))
coded_ranges = coded_list (coded× coded_ℕ coded_ℕ)

-- how the logic stores a part
abbrev pub coded_part : Coded Part
coded_part =
    coded⊎ coded_ℕ (coded⊎ (coded_list coded_ℕ) (coded⊎ coded_ranges (coded⊎ coded_ranges (coded⊎ looks.the_row.coded (coded⊎ coded_ℕ coded_bool)))))

-- how the logic stores a pattern: by its parts
abbrev pub pattern_code : Coded Re
pattern_code = code_by (List Part) (coded_list coded_part) parts from_parts from-parts
