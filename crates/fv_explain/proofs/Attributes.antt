-- Attributes that are written one after another.
use Rattle.std.proofs.Common.{◌≡◌, ◌≤◌, ◌++◌, ◌∷◌, ◌∙◌, ℕ, List, String, Global, codes, length, map, take, string_bytes, ap, sym, append_assoc}
use Rattle.std.proofs.lemmas.List.{take_all}
use Rattle.std.specs.List.{flat_map}
use Rattle.fv_datum.specs.Attributes.{attribute_view, entry_view}
use Rattle.fv_datum.specs.declared.attrs.Attribute.{Attribute}
use Rattle.fv_explain_faults.specs.Quoted.{quoted}
use Rattle.fv_explain.specs.Attributes.{attributes_text, attribute_text, texts_text, value_text}

-- all texts, behind the first
pub texts_all : (texts others : List (String Global)) (first : List ℕ) (i : ℕ) → map string_bytes texts ≡ first ∷ map string_bytes others
    → length others ≤ i
    → ((codes "[" ++ quoted first) ++ flat_map (λ t. codes "," ++ quoted t) (map string_bytes (take i others))) ++ codes "]"
    ≡ texts_text (map string_bytes texts)
texts_all texts others first i is h =
    ap (λ (ts : List (String Global)). ((codes "[" ++ quoted first) ++ flat_map (λ t. codes "," ++ quoted t) (map string_bytes ts)) ++ codes "]")
    (take_all i others h) ∙ ap texts_text (sym is)

-- one attribute more
pub attributes_more : (before : List ℕ) (left rest : List (String Global × Attribute)) (name : String Global) (value : Attribute) (all : List ℕ)
    → left ≡ (name, value) ∷ rest → before ++ attributes_text (map entry_view left) ≡ all
    → ((before ++ (codes " " ++ (string_bytes name ++ codes "="))) ++ value_text (attribute_view value)) ++ attributes_text (map entry_view rest) ≡ all
attributes_more before left rest name value all is so =
    let behind = attributes_text (map entry_view rest) in
    let v = value_text (attribute_view value) in
    let one : (codes " " ++ (string_bytes name ++ codes "=")) ++ v ≡ attribute_text (entry_view (name, value)) =
    ap (λ (t : List ℕ). codes " " ++ t) (append_assoc (string_bytes name) (codes "=") v) in
    ap (λ (t : List ℕ). t ++ behind) (append_assoc before (codes " " ++ (string_bytes name ++ codes "=")) v ∙ ap (λ (t : List ℕ). before ++ t) one)
    ∙ append_assoc before (attribute_text (entry_view (name, value))) behind
    ∙ ap (λ (es : List (String Global × Attribute)). before ++ attributes_text (map entry_view es)) (sym is) ∙ so
