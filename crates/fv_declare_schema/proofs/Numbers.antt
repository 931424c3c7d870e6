-- The numbers of groups by their names.
use Rattle.std.proofs.Common.{◌≡◌, ◌<◌, ◌+◌, ℕ, suc, List, [], ◌∷◌, ◌++◌, map, length, Bool, false, cond, Option, Some, option_map, codes, take, get_or, position, String, string_bytes, bytes_eq, refl, sym, ap, ◌∙◌}
use Rattle.std.specs.List.{cons_option}
use Rattle.std.proofs.lemmas.List.{take_more, map-append}
use Rattle.std.proofs.lemmas.List.Elements.{filter_map-append}
use Rattle.std.specs.Map.{keys_of}
use Rattle.std.specs.declared.alloc.Global.{Global}
use Rattle.fv_declare_schema.specs.Groups.{Groups, all_groups, group_number, numbers_of}
use Rattle.fv_declare_schema.specs.GroupViews.{names_view, group_view}
use Rattle.fv_declare_schema.specs.declared.draft.GroupDraft.{GroupDraft}
use Rattle.fv_graph.proofs.Positions.{position_cons}

-- the number that a map tells
pub number_is : (name : List ℕ) (es : List (String Global × GroupDraft)) → position (λ k. bytes_eq name (string_bytes k)) (keys_of es) ≡ group_number (map group_view es) name
number_is name [] = refl
number_is name (e ∷ es) =
    position_cons (λ k. bytes_eq name (string_bytes k)) e.0 (keys_of es)
    ∙ ap (λ o. cond (bytes_eq name (string_bytes e.0)) (Some 0) (option_map suc o)) (number_is name es)

-- the numbers of declared groups are one further on, behind `Default`
pub number_behind : (gs : Groups) (name : List ℕ) (o : Option ℕ) → bytes_eq name (codes "Default") ≡ false → o ≡ group_number gs name → option_map suc o ≡ group_number (all_groups gs) name
number_behind gs name o other is = ap (option_map suc) is ∙ sym (ap (λ (b : Bool). cond b (Some 0) (option_map suc (group_number gs name))) other)

-- one more of the names
pub numbers_more : (gs : Groups) (names : List (String Global)) (k : ℕ) (name : String Global) → k < length names → name ≡ get_or names k name
    → numbers_of gs (names_view (take (k + 1) names)) ≡ numbers_of gs (names_view (take k names)) ++ cons_option (group_number gs (string_bytes name)) []
numbers_more gs names k name less is =
    ap (λ (l : List (String Global)). numbers_of gs (names_view l)) (take_more names k name less)
    ∙ ap (λ (l : List (List ℕ)). numbers_of gs l) (map-append string_bytes (take k names) (get_or names k name ∷ []))
    ∙ filter_map-append (group_number gs) (names_view (take k names)) (string_bytes (get_or names k name) ∷ [])
    ∙ ap (λ (n : String Global). numbers_of gs (names_view (take k names)) ++ cons_option (group_number gs (string_bytes n)) []) (sym is)
