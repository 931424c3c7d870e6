-- The numbers of keys.
use Rattle.std.proofs.Common.{◌≡◌, ℕ, suc, List, [], ◌∷◌, map, cond, Some, option_map, position, String, string_bytes, bytes_eq, refl, ap, ◌∙◌}
use Rattle.std.specs.Map.{keys_of}
use Rattle.std.specs.declared.alloc.Global.{Global}
use Rattle.fv_message.specs.Numbers.{number_of}
use Rattle.fv_message.specs.Views.{message_view}
use Rattle.fv_graph.proofs.Positions.{position_cons}

-- the number that a map tells
pub number_is : (name : List ℕ) (es : List (String Global × String Global)) → position (λ k. bytes_eq name (string_bytes k)) (keys_of es) ≡ number_of (map message_view es) name
number_is name [] = refl
number_is name (e ∷ es) =
    position_cons (λ k. bytes_eq name (string_bytes k)) e.0 (keys_of es)
    ∙ ap (λ o. cond (bytes_eq name (string_bytes e.0)) (Some 0) (option_map suc o)) (number_is name es)
