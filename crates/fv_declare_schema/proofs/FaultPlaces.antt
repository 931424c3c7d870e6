-- A place is found exactly where a fault's condition holds.
use Rattle.std.proofs.Common.{◌≡◌, ◌≢◌, ◌∙◌, ◌||◌, ℕ, List, length, nat_lt, Bool, true, false, if◌then◌else◌, not, Some, option_map, is_some, refl}
use Rattle.std.specs.Option.{option_map_or}
use Rattle.fv_declare_schema.specs.Groups.{Groups, Form, group_names_of, inherited_by, group_number, is_sequence}
use Rattle.fv_declare_schema.specs.Judged.{most_groups, most_names, has_unknown_group, has_inherited_sequence, has_large_group, are_too_large}
use Rattle.fv_declare_schema.specs.Whereabouts.{name_in, unknown_name, inherited_sequence, first_large, passed_limit}
use Rattle.fv_declare_schema.specs.declared.fault.GroupLimit.TheVariants as limit
use Rattle.fv_declare_schema.specs.declared.fault.GroupFault.TheVariants.{UnknownGroup, TooLarge}
use Rattle.fv_first.proofs.Laws.{map_told, where_told, inner_told}

pub not_large : UnknownGroup ≢ TooLarge
not_large e = cc

pub unknown_told : (gs : Groups) → is_some (unknown_name gs) ≡ has_unknown_group gs
unknown_told gs = inner_told name_in (λ g name. not (is_some (group_number gs name))) (λ (g : List ℕ × Form). group_names_of g.1) gs

pub inherited_told : (gs : Groups) → is_some (inherited_sequence gs) ≡ has_inherited_sequence gs
inherited_told gs = inner_told name_in (λ g name. option_map_or (is_sequence gs) (group_number gs name) false) (λ (g : List ℕ × Form). inherited_by g.1) gs

pub limit_told : (gs : Groups) → is_some (passed_limit gs) ≡ are_too_large gs
limit_told gs = go (nat_lt most_groups (length gs))
  where
    go : (b : Bool) → is_some (if b then Some limit.Groups else option_map limit.Group (first_large gs)) ≡ (b || has_large_group gs)
    go true = refl
    go false = map_told limit.Group (first_large gs) ∙ where_told (λ (g : List ℕ × Form). nat_lt most_names (length (group_names_of g.1))) gs
