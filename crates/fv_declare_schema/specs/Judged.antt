-- Why groups aren't taken.
use Rattle.std.specs.Prelude.{◌≡◌, ℕ, List, length, Bool, true, false, not, ◌||◌, nat_lt, is_some}
use Rattle.std.specs.List.{list_any}
use Rattle.std.specs.Option.{option_map_or}
use Rattle.fv_graph.specs.Graph.{IsCyclic}
use Rattle.fv_declare_schema.specs.Groups.{Groups, group_names_of, inherited_by, group_number, is_sequence, inherit_next, member_next}
use Rattle.fv_declare_schema.specs.declared.fault.GroupFault.{GroupFault}
use Rattle.fv_declare_schema.specs.declared.fault.GroupFault.TheVariants.{UnknownGroup, CyclicInheritance, CyclicSequence, SequenceMisused, TooLarge, Memory}

-- how many groups there are at most
abbrev pub most_groups : ℕ
most_groups = 256

-- how many groups a group inherits directly, and how many members a sequence has, at most
abbrev pub most_names : ℕ
most_names = 32

-- one of these names is no group's
abbrev pub unknown_group_in : Groups → List (List ℕ) → Bool
unknown_group_in gs names = list_any (λ name. not (is_some (group_number gs name))) names

-- a group inherits a group, or has a member, that isn't declared
abbrev pub has_unknown_group : Groups → Bool
has_unknown_group gs = list_any (λ g. unknown_group_in gs (group_names_of g.1)) gs

-- one of these names is a sequence's
abbrev pub sequence_in : Groups → List (List ℕ) → Bool
sequence_in gs names = list_any (λ name. option_map_or (is_sequence gs) (group_number gs name) false) names

-- a group inherits a sequence
abbrev pub has_inherited_sequence : Groups → Bool
has_inherited_sequence gs = list_any (λ g. sequence_in gs (inherited_by g.1)) gs

-- more than 32 groups are inherited by one, or members of one
abbrev pub has_large_group : Groups → Bool
has_large_group gs = list_any (λ g. nat_lt most_names (length (group_names_of g.1))) gs

-- a limit is passed: more than 256 groups, or more than 32 that one inherits or that are members of one
abbrev pub are_too_large : Groups → Bool
are_too_large gs = nat_lt 256 (length gs) || list_any (λ g. nat_lt most_names (length (group_names_of g.1))) gs

-- all names are groups', no group inherits itself and no sequence contains itself, through whatever chain, and no sequence is inherited
pub record AreSound (gs : Groups) : Type 0 where
  pub known : has_unknown_group gs ≡ false
  pub inheritance : IsCyclic (inherit_next gs) → ⊥
  pub expansion : IsCyclic (member_next gs) → ⊥
  pub proper : has_inherited_sequence gs ≡ false

-- the first fault of groups; want of memory may come at any place
abbrev pub IsFault : Groups → GroupFault → Type 0
IsFault gs UnknownGroup = has_unknown_group gs ≡ true
IsFault gs CyclicInheritance = (has_unknown_group gs ≡ false) × IsCyclic (inherit_next gs)
IsFault gs CyclicSequence = (has_unknown_group gs ≡ false) × (IsCyclic (inherit_next gs) → ⊥) × IsCyclic (member_next gs)
IsFault gs SequenceMisused =
    (has_unknown_group gs ≡ false) × (IsCyclic (inherit_next gs) → ⊥) × (IsCyclic (member_next gs) → ⊥) × (has_inherited_sequence gs ≡ true)
IsFault gs TooLarge = AreSound gs × (are_too_large gs ≡ true)
IsFault gs Memory = Unit {0}
