-- Groups: those that a group inherits, sequences of groups, and the groups that a sequence stands for.
use Rattle.std.specs.Prelude.{◌≡◌, ℕ, suc, List, [], ◌∷◌, length, cond, Bool, true, false, Option, Some, None, option_map, slice_get, codes, filter_map}
use Rattle.std.specs.List.{concat}
use Rattle.std.specs.Option.{option_map_or}
use Rattle.std.specs.Str.{bytes_eq}
use mathlib.Core.Logic.{◌⊎◌}
use Rattle.fv_graph.specs.Graph.{Leads}
use Rattle.fv_graph.specs.Recursion.{value}
use Rattle.fv_declare_schema.specs.Once.{once}

-- what a group is: plain, with the names of the groups that it inherits, or a sequence, with the names of its members
pub data Form : Type 0 where
  inherits : List (List ℕ) → Form
  sequence : List (List ℕ) → Form

-- groups by their names, in the order of their numbers
abbrev pub Groups : Type 0
Groups = List (List ℕ × Form)

-- declared groups, behind the one that is always there
abbrev pub all_groups : Groups → Groups
all_groups declared = (codes "Default", inherits []) ∷ declared

-- whether a group is a sequence
abbrev pub is_a_sequence : Form → Bool
is_a_sequence (inherits names) = false
is_a_sequence (sequence names) = true

-- the names that a group is declared with
abbrev pub group_names_of : Form → List (List ℕ)
group_names_of (inherits names) = names
group_names_of (sequence names) = names

-- the names of the groups that a group inherits; a sequence inherits none
abbrev pub inherited_by : Form → List (List ℕ)
inherited_by (inherits names) = names
inherited_by (sequence names) = []

-- the names of a sequence's members; a plain group has none
abbrev pub members_of : Form → List (List ℕ)
members_of (inherits names) = []
members_of (sequence names) = names

-- the number of the first group of that name
abbrev pub group_number : Groups → List ℕ → Option ℕ
group_number [] name = None
group_number (g ∷ gs) name = cond (bytes_eq name g.0) (Some 0) (option_map suc (group_number gs name))

-- the name of the group of a number; empty where there is none
abbrev pub name_at : Groups → ℕ → List ℕ
name_at gs i = option_map_or (λ g. g.0) (slice_get gs i) []

-- what the group of a number is; plain where there is none
abbrev pub form_at : Groups → ℕ → Form
form_at gs i = option_map_or (λ g. g.1) (slice_get gs i) (inherits [])

-- whether the group of a number is a sequence
abbrev pub is_sequence : Groups → ℕ → Bool
is_sequence gs i = is_a_sequence (form_at gs i)

-- the numbers of groups, by their names; a name that no group has is left out
abbrev pub numbers_of : Groups → List (List ℕ) → List ℕ
numbers_of gs names = filter_map (group_number gs) names

-- the groups that a group inherits
abbrev pub inherit_next : Groups → ℕ → List ℕ
inherit_next gs i = numbers_of gs (inherited_by (form_at gs i))

-- the members of a sequence
abbrev pub member_next : Groups → ℕ → List ℕ
member_next gs i = numbers_of gs (members_of (form_at gs i))

-- the second group is the first, or the first inherits it, directly or through others
abbrev pub Inherits : Groups → ℕ → ℕ → Type 0
Inherits gs g h = (g ≡ h) ⊎ Leads (inherit_next gs) g h

-- a group alone, or for a sequence all that its members stand for, a repeat after the first dropped
abbrev pub ranked : (ℕ → Bool) → ℕ → List (List ℕ) → List ℕ
ranked is_sequence i below = cond (is_sequence i) (once (concat below)) (i ∷ [])

-- the plain groups that a group stands for, in order: itself alone, or for a sequence all that its members stand for, a repeat after the first dropped
abbrev pub ranks : Groups → ℕ → List ℕ
ranks gs g = value (λ i below. cond (is_sequence gs i) (once (concat below)) (i ∷ [])) (member_next gs) (length gs) g

-- a group is, or has as a member, directly or through others, one that is `Default`, the group of number 0, or inherits it, directly or through others
abbrev pub MeetsDefault : Groups → ℕ → Type 0
MeetsDefault gs g = (k : ℕ) × ((g ≡ k) ⊎ Leads (member_next gs) g k) × ((k ≡ 0) ⊎ Leads (inherit_next gs) k 0)
