-- What is found on the way to a schema; for private clauses.
use Rattle.std.specs.Prelude.{◌≡◌, ℕ, ◌+◌, ◌<◌, ◌≤◌, List, [], ◌∷◌, length, drop, zip, Bool, true, false, Option, Some, option_map, Result, Ok}
use Rattle.std.specs.List.{AllByRecursion, AllZip}
use Rattle.fv_constraint.specs.Composed.{Planned}
use Rattle.fv_flatten.specs.Read.{IsReadTree}
use Rattle.fv_constraint_tree.specs.TargetFits.{tree_fits}
use Rattle.serde_json.specs.Data as json
use Rattle.fv_datum.specs.Parsing.{json_of}
use Rattle.fv_declare_judging.specs.Conditions.{unknown_name, used_in}
use Rattle.fv_declare_judging.specs.Declares.{draft_in, faults, IsAnswer, Declares}
use Rattle.fv_declare_judging.specs.Naming.{bad_name}
use Rattle.fv_declare_judging.specs.Schemas.{IsDeclared}
use Rattle.fv_declare_draft.specs.Drafts.{FieldDraft, Drafted}
use Rattle.fv_declare_draft.specs.Places.{PlacedCascade}
use Rattle.fv_bundle.specs.Types.{kind_of}
use Rattle.fv_constraint_tree.specs.Nodes.{Node}
use Rattle.fv_constraint_tree.specs.Trees.{Tree, size}
use Rattle.fv_declare_schema.specs.Declarations.{Placed, Declarations, count_nodes}
use Rattle.fv_declare_schema.specs.Ordered.{held_inside}
use Rattle.fv_declare_groups.specs.Numbered.{groups_named}
use Rattle.fv_declare_schema.specs.Groups.{Groups}
use Rattle.fv_message.specs.declared.fault.MessageFault.{MessageFault}
use Rattle.fv_message.specs.declared.fault.MessageFault.TheVariants as message
use Rattle.fv_declare_draft.specs.AllUses.{DraftUse, uses_in}
use Rattle.fv_registry.specs.Rules.{Known}
use Rattle.fv_declare_judging.specs.declared.fault.DeclFault.{DeclFault}
use Rattle.fv_declare_judging.specs.declared.fault.DeclFault.TheVariants.{BadName, UnknownName}

-- the answer by these faults to each text of which a draft is read
unfoldable pub IsAnswerTo : Known → Drafted → List DeclFault → Result Declarations DeclFault → Type 0
IsAnswerTo k d rest answer = (bytes : List ℕ) → draft_in bytes ≡ Some d → IsAnswer k bytes rest answer

-- the answer to each text that is a JSON value
unfoldable pub DeclaredBy : Known → json.Data → Result Declarations DeclFault → Type 0
DeclaredBy k j answer = (bytes : List ℕ) → json_of bytes ≡ Some j → Declares k bytes answer

-- the faults that a draft can have: all but those of a text that is none
abbrev pub draft_faults : List DeclFault
draft_faults = drop 2 faults

-- those that are looked for where names and groups stand as they may
abbrev pub composition_faults : List DeclFault
composition_faults = drop 11 faults

-- those that are looked for where no constraint is composed of itself either
abbrev pub tree_faults : List DeclFault
tree_faults = drop 12 faults

-- what can be wrong with names, in the order in which it is answered
abbrev pub name_conditions : Drafted → List (Bool × DeclFault)
name_conditions d = (bad_name d, BadName) ∷ (unknown_name d, UnknownName) ∷ []

-- a limit on messages is passed
abbrev pub is_wordy : Option MessageFault → Bool
is_wordy (Some message.TooLarge) = true
is_wordy _ = false

-- a fault of messages is want of memory
abbrev pub lacks_memory : Option MessageFault → Bool
lacks_memory (Some message.Memory) = true
lacks_memory _ = false

-- each cascade stands fewer steps inside than those after it
abbrev pub AreDeepening : List PlacedCascade → Type 0
AreDeepening [] = Unit {0}
AreDeepening (c ∷ cs) = AllByRecursion (λ d. length c.steps < length d.steps) cs × AreDeepening cs

-- the steps of each use and of each cascade in a field lead in what the field holds to data of its kind, and the cascades go inwards
abbrev pub IsLed : FieldDraft → Type 0
IsLed f =
    AllByRecursion (λ u. option_map kind_of (held_inside u.steps f.type) ≡ Some u.kind) f.uses
    × AllByRecursion (λ c. option_map kind_of (held_inside c.steps f.type) ≡ Some c.kind) f.cascades
    × AreDeepening f.cascades

-- the same, of the fields of each type
abbrev pub AreLed : Drafted → Type 0
AreLed d = AllByRecursion (λ t. AllByRecursion IsLed t.fields) d.types

-- uses with their groups and trees at their places, in order, where the root of the first tree has a number
abbrev pub placed_from : Groups → ℕ → List DraftUse → List (Tree Node) → List Placed
placed_from gs n (u ∷ us) (t ∷ ts) =
    record { type = u.type; place = u.place; number = n; groups = groups_named gs u.draft.groups; tree = t } ∷ placed_from gs (n + size t) us ts
placed_from gs n _ _ = []

-- trees that the uses of a draft are read to: there is one for each, they have no more than 1,024 nodes, and each fits where it is used;
-- what is declared by them is the answer by these faults
pub record AreRead (k : Known) (d : Drafted) (rest : List DeclFault) (os : List (Tree Node)) : Type 0 where
  pub each : length os ≡ length (uses_in d.types)
  pub few : count_nodes os ≤ 1024
  pub fit : AllZip (λ u o. tree_fits k u.place o ≡ true) (used_in d) os
  pub declared : (ds : Declarations)
      → ((ts : List (Tree Planned)) → AllZip (λ u o. IsReadTree u.0.place u.1 o) (zip (used_in d) ts) os → IsDeclared d ts ds)
      → IsAnswerTo k d rest (Ok ds)
