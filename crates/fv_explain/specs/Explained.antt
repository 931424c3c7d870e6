-- What is told of declarations.
use Rattle.std.specs.Prelude.{◌≡◌, ◌↔◌, ◌⊎◌, ◌<◌, ◌+◌, ◌-◌, ◌++◌, ◌∷◌, [], ℕ, Bool, true, false, Option, Some, List, codes, length, map, max, slice_get, zip}
use Rattle.std.specs.List.{All, AllPairs, AllZip, Contains, flat_map}
use Rattle.fv_bundle.specs.Types.{Declared}
use Rattle.fv_constraint_tree.specs.Nodes.{Node}
use Rattle.fv_constraint_tree.specs.Preorder.{nodes}
use Rattle.fv_constraint_tree.specs.Trees.{root}
use Rattle.fv_declare_judging.specs.FaultNames.{decl_fault_code, decl_fault_name}
use Rattle.fv_declare_judging.specs.declared.fault.DeclFault.{DeclFault}
use Rattle.fv_declare_schema.specs.Declarations.{Declarations, Placed, count_nodes}
use Rattle.fv_declare_schema.specs.Groups.{Groups, Inherits, is_sequence, name_at, ranks}
use Rattle.fv_explain.specs.Lines.{all_limits, fault_text, form_text, group_text, limit_text, part_text, reported_as, sequence_text, use_text, warning_text}

-- the most fields that a type has
abbrev pub most_fields : Declared → ℕ
most_fields [] = 0
most_fields (t ∷ ts) = max (length t.1) (most_fields ts)

-- the limits with the constraints of all uses and all that they are composed of, the most fields that a type has, the declared forms
-- and the groups
abbrev pub IsLimits : Declarations → List ℕ → Type 0
IsLimits s line = line ≡ all_limits (limit_text (count_nodes (map (λ o. o.tree) s.occurrences)) 1024) (limit_text (most_fields s.types) 256)
    (limit_text (length s.forms) 256) (limit_text (length s.groups) 256)

-- the names of groups, by their numbers
abbrev pub group_names : Groups → List ℕ → List (List ℕ)
group_names gs numbers = map (name_at gs) numbers

-- the numbers below a limit of which something is so, ascending
pub record AreThoseBelow (limit : ℕ) (P : ℕ → Type 0) (found : List ℕ) : Type 0 where
  pub rising : AllPairs (λ m n. m < n) found
  pub exact : (n : ℕ) → Contains found n ↔ ((n < limit) × P n)

-- the groups that a group is or inherits, by their numbers
abbrev pub AreInherited : Groups → ℕ → List ℕ → Type 0
AreInherited gs g found = AreThoseBelow (length gs) (Inherits gs g) found

-- the line of a group: a sequence has those that it stands for, in order, another all that it is or inherits
pub record IsGroupLine (gs : Groups) (g : ℕ) (line : List ℕ) : Type 0 where
  pub sequence : is_sequence gs g ≡ true → line ≡ sequence_text (name_at gs g) (group_names gs (ranks gs g))
  pub plain : is_sequence gs g ≡ false
      → (found : List ℕ) × AreInherited gs g found × (line ≡ group_text (name_at gs g) (group_names gs found))

-- the same, in plain text
abbrev pub TellsGroup : Bool → Groups → ℕ → List ℕ → Type 0
TellsGroup json gs g line = json ≡ false → IsGroupLine gs g line

-- a line for each number from one on
abbrev pub AreLinesFrom : ℕ → (ℕ → List ℕ → Type 0) → List (List ℕ) → Type 0
AreLinesFrom n Is [] = Unit {0}
AreLinesFrom n Is (line ∷ lines) = Is n line × AreLinesFrom (n + 1) Is lines

-- a line for each declared group but `Default`, which is the first, in their order
pub record AreGroupLines (json : Bool) (gs : Groups) (lines : List (List ℕ)) : Type 0 where
  pub each : length lines ≡ length gs - 1
  pub are : AreLinesFrom 1 (TellsGroup json gs) lines

-- a message is shown as it is, unless it is a key alone, in its braces
abbrev pub IsShown : List ℕ → List ℕ → Type 0
IsShown message shown = ((key : List ℕ) × (message ≡ codes "{" ++ (key ++ codes "}"))) ⊎ (shown ≡ message)

-- the line of a use: its number, its constraint with the attributes in effect, its groups and its message, and some place
abbrev pub IsUseLine : Groups → Placed → List ℕ → Type 0
IsUseLine gs u line = (place message : List ℕ) × IsShown (root u.tree).message message
    × (line ≡ use_text u.number place (root u.tree).constraint (root u.tree).attributes (group_names gs u.groups) message)

-- the line of a constraint that a used one is composed of: its number, its name, the attributes in effect and its message, and as what
-- it is reported
abbrev pub IsNodeLine : ℕ → Node → List ℕ → Type 0
IsNodeLine number node line = (other : Option ℕ) × (name message : List ℕ) × IsShown node.message message
    × (line ≡ part_text number node.constraint node.attributes (reported_as number other name message))

-- the line of the n-th constraint behind a use
abbrev pub IsPartLine : Placed → ℕ → List ℕ → Type 0
IsPartLine u n line = (node : Node) × (slice_get (nodes u.tree) n ≡ Some node) × IsNodeLine (u.number + n) node line

-- the same, in plain text
abbrev pub TellsPart : Bool → Placed → ℕ → List ℕ → Type 0
TellsPart json u n line = json ≡ false → IsPartLine u n line

-- the lines of a use: its own, and one for each further constraint of its tree
pub record AreUseLines (json : Bool) (gs : Groups) (u : Placed) (lines : List (List ℕ)) : Type 0 where
  pub first : List ℕ
  pub parts : List (List ℕ)
  pub whole : lines ≡ first ∷ parts
  pub is : json ≡ false → IsUseLine gs u first
  pub each : length parts ≡ count_nodes (u.tree ∷ []) - 1
  pub are : AreLinesFrom 1 (TellsPart json u) parts

-- the lines of each use, one after another
abbrev pub AreLinesOfUses : Bool → Declarations → List (List ℕ) → Type 0
AreLinesOfUses json s lines = (each : List (List (List ℕ))) × (lines ≡ flat_map (λ ls. ls) each)
    × AllZip (AreUseLines json s.groups) s.occurrences each

-- the line of a form: its name, its root and its groups, and something on what it reaches
abbrev pub IsFormLine : Groups → (List ℕ × List ℕ) × (List ℕ × List ℕ) → List ℕ → Type 0
IsFormLine gs f line = (reached : List ℕ) × (line ≡ form_text f.0.0 f.0.1 (group_names gs f.1.1) reached)

-- the same, in plain text
abbrev pub TellsForm : Bool → Groups → (List ℕ × List ℕ) × (List ℕ × List ℕ) → List ℕ → Type 0
TellsForm json gs f line = json ≡ false → IsFormLine gs f line

-- a line for each form, in their order
abbrev pub AreFormLines : Bool → Declarations → List (List ℕ) → Type 0
AreFormLines json s lines = AllZip (TellsForm json s.groups) (zip s.forms s.form_groups) lines

-- a warning, of something
abbrev pub IsWarning : List ℕ → Type 0
IsWarning line = (warned : List ℕ) × (line ≡ warning_text warned)

-- what is told before the limits: the lines of all uses, of all groups and of all forms, and warnings
pub record TellsDeclared (json : Bool) (s : Declarations) (lines : List (List ℕ)) : Type 0 where
  pub uses : List (List ℕ)
  pub groups : List (List ℕ)
  pub forms : List (List ℕ)
  pub warned : List (List ℕ)
  pub whole : lines ≡ uses ++ (groups ++ (forms ++ warned))
  pub uses_are : AreLinesOfUses json s uses
  pub groups_are : AreGroupLines json s.groups groups
  pub forms_are : AreFormLines json s forms
  pub warnings_are : json ≡ false → All IsWarning warned

-- what is declared, and then the limits
abbrev pub TellsLines : Bool → Declarations → List (List ℕ) → Type 0
TellsLines json s lines = (before : List (List ℕ)) × (last : List ℕ) × (lines ≡ before ++ last ∷ []) × (json ≡ false → IsLimits s last)
    × TellsDeclared json s before

-- a fault by its code and its name, at some place, with some text
abbrev pub IsFaultLine : DeclFault → List ℕ → Type 0
IsFaultLine fault line =
    (place text : List ℕ) × (line ≡ fault_text place (decl_fault_code fault) (decl_fault_name fault) text)

-- there is one line, that of the fault
abbrev pub TellsFault : Bool → DeclFault → List (List ℕ) → Type 0
TellsFault json fault lines = (line : List ℕ) × (lines ≡ line ∷ []) × (json ≡ false → IsFaultLine fault line)
