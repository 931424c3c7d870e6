-- The declarations that a text declares, or its first fault.
use Rattle.std.specs.Prelude.{◌≡◌, ◌⊎◌, ℕ, List, [], ◌∷◌, true, Option, Some, None, option_and_then, Result, Ok, Err}
use Rattle.std.specs.List.{list_any}
use Rattle.fv_constraint.specs.Composed as composed
use Rattle.fv_constraint.specs.Composed.{Planned}
use Rattle.fv_flatten.specs.Flattening.{AreTreesOfUses, bad_attribute, unexpected_type, HasBadPattern}
use Rattle.fv_constraint.specs.Refusals.{is_empty_in, unknown_rule}
use Rattle.fv_constraint_tree.specs.Trees.{Tree}
use Rattle.fv_datum.specs.Parsing.{json_of}
use Rattle.fv_declare_draft.specs.AllCascades.{cascades_in}
use Rattle.fv_declare_draft.specs.Drafts.{Drafted, draft_of}
use Rattle.fv_declare_groups.specs.First.{HasSome}
use Rattle.fv_declare_groups.specs.Grouping.{groups_in, unknown_group, misused, lacks_type, MembersMeet, is_misplaced}
use Rattle.fv_declare_schema.specs.Declarations.{Declarations}
use Rattle.fv_graph.specs.Graph.{IsCyclic}
use Rattle.fv_declare_schema.specs.Groups.{inherit_next, member_next}
use Rattle.fv_message.specs.Judged.{IsCircular}
use Rattle.fv_message.specs.Table.{all_messages}
use Rattle.fv_registry.specs.Rules.{Known}
use Rattle.fv_declare_judging.specs.Conditions.{unknown_name, used_in, too_large, AreBuilt}
use Rattle.fv_declare_judging.specs.Schemas.{IsDeclared}
use Rattle.fv_declare_judging.specs.Naming.{bad_name}
use Rattle.fv_declare_judging.specs.Wording.{IsTooLarge, IsIllWritten}
use Rattle.fv_declare_judging.specs.declared.fault.DeclFault.{DeclFault}
use Rattle.fv_declare_judging.specs.declared.fault.DeclFault.TheVariants.{NotJson, Shape, BadName, UnknownName, UnknownGroup, CyclicInheritance, CyclicSequence, SequenceMisused, SequenceLacksType, DefaultInTypeSequence, ConversionMisplaced, CyclicComposition, EmptyConstraint, TooLarge, UnknownRule, Attribute, UnexpectedType, BadPattern, MessageSyntax, MessageCycle, Memory}

-- the draft that a text is, none where it isn't JSON of the form of declarations
abbrev pub draft_in : List ℕ → Option Drafted
draft_in bytes = option_and_then draft_of (json_of bytes)

-- a text is a draft, and it is so of the draft
abbrev pub OfDraft : List ℕ → (Drafted → Type 0) → Type 0
OfDraft bytes P = (d : Drafted) × (draft_in bytes ≡ Some d) × P d

-- a text is a draft, and it is so of the draft with the trees of its uses, which there are unless a name is unknown or a constraint is
-- composed of itself
abbrev pub OfTrees : List ℕ → (Drafted → List (Tree Planned) → Type 0) → Type 0
OfTrees bytes P = OfDraft bytes (λ d. (ts : List (Tree Planned)) × AreTreesOfUses d.definitions (used_in d) ts × P d ts)

-- the condition of each fault, F1 to F20 in this order, where none of those before it holds; want of memory is no fault of declarations
abbrev pub Holds : Known → List ℕ → DeclFault → Type 0
Holds k bytes NotJson = json_of bytes ≡ None  -- F1
Holds k bytes Shape = draft_in bytes ≡ None  -- F2
Holds k bytes BadName = OfDraft bytes (λ d. bad_name d ≡ true)  -- F3
Holds k bytes UnknownName = OfDraft bytes (λ d. unknown_name d ≡ true)  -- F4
Holds k bytes UnknownGroup = OfDraft bytes (λ d. unknown_group (groups_in d) d ≡ true)  -- F5
Holds k bytes CyclicInheritance = OfDraft bytes (λ d. IsCyclic (inherit_next (groups_in d)))  -- F6
Holds k bytes CyclicSequence = OfDraft bytes (λ d. IsCyclic (member_next (groups_in d)))  -- F7
Holds k bytes SequenceMisused = OfDraft bytes (λ d. misused (groups_in d) d ≡ true)  -- F8
Holds k bytes SequenceLacksType = OfDraft bytes (λ d. list_any lacks_type d.types ≡ true)  -- F9
Holds k bytes DefaultInTypeSequence = OfDraft bytes (λ d. HasSome (MembersMeet (groups_in d)) d.types)  -- F10
Holds k bytes ConversionMisplaced = OfDraft bytes (λ d. list_any (is_misplaced (groups_in d)) (cascades_in d.types) ≡ true)  -- F11
Holds k bytes CyclicComposition = OfDraft bytes (λ d. composed.ComposesItself d.definitions)  -- F12
Holds k bytes EmptyConstraint = OfDraft bytes (λ d. is_empty_in d.definitions ≡ true)  -- F13
Holds k bytes TooLarge = OfTrees bytes (λ d ts. (too_large d ts ≡ true) ⊎ IsTooLarge d)  -- F14
Holds k bytes UnknownRule = OfDraft bytes (λ d. unknown_rule k d.definitions ≡ true)  -- F15
Holds k bytes Attribute = OfTrees bytes (λ d ts. bad_attribute d.definitions ts ≡ true)  -- F16
Holds k bytes UnexpectedType = OfTrees bytes (λ d ts. unexpected_type k (used_in d) ts ≡ true)  -- F17
Holds k bytes BadPattern = OfTrees bytes (λ d ts. HasBadPattern (used_in d) ts)  -- F18
Holds k bytes MessageSyntax = OfDraft bytes IsIllWritten  -- F19
Holds k bytes MessageCycle = OfDraft bytes (λ d. IsCircular (all_messages d.messages))  -- F20
Holds k bytes Memory = ⊥

-- a fault's condition doesn't hold; of a pattern of the right syntax the regex crate answers whether it is built, so both may be said of BadPattern
abbrev pub Fails : Known → List ℕ → DeclFault → Type 0
Fails k bytes BadPattern = OfTrees bytes AreBuilt
Fails k bytes fault = Holds k bytes fault → ⊥

-- the faults in the order in which they are answered
abbrev pub faults : List DeclFault
faults =
    NotJson ∷ Shape ∷ BadName ∷ UnknownName ∷ UnknownGroup ∷ CyclicInheritance ∷ CyclicSequence ∷ SequenceMisused
    ∷ SequenceLacksType ∷ DefaultInTypeSequence ∷ ConversionMisplaced ∷ CyclicComposition ∷ EmptyConstraint ∷ TooLarge
    ∷ UnknownRule ∷ Attribute ∷ UnexpectedType ∷ BadPattern ∷ MessageSyntax ∷ MessageCycle ∷ []

-- the answer to a text by faults in their order: the first whose condition holds, else what is declared
abbrev pub IsAnswer : Known → List ℕ → List DeclFault → Result Declarations DeclFault → Type 0
IsAnswer k bytes [] (Ok ds) = OfTrees bytes (λ d ts. IsDeclared d ts ds)
IsAnswer k bytes [] (Err _) = ⊥
IsAnswer k bytes (fault ∷ rest) answer =
    (Holds k bytes fault × (answer ≡ Err fault)) ⊎ (Fails k bytes fault × IsAnswer k bytes rest answer)

-- the declarations that a text declares where these rules are there, or its first fault
unfoldable pub Declares : Known → List ℕ → Result Declarations DeclFault → Type 0
Declares k bytes answer = IsAnswer k bytes faults answer
