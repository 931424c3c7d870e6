-- Where declarations have a fault.
use Rattle.std.specs.Prelude.{◌≡◌, ◌⊎◌, ℕ, List, IsTrue, Option, Some, None, option_map, is_some}
use Rattle.serde_json.specs.Data as json
use Rattle.fv_constraint.specs.Composed.{Planned}
use Rattle.fv_flatten.specs.Flattening.{AreTreesOfUses}
use Rattle.fv_flatten.specs.Whereabouts as constraint
use Rattle.fv_constraint.specs.Whereabouts.{empty_definition}
use Rattle.fv_constraint.specs.declared.at.ConstraintAt.{ConstraintAt}
use Rattle.fv_constraint.specs.declared.at.ConstraintAt.TheVariants.{Definition}
use Rattle.fv_flatten.specs.declared.fault.FlattenFault.{FlattenFault}
use Rattle.fv_flatten.specs.declared.fault.FlattenFault.TheVariants as flat
use Rattle.fv_constraint_tree.specs.Trees.{Tree}
use Rattle.fv_declare_draft.specs.AllUses.{uses_in}
use Rattle.fv_declare_draft.specs.Drafts.{Drafted, draft_of}
use Rattle.fv_declare_groups.specs.Whereabouts as grouping
use Rattle.fv_declare_groups.specs.declared.at.GroupingAt.{GroupingAt}
use Rattle.fv_declare_groups.specs.declared.fault.GroupingFault.{GroupingFault}
use Rattle.fv_declare_groups.specs.declared.fault.GroupingFault.TheVariants as group
use Rattle.fv_message.specs.declared.fault.MessageFault.TheVariants as message
use Rattle.fv_registry.specs.Rules.{Known}
use Rattle.fv_declare_judging.specs.Conditions.{used_in}
use Rattle.fv_declare_judging.specs.Declares.{OfDraft}
use Rattle.fv_declare_judging.specs.LimitPlaces.{types_limit, first_limit}
use Rattle.fv_declare_judging.specs.NamePlaces.{bad_name, unknown_name}
use Rattle.fv_declare_judging.specs.Types.{types_declared}
use Rattle.fv_declare_judging.specs.WordingPlaces.{IsWordedAt, IsWordyAt}
use Rattle.fv_declare_judging.specs.declared.fault.DeclFault.{DeclFault}
use Rattle.fv_declare_judging.specs.declared.fault.DeclFault.TheVariants.{NotJson, Shape, BadName, UnknownName, UnknownGroup, SequenceMisused, SequenceLacksType, DefaultInTypeSequence, ConversionMisplaced, EmptyConstraint, TooLarge, UnknownRule, Attribute, UnexpectedType, BadPattern, MessageSyntax}
use Rattle.fv_declare_judging.specs.declared.placed.At.{At}
use Rattle.fv_declare_judging.specs.declared.placed.At.TheVariants.{Names, Groups, Constraints, Limit, Wording}
use Rattle.fv_declare_judging.specs.declared.placed.WordingAt.{WordingAt}

-- where a draft has a fault of its names
abbrev pub IsNameAt : Drafted → DeclFault → Option At → Type 0
IsNameAt d BadName found = (found ≡ option_map Names (bad_name d)) × IsTrue (is_some found)
IsNameAt d UnknownName found = (found ≡ unknown_name (types_declared d) d.definitions (uses_in d.types) d.forms) × IsTrue (is_some found)
IsNameAt d _ found = ⊥

-- where the groups of a draft have a fault
abbrev pub IsInGroups : Drafted → GroupingFault → Option At → Type 0
IsInGroups d fault found = (p : Option GroupingAt) × grouping.IsAt d fault p × (found ≡ option_map Groups p)

-- where its constraints have one, by the trees of its uses
abbrev pub IsInConstraints : Known → Drafted → FlattenFault → Option At → Type 0
IsInConstraints k d fault found =
    (ts : List (Tree Planned)) × AreTreesOfUses d.definitions (used_in d) ts
    × ((p : Option ConstraintAt) × constraint.IsAt k d.definitions (used_in d) ts fault p × (found ≡ option_map Constraints p))

-- which limit a draft passes first, by the trees of its uses
abbrev pub IsAtLimit : Drafted → Option At → Type 0
IsAtLimit d found =
    (ts : List (Tree Planned)) × AreTreesOfUses d.definitions (used_in d) ts
    × ((w : Option WordingAt) × IsWordyAt d w × (found ≡ option_map Limit (first_limit (types_limit (types_declared d)) d w ts)) × IsTrue (is_some found))

-- where a draft has a fault: the first place in the order of these definitions; of keys whose text becomes too long, some. The cycles are told by
-- rings, apart
abbrev pub IsAt : Known → Drafted → DeclFault → Option At → Type 0
IsAt k d BadName found = IsNameAt d BadName found  -- F3
IsAt k d UnknownName found = IsNameAt d UnknownName found  -- F4
IsAt k d UnknownGroup found = IsInGroups d group.UnknownGroup found  -- F5
IsAt k d SequenceMisused found = IsInGroups d group.SequenceMisused found  -- F8
IsAt k d SequenceLacksType found = IsInGroups d group.SequenceLacksType found  -- F9
IsAt k d DefaultInTypeSequence found = IsInGroups d group.DefaultInTypeSequence found  -- F10
IsAt k d ConversionMisplaced found = IsInGroups d group.ConversionMisplaced found  -- F11
IsAt k d EmptyConstraint found =
    (found ≡ option_map (λ n. Constraints (Definition n)) (empty_definition d.definitions)) × IsTrue (is_some found)  -- F13
IsAt k d TooLarge found = IsAtLimit d found  -- F14
IsAt k d UnknownRule found = IsInConstraints k d flat.UnknownRule found  -- F15
IsAt k d Attribute found = IsInConstraints k d flat.Attribute found  -- F16
IsAt k d UnexpectedType found = IsInConstraints k d flat.UnexpectedType found  -- F17
IsAt k d BadPattern found = IsInConstraints k d flat.BadPattern found  -- F18
IsAt k d MessageSyntax found = (w : Option WordingAt) × IsWordedAt d message.MessageSyntax w × (found ≡ option_map Wording w)  -- F19
IsAt k d _ found = found ≡ None

-- where a text has a fault: none where it is no draft
abbrev pub IsPlaced : Known → List ℕ → DeclFault → Option At → Type 0
IsPlaced k bytes NotJson found = found ≡ None  -- F1
IsPlaced k bytes Shape found = found ≡ None  -- F2
IsPlaced k bytes fault found = OfDraft bytes (λ d. IsAt k d fault found)

-- the same of a JSON value; for private clauses
abbrev pub PlacedIn : Known → json.Data → DeclFault → Option At → Type 0
PlacedIn k j fault found = ((fault ≡ Shape) × (found ≡ None)) ⊎ ((d : Drafted) × (draft_of j ≡ Some d) × IsAt k d fault found)
