-- Declarations in which no constraint is composed of itself, from the count of their trees' nodes to the answer.
use Rattle.std.proofs.Common.{◌≡◌, ℕ, ◌≤◌, ◌||◌, ◌⊎◌, inl, inr, List, [], ◌∷◌, length, map, zip, drop, nat_lt, Bool, true, false, Option, Some, None, is_some, option_map, Result, Ok, Err, refl, sym, ap, subst, ◌∙◌, arith}
use Rattle.std.proofs.lemmas.Bool.{ltb-false}
use Rattle.std.proofs.lemmas.List.{length-map}
use Rattle.std.specs.List.{AllZip}
use Rattle.fv_constraint.specs.Composed.{Planned}
use Rattle.fv_datum.proofs.Bools.{or_right}
use Rattle.fv_declare_definition.specs.Definitions.{Definitions}
use Rattle.fv_declare_draft.specs.Drafts.{Drafted}
use Rattle.fv_flatten.specs.Flattening.{AreTreesOfUses, FlattensAll}
use Rattle.fv_constraint.specs.Refusals.{is_empty_in}
use Rattle.fv_flatten.specs.Flattening as flat
use Rattle.fv_flatten.specs.Read.{IsReadTree}
use Rattle.fv_flatten.specs.Whereabouts as constraint
use Rattle.fv_constraint.specs.declared.at.ConstraintAt.{ConstraintAt}
use Rattle.fv_flatten.specs.declared.fault.FlattenFault.{FlattenFault}
use Rattle.fv_flatten.specs.declared.fault.FlattenFault.TheVariants as flattening
use Rattle.fv_datum.specs.Outcomes.{first}
use Rattle.fv_bundle.specs.declared.fault.TypesAt.{TypesAt}
use Rattle.fv_message.specs.declared.fault.MessageFault.{MessageFault}
use Rattle.fv_message.specs.declared.fault.MessageFault.TheVariants as message
use Rattle.fv_constraint_tree.specs.TargetFits.{tree_fits}
use Rattle.fv_bundle.specs.Types.{too_many}
use Rattle.fv_bundle.specs.declared.types.Types.{Types}
use Rattle.fv_constraint_tree.specs.Nodes.{Node}
use Rattle.fv_constraint_tree.specs.Trees.{Tree}
use Rattle.fv_registry.specs.Rules.{Known}
use Rattle.fv_declare_schema.specs.Declarations.{Declarations, count_nodes}
use Rattle.fv_declare_judging.specs.Conditions.{used_in, has_many, too_large}
use Rattle.fv_declare_judging.specs.Declares.{draft_in, OfDraft, faults, IsAnswer}
use Rattle.fv_declare_judging.specs.Schemas.{IsDeclared}
use Rattle.fv_declare_judging.specs.Types.{types_declared}
use Rattle.fv_declare_judging.specs.FaultNames.{flatten_fault, message_fault}
use Rattle.fv_declare_judging.specs.Judging.{IsAnswerTo, AreRead, tree_faults, is_wordy}
use Rattle.fv_declare_judging.specs.LimitPlaces.{types_limit, first_limit, types_told}
use Rattle.fv_declare_judging.specs.Parts.{AreTypesOf}
use Rattle.fv_declare_judging.specs.Whereabouts.{IsAt, IsAtLimit}
use Rattle.fv_declare_judging.specs.WordingPlaces.{IsWordedAt, IsWordyAt}
use Rattle.fv_declare_judging.specs.declared.placed.At.TheVariants.{Constraints, Limit, Wording}
use Rattle.fv_declare_judging.specs.declared.placed.LimitAt.{LimitAt}
use Rattle.fv_declare_judging.specs.declared.placed.WordingAt.{WordingAt}
use Rattle.fv_declare_judging.proofs.Limits.{limit_large, limit_small}
use Rattle.fv_declare_draft.specs.AllUses.{DraftUse, uses_in}
use Rattle.fv_declare_judging.specs.Used.{used}
use Rattle.fv_declare_judging.specs.declared.fault.DeclFault.{DeclFault}
use Rattle.fv_declare_judging.specs.declared.fault.DeclFault.TheVariants.{EmptyConstraint, TooLarge}
use Rattle.fv_declare_judging.specs.Wording.{IsTooLarge, IsFirstFault}
use Rattle.fv_declare_judging.proofs.Answered.{AreUnique, untrue, of_draft, not_of_draft, of_trees, not_of_trees, told, read, right, declared, ill}
use Rattle.fv_declare_judging.proofs.Counts.{zip_long, zipped_long, same_count}

-- the trees of a draft's uses
abbrev pub Treed : Drafted → Type 0
Treed d = (ts : List (Tree Planned)) × AreTreesOfUses d.definitions (used_in d) ts

pub treed : (d : Drafted) (ds : Definitions) (us : List DraftUse) (ts : List (Tree Planned)) → ds ≡ d.definitions → us ≡ uses_in d.types → AreTreesOfUses ds (map used us) ts → AreTreesOfUses d.definitions (used_in d) ts
treed d ds us ts same uses is =
    subst (λ (es : Definitions). AreTreesOfUses es (used_in d) ts) same (subst (λ (ws : List DraftUse). AreTreesOfUses ds (map used ws) ts) uses is)

-- what definitions and uses are flattened to, where they are the draft's
pub moved : (k : Known) (d : Drafted) (ds : Definitions) (us : List flat.Use) (answer : Result (List (Tree Node)) FlattenFault) → ds ≡ d.definitions → us ≡ used_in d
    → FlattensAll k ds us answer → FlattensAll k d.definitions (used_in d) answer
moved k d ds us answer same uses is =
    subst (λ (es : Definitions). FlattensAll k es (used_in d) answer) same (subst (λ (ws : List flat.Use). FlattensAll k ds ws answer) uses is)

-- ---- the answers

-- a limit on messages is passed where it is told
wordy_large : (d : Drafted) (worded : Option MessageFault) → IsFirstFault d worded → is_wordy worded ≡ true → IsTooLarge d
wordy_large d None h e = cc
wordy_large d (Some message.TooLarge) h e = h
wordy_large d (Some message.MessageSyntax) h e = cc
wordy_large d (Some message.MessageCycle) h e = cc
wordy_large d (Some message.Memory) h e = cc

-- a limit is passed
abbrev pub IsLarge : Drafted → List (Tree Planned) → Type 0
IsLarge d ts = (too_large d ts ≡ true) ⊎ IsTooLarge d

-- what doesn't hold is false
not_true : (b : Bool) → (b ≡ true → ⊥) → b ≡ false
not_true true h = absurd (h refl)
not_true false h = refl

module _ (k : Known) (d : Drafted) (worded : Option MessageFault) (judged : IsFirstFault d worded) (unique : AreUnique) where
  -- an empty constraint is told
  pub empty : is_empty_in d.definitions ≡ true → IsAnswerTo k d tree_faults (Err EmptyConstraint)
  unfolding IsAnswerTo
  empty is = λ bytes of. inl (of_draft k bytes d of (λ e. is_empty_in e.definitions ≡ true) is, refl)

  module _ (full : is_empty_in d.definitions ≡ false) (c : Treed d) where
    no_empty : (bytes : List ℕ) → draft_in bytes ≡ Some d → OfDraft bytes (λ e. is_empty_in e.definitions ≡ true) → ⊥
    no_empty bytes of = not_of_draft k bytes d of (λ e. is_empty_in e.definitions ≡ true) (untrue (is_empty_in d.definitions) full)

    -- a limit that is passed is
    pub large : IsLarge d c.0 → IsAnswerTo k d tree_faults (Err TooLarge)
    unfolding IsAnswerTo
    large so = λ bytes of. inr (no_empty bytes of, inl (of_trees k bytes d of unique c.0 c.1 IsLarge so, refl))

    module _ (small : IsLarge d c.0 → ⊥) where
      few : nat_lt 1024 (count_nodes c.0) ≡ false
      unfolding too_large
      few = or_right (too_many (types_declared d) || has_many d) (nat_lt 1024 (count_nodes c.0)) (not_true (too_large d c.0) (λ is. small (inl is)))

      pub wordy : is_wordy worded ≡ false
      wordy = not_true (is_wordy worded) (λ is. small (inr (wordy_large d worded judged is)))

      -- what comes behind limits
      behind : (answer : Result Declarations DeclFault) → ((bytes : List ℕ) → draft_in bytes ≡ Some d → IsAnswer k bytes (drop 14 faults) answer) → IsAnswerTo k d tree_faults answer
      unfolding IsAnswerTo
      behind answer h = λ bytes of. inr (no_empty bytes of, inr (not_of_trees k bytes d of unique c.0 c.1 IsLarge small, h bytes of))

      -- what flattening refuses is told
      pub refused : (f : FlattenFault) → FlattensAll k d.definitions (used_in d) (Err f) → IsAnswerTo k d tree_faults (Err (flatten_fault f))
      refused f is = behind (Err (flatten_fault f)) (λ bytes of. told k bytes d of unique is.0 is.1 f is.2)

      module _ (os : List (Tree Node)) (is : FlattensAll k d.definitions (used_in d) (Ok os)) where
        all_read : AllZip (λ u o. IsReadTree u.0.place u.1 o) (zip (used_in d) is.0) os
        all_read = read k d is.0 os is.2

        each_tree : length is.0 ≡ length (used_in d)
        each_tree = zip_long _ (used_in d) is.0 is.1

        -- there is a tree for each use
        each : length os ≡ length (uses_in d.types)
        each = zipped_long (used_in d) is.0 os each_tree all_read ∙ length-map (uses_in d.types) used

        -- and the trees have no more than 1,024 nodes
        few_nodes : count_nodes os ≤ 1024
        few_nodes =
            let same : count_nodes os ≡ count_nodes is.0 = same_count (used_in d) is.0 os each_tree all_read in
            let trees : count_nodes is.0 ≡ count_nodes c.0 = ap count_nodes (sym (unique d.definitions (used_in d) c.0 is.0 c.1 is.1)) in
            let le : count_nodes c.0 ≤ 1024 = ltb-false 1024 (count_nodes c.0) few in
            omega arith

        -- what is declared by them is the answer, where nothing is wrong with the wording
        taken : worded ≡ None → (ds : Declarations) → ((ts : List (Tree Planned)) → AllZip (λ u o. IsReadTree u.0.place u.1 o) (zip (used_in d) ts) os → IsDeclared d ts ds) → IsAnswerTo k d tree_faults (Ok ds)
        taken well ds all =
            behind (Ok ds) (λ bytes of. right k bytes d of unique is.0 is.1 os is.2 (Ok ds)
            (declared k bytes d of unique is.0 is.1 (os, all_read) (subst (IsFirstFault d) well judged) ds (all is.0 all_read)))

        pub are_read : worded ≡ None → AllZip (λ u o. tree_fits k u.place o ≡ true) (used_in d) os → AreRead k d tree_faults os
        are_read well fit = record { each = each; few = few_nodes; fit = fit; declared = taken well }

        -- and else what is wrong with it
        pub misworded : (f : MessageFault) → worded ≡ Some f → IsAnswerTo k d tree_faults (Err (message_fault f))
        misworded f told =
            behind (Err (message_fault f)) (λ bytes of. right k bytes d of unique is.0 is.1 os is.2 (Err (message_fault f))
            (ill k bytes d of unique is.0 is.1 (os, all_read) f (subst (λ w. is_wordy w ≡ false) told wordy) (subst (IsFirstFault d) told judged)))

-- ---- the places

-- which limit of types is told is the draft's
types_same : (d : Drafted) (o : Result Types TypesAt) → AreTypesOf d o → types_told o ≡ types_limit (types_declared d)
types_same d (Ok types) is = rw is.0 refl
types_same d (Err at) is = rw (is.0, is.1) refl

types_some : (d : Drafted) (o : Result Types TypesAt) → AreTypesOf d o → is_some (types_told o) ≡ too_many (types_declared d)
types_some d (Ok types) is = sym is.0
types_some d (Err at) is = sym is.0

module _ (d : Drafted) (o : Result Types TypesAt) (types : AreTypesOf d o) (w : Option WordingAt) (wordy : IsWordyAt d w) (c : Treed d) (found : Option LimitAt) (is : found ≡ first_limit (types_told o) d w c.0) where
  here : found ≡ first_limit (types_limit (types_declared d)) d w c.0
  here = is ∙ ap (λ (t : Option TypesAt). first_limit t d w c.0) (types_same d o types)

  -- the limit that is told is passed, and stands where it is told
  pub limited : (at : LimitAt) → found ≡ Some at → IsLarge d c.0 × IsAtLimit d (Some (Limit at))
  limited at so = (limit_large d (types_told o) (types_some d o types) w wordy c.0 (sym (ap is_some is) ∙ ap is_some so), (c.0, c.1, (w, wordy, sym (ap (option_map Limit) so) ∙ ap (option_map Limit) here, refl)))

  -- where none is told none is passed
  pub not_limited : found ≡ None → IsLarge d c.0 → ⊥
  not_limited none = limit_small d (types_told o) (types_some d o types) w wordy c.0 (sym (ap is_some is) ∙ ap is_some none)

-- a fault that trees can have
abbrev IsOfTrees : FlattenFault → Type 0
IsOfTrees flattening.UnknownRule = Unit {0}
IsOfTrees flattening.Attribute = Unit {0}
IsOfTrees flattening.UnexpectedType = Unit {0}
IsOfTrees flattening.BadPattern = Unit {0}
IsOfTrees _ = ⊥

read_of_trees : (us : List flat.Use) (ts : List (Tree Planned)) (f : FlattenFault) → flat.AreRead us ts (Err f) → IsOfTrees f
read_of_trees us ts flattening.CyclicComposition h = h
read_of_trees us ts flattening.EmptyConstraint h = h
read_of_trees us ts flattening.TooLarge h = h
read_of_trees us ts flattening.UnknownRule h = tt
read_of_trees us ts flattening.Attribute h = tt
read_of_trees us ts flattening.UnexpectedType h = tt
read_of_trees us ts flattening.BadPattern h = tt
read_of_trees us ts flattening.Memory h = h

of_trees_if : (us : List flat.Use) (ts : List (Tree Planned)) (a b c : Bool) (f : FlattenFault)
    → flat.IsDecided (first ((a, flattening.UnknownRule) ∷ (b, flattening.Attribute) ∷ (c, flattening.UnexpectedType) ∷ [])) us ts (Err f) → IsOfTrees f
of_trees_if us ts true b c f h = let same : f ≡ flattening.UnknownRule = cc in subst IsOfTrees (sym same) tt
of_trees_if us ts false true c f h = let same : f ≡ flattening.Attribute = cc in subst IsOfTrees (sym same) tt
of_trees_if us ts false false true f h = let same : f ≡ flattening.UnexpectedType = cc in subst IsOfTrees (sym same) tt
of_trees_if us ts false false false f h = read_of_trees us ts f h

-- where flattening has a fault, the draft has it
pub placed_in_trees : (k : Known) (d : Drafted) (f : FlattenFault) (p : Option ConstraintAt) (is : FlattensAll k d.definitions (used_in d) (Err f)) → constraint.IsAt k d.definitions (used_in d) is.0 f p
    → IsAt k d (flatten_fault f) (option_map Constraints p)
placed_in_trees k d f p is h = go f (of_trees_if (used_in d) is.0 _ _ _ f is.2) h
  where
    go : (f : FlattenFault) → IsOfTrees f → constraint.IsAt k d.definitions (used_in d) is.0 f p → IsAt k d (flatten_fault f) (option_map Constraints p)
    go flattening.CyclicComposition never h = absurd never
    go flattening.EmptyConstraint never h = absurd never
    go flattening.TooLarge never h = absurd never
    go flattening.UnknownRule among h = (is.0, is.1, (p, h, refl))
    go flattening.Attribute among h = (is.0, is.1, (p, h, refl))
    go flattening.UnexpectedType among h = (is.0, is.1, (p, h, refl))
    go flattening.BadPattern among h = (is.0, is.1, (p, h, refl))
    go flattening.Memory never h = absurd never

pub placed_moved : (k : Known) (d : Drafted) (ds : Definitions) (us : List flat.Use) (f : FlattenFault) (p : Option ConstraintAt) → ds ≡ d.definitions → us ≡ used_in d
    → ((ts : List (Tree Planned)) → AreTreesOfUses ds us ts → constraint.IsAt k ds us ts f p) → (ts : List (Tree Planned)) → AreTreesOfUses d.definitions (used_in d) ts → constraint.IsAt k d.definitions (used_in d) ts f p
placed_moved k d ds us f p same uses all =
    subst (λ (es : Definitions). (ts : List (Tree Planned)) → AreTreesOfUses es (used_in d) ts → constraint.IsAt k es (used_in d) ts f p) same
    (subst (λ (ws : List flat.Use). (ts : List (Tree Planned)) → AreTreesOfUses ds ws ts → constraint.IsAt k ds ws ts f p) uses all)

-- where the wording has a fault that is no limit, the draft has it
pub placed_in_wording : (k : Known) (d : Drafted) (f : MessageFault) (w : Option WordingAt) → is_wordy (Some f) ≡ false → IsWordedAt d f w → IsAt k d (message_fault f) (option_map Wording w)
placed_in_wording k d message.TooLarge w small h = cc
placed_in_wording k d message.MessageSyntax w small h = (w, h, refl)
placed_in_wording k d message.MessageCycle w small h = ap (option_map Wording) h
placed_in_wording k d message.Memory w small h = ap (option_map Wording) h
