-- The answer to a text that is read as a draft, fault by fault.
use Rattle.std.proofs.Common.{◌≡◌, inl, inr, List, [], ◌∷◌, ◌++◌, map, drop, zip, Bool, true, false, Option, Some, None, Result, Ok, Err, refl, sym, ap, subst, ◌∙◌, true≢false}
use Rattle.std.specs.List.{AllZip}
use Rattle.std.specs.Prelude.{ℕ}
use Rattle.fv_constraint.specs.Composed.{Planned}
use Rattle.fv_flatten.specs.Flattening.{AreTreesOfUses, bad_attribute, unexpected_type}
use Rattle.fv_constraint.specs.Refusals.{unknown_rule}
use Rattle.fv_flatten.specs.Flattening as flat
use Rattle.fv_flatten.specs.Read.{IsReadTree}
use Rattle.fv_flatten.specs.declared.fault.FlattenFault.{FlattenFault}
use Rattle.fv_flatten.specs.declared.fault.FlattenFault.TheVariants as fault
use Rattle.fv_constraint_tree.specs.Nodes.{Node}
use Rattle.fv_constraint_tree.specs.Trees.{Tree}
use Rattle.fv_datum.specs.Outcomes.{first}
use Rattle.fv_declare_definition.specs.Definitions.{Definitions}
use Rattle.fv_declare_draft.specs.Drafts.{Drafted}
use Rattle.fv_declare_groups.specs.First.{IsFirst}
use Rattle.fv_declare_groups.specs.Grouping as grouping
use Rattle.fv_declare_groups.specs.declared.fault.GroupingFault.{GroupingFault}
use Rattle.fv_declare_groups.specs.declared.fault.GroupingFault.TheVariants as group
use Rattle.fv_declare_schema.specs.Declarations.{Declarations}
use Rattle.fv_message.specs.Judged.{IsCircular}
use Rattle.fv_message.specs.Table.{all_messages}
use Rattle.fv_message.specs.declared.fault.MessageFault.{MessageFault}
use Rattle.fv_message.specs.declared.fault.MessageFault.TheVariants as message
use Rattle.fv_registry.specs.Rules.{Known}
use Rattle.fv_declare_judging.specs.Conditions.{used_in, AreBuilt}
use Rattle.fv_declare_judging.specs.Declares.{draft_in, OfDraft, OfTrees, Holds, Fails, faults, IsAnswer}
use Rattle.fv_declare_judging.specs.FaultNames.{grouping_fault, flatten_fault, message_fault}
use Rattle.fv_declare_judging.specs.Judging.{is_wordy}
use Rattle.fv_declare_judging.specs.Schemas.{IsDeclared}
use Rattle.fv_declare_judging.specs.Wording.{IsIllWritten, IsFirstFault}
use Rattle.fv_declare_judging.specs.declared.fault.DeclFault.{DeclFault}

-- uses have one list of trees alone
abbrev pub AreUnique : Type 0
AreUnique = (ds : Definitions) (us : List flat.Use) (ts others : List (Tree Planned)) → AreTreesOfUses ds us ts → AreTreesOfUses ds us others → ts ≡ others

-- what can be wrong with trees but for patterns
abbrev tree_fault : Bool → Bool → Bool → Option FlattenFault
tree_fault a b c = first ((a, fault.UnknownRule) ∷ (b, fault.Attribute) ∷ (c, fault.UnexpectedType) ∷ [])

read_if : (us : List flat.Use) (ts : List (Tree Planned)) (a b c : Bool) (os : List (Tree Node)) → flat.IsDecided (tree_fault a b c) us ts (Ok os) → AllZip (λ u o. IsReadTree u.0.place u.1 o) (zip us ts) os
read_if us ts true b c os told = cc
read_if us ts false true c os told = cc
read_if us ts false false true os told = cc
read_if us ts false false false os told = told

-- what is flattened is read
pub read : (k : Known) (d : Drafted) (ts : List (Tree Planned)) (os : List (Tree Node)) → flat.IsDecided (first (flat.tree_conditions k d.definitions (used_in d) ts)) (used_in d) ts (Ok os)
    → AllZip (λ u o. IsReadTree u.0.place u.1 o) (zip (used_in d) ts) os
read k d ts os told = read_if (used_in d) ts _ _ _ os told

-- what is false isn't true
pub untrue : (b : Bool) → b ≡ false → b ≡ true → ⊥
untrue b is e = true≢false (sym e ∙ is)

module _ (k : Known) (bytes : List ℕ) (d : Drafted) (is : draft_in bytes ≡ Some d) where
  pub of_draft : (P : Drafted → Type 0) → P d → OfDraft bytes P
  of_draft P p = (d, is, p)

  -- what isn't so of the draft isn't so of the text's
  pub not_of_draft : (P : Drafted → Type 0) → (P d → ⊥) → OfDraft bytes P → ⊥
  not_of_draft P never h = let same : h.0 ≡ d = cc (h.1, is) in never (subst P same h.2)

  -- ---- by the faults of groups

  held : (f : GroupingFault) → grouping.Holds d f → Holds k bytes (grouping_fault f)
  held group.UnknownGroup h = (d, is, h)
  held group.CyclicInheritance h = (d, is, h)
  held group.CyclicSequence h = (d, is, h)
  held group.SequenceMisused h = (d, is, h)
  held group.SequenceLacksType h = (d, is, h)
  held group.DefaultInTypeSequence h = (d, is, h)
  held group.ConversionMisplaced h = (d, is, h)
  held group.Memory h = absurd h

  failed : (f : GroupingFault) → (grouping.Holds d f → ⊥) → Fails k bytes (grouping_fault f)
  failed group.UnknownGroup never = not_of_draft (λ e. grouping.Holds e group.UnknownGroup) never
  failed group.CyclicInheritance never = not_of_draft (λ e. grouping.Holds e group.CyclicInheritance) never
  failed group.CyclicSequence never = not_of_draft (λ e. grouping.Holds e group.CyclicSequence) never
  failed group.SequenceMisused never = not_of_draft (λ e. grouping.Holds e group.SequenceMisused) never
  failed group.SequenceLacksType never = not_of_draft (λ e. grouping.Holds e group.SequenceLacksType) never
  failed group.DefaultInTypeSequence never = not_of_draft (λ e. grouping.Holds e group.DefaultInTypeSequence) never
  failed group.ConversionMisplaced never = not_of_draft (λ e. grouping.Holds e group.ConversionMisplaced) never
  failed group.Memory never = λ h. h

  -- the first fault of groups is told
  pub grouped : (fs : List GroupingFault) (f : GroupingFault) (rest : List DeclFault) → IsFirst (grouping.Holds d) fs (Some f) → IsAnswer k bytes (map grouping_fault fs ++ rest) (Err (grouping_fault f))
  grouped [] f rest h = cc
  grouped (g ∷ gs) f rest (inl h) = let same : f ≡ g = cc (h.1) in inl (held g h.0, ap (λ e. Err (grouping_fault e)) same)
  grouped (g ∷ gs) f rest (inr h) = inr (failed g h.0, grouped gs f rest h.1)

  -- and where there is none, what comes after them
  pub passed : (fs : List GroupingFault) (rest : List DeclFault) (answer : Result Declarations DeclFault) → IsFirst (grouping.Holds d) fs None → IsAnswer k bytes rest answer → IsAnswer k bytes (map grouping_fault fs ++ rest) answer
  passed [] rest answer h told = told
  passed (g ∷ gs) rest answer (inl h) told = cc (h.1)
  passed (g ∷ gs) rest answer (inr h) told = inr (failed g h.0, passed gs rest answer h.1 told)

  -- ---- by the trees of the uses

  module _ (unique : AreUnique) (ts : List (Tree Planned)) (trees : AreTreesOfUses d.definitions (used_in d) ts) where
    pub of_trees : (P : Drafted → List (Tree Planned) → Type 0) → P d ts → OfTrees bytes P
    of_trees P p = (d, is, (ts, trees, p))

    -- what isn't so of the draft and the trees isn't so of the text's
    pub not_of_trees : (P : Drafted → List (Tree Planned) → Type 0) → (P d ts → ⊥) → OfTrees bytes P → ⊥
    not_of_trees P never =
        not_of_draft (λ e. (us : List (Tree Planned)) × AreTreesOfUses e.definitions (used_in e) us × P e us)
        (λ h. never (subst (P d) (unique d.definitions (used_in d) h.0 ts h.1 trees) h.2))

    -- a pattern that isn't built is told
    unbuilt : (f : FlattenFault) → flat.AreRead (used_in d) ts (Err f) → IsAnswer k bytes (drop 17 faults) (Err (flatten_fault f))
    unbuilt fault.CyclicComposition read = absurd read
    unbuilt fault.EmptyConstraint read = absurd read
    unbuilt fault.TooLarge read = absurd read
    unbuilt fault.UnknownRule read = absurd read
    unbuilt fault.Attribute read = absurd read
    unbuilt fault.UnexpectedType read = absurd read
    unbuilt fault.BadPattern read = inl (of_trees (λ e us. flat.HasBadPattern (used_in e) us) read, refl)
    unbuilt fault.Memory read = absurd read

    module _ (a b c : Bool) (rules : unknown_rule k d.definitions ≡ a) (attributes : bad_attribute d.definitions ts ≡ b) (types : unexpected_type k (used_in d) ts ≡ c) where
      no_rule : a ≡ false → OfDraft bytes (λ e. unknown_rule k e.definitions ≡ true) → ⊥
      no_rule so = not_of_draft (λ e. unknown_rule k e.definitions ≡ true) (untrue (unknown_rule k d.definitions) (rules ∙ so))

      no_attribute : b ≡ false → OfTrees bytes (λ e us. bad_attribute e.definitions us ≡ true) → ⊥
      no_attribute so = not_of_trees (λ e us. bad_attribute e.definitions us ≡ true) (untrue (bad_attribute d.definitions ts) (attributes ∙ so))

      no_type : c ≡ false → OfTrees bytes (λ e us. unexpected_type k (used_in e) us ≡ true) → ⊥
      no_type so = not_of_trees (λ e us. unexpected_type k (used_in e) us ≡ true) (untrue (unexpected_type k (used_in d) ts) (types ∙ so))

    told_if : (a b c : Bool) → unknown_rule k d.definitions ≡ a → bad_attribute d.definitions ts ≡ b → unexpected_type k (used_in d) ts ≡ c
        → (f : FlattenFault) → flat.IsDecided (tree_fault a b c) (used_in d) ts (Err f) → IsAnswer k bytes (drop 14 faults) (Err (flatten_fault f))
    told_if true b c rules attributes types f told =
        let same : f ≡ fault.UnknownRule = cc in
        inl (of_draft (λ e. unknown_rule k e.definitions ≡ true) rules, ap (λ g. Err (flatten_fault g)) same)
    told_if false true c rules attributes types f told =
        let same : f ≡ fault.Attribute = cc in
        inr (no_rule false true c rules attributes types refl, inl (of_trees (λ e us. bad_attribute e.definitions us ≡ true) attributes, ap (λ g. Err (flatten_fault g)) same))
    told_if false false true rules attributes types f told =
        let same : f ≡ fault.UnexpectedType = cc in
        inr (
          no_rule false false true rules attributes types refl,
          inr (
            no_attribute false false true rules attributes types refl,
            inl (of_trees (λ e us. unexpected_type k (used_in e) us ≡ true) types, ap (λ g. Err (flatten_fault g)) same),
          ),
        )
    told_if false false false rules attributes types f told =
        inr (
          no_rule false false false rules attributes types refl,
          inr (
            no_attribute false false false rules attributes types refl,
            inr (no_type false false false rules attributes types refl, unbuilt f told),
          ),
        )

    -- what flattening refuses is told
    pub told : (f : FlattenFault) → flat.IsDecided (first (flat.tree_conditions k d.definitions (used_in d) ts)) (used_in d) ts (Err f) → IsAnswer k bytes (drop 14 faults) (Err (flatten_fault f))
    told f decided = told_if _ _ _ refl refl refl f decided

    right_if : (a b c : Bool) → unknown_rule k d.definitions ≡ a → bad_attribute d.definitions ts ≡ b → unexpected_type k (used_in d) ts ≡ c
        → (os : List (Tree Node)) → flat.IsDecided (tree_fault a b c) (used_in d) ts (Ok os) → (answer : Result Declarations DeclFault) → IsAnswer k bytes (drop 17 faults) answer → IsAnswer k bytes (drop 14 faults) answer
    right_if true b c rules attributes types os told answer h = cc
    right_if false true c rules attributes types os told answer h = cc
    right_if false false true rules attributes types os told answer h = cc
    right_if false false false rules attributes types os told answer h =
        inr (
          no_rule false false false rules attributes types refl,
          inr (
            no_attribute false false false rules attributes types refl,
            inr (no_type false false false rules attributes types refl, h),
          ),
        )

    -- where all is flattened, what comes after it
    pub right : (os : List (Tree Node)) → flat.IsDecided (first (flat.tree_conditions k d.definitions (used_in d) ts)) (used_in d) ts (Ok os)
        → (answer : Result Declarations DeclFault) → IsAnswer k bytes (drop 17 faults) answer → IsAnswer k bytes (drop 14 faults) answer
    right os told answer h = right_if _ _ _ refl refl refl os told answer h

    -- ---- by the wording, where every pattern is built

    module _ (built : AreBuilt d ts) where
      -- what is declared is the answer, where nothing is wrong with the wording
      pub declared : IsFirstFault d None → (ds : Declarations) → IsDeclared d ts ds → IsAnswer k bytes (drop 17 faults) (Ok ds)
      declared well ds h =
          inr (
            of_trees AreBuilt built,
            inr (
              not_of_draft IsIllWritten well.1,
              inr (
                not_of_draft (λ e. IsCircular (all_messages e.messages)) well.2,
                of_trees (λ e us. IsDeclared e us ds) h,
              ),
            ),
          )

      -- and else what is wrong with it, but for limits
      pub ill : (f : MessageFault) → is_wordy (Some f) ≡ false → IsFirstFault d (Some f) → IsAnswer k bytes (drop 17 faults) (Err (message_fault f))
      ill message.TooLarge wordy h = cc
      ill message.MessageSyntax wordy h = inr (of_trees AreBuilt built, inl (of_draft IsIllWritten h.1, refl))
      ill message.MessageCycle wordy h =
          inr (of_trees AreBuilt built, inr (not_of_draft IsIllWritten h.1, inl (of_draft (λ e. IsCircular (all_messages e.messages)) h.2, refl)))
      ill message.Memory wordy h = absurd h
