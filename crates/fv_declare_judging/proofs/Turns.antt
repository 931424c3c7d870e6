-- The answer by the faults that come later is that by those before them too, where none of these holds.
use Rattle.std.proofs.Common.{◌≡◌, ◌≢◌, inl, inr, List, [], ◌∷◌, drop, Bool, true, false, Option, Some, None, Result, Ok, Err, refl, sym, ap, subst, ◌∙◌}
use Rattle.std.specs.Prelude.{ℕ, option_and_then}
use Rattle.std.specs.Option.{ok_or}
use Rattle.serde_json.specs.Data as json
use Rattle.fv_constraint.specs.Composed.{ComposesItself}
use Rattle.fv_constraint_tree.specs.Nodes.{Node}
use Rattle.fv_constraint_tree.specs.Trees.{Tree}
use Rattle.fv_datum.specs.Outcomes.{first}
use Rattle.fv_datum.specs.Parsing.{json_of}
use Rattle.fv_declare_draft.specs.Drafts.{Drafted, draft_of}
use Rattle.fv_declare_groups.specs.First.{IsFirst}
use Rattle.fv_declare_groups.specs.Grouping as grouping
use Rattle.fv_declare_groups.specs.Grouping.{grouping_faults}
use Rattle.fv_declare_groups.specs.declared.fault.GroupingFault.{GroupingFault}
use Rattle.fv_declare_schema.specs.Declarations.{Declarations}
use Rattle.fv_registry.specs.Rules.{Known}
use Rattle.fv_declare_judging.specs.Conditions.{unknown_name}
use Rattle.fv_declare_judging.specs.Declares.{draft_in, OfDraft, faults, IsAnswer, Declares}
use Rattle.fv_declare_judging.specs.FaultNames.{grouping_fault}
use Rattle.fv_declare_judging.specs.Judging.{IsAnswerTo, AreRead, DeclaredBy, draft_faults, composition_faults, tree_faults, name_conditions}
use Rattle.fv_declare_judging.specs.Naming.{bad_name}
use Rattle.fv_declare_judging.specs.Whereabouts.{IsAt, IsNameAt, IsPlaced, PlacedIn}
use Rattle.fv_declare_judging.specs.declared.fault.DeclFault.{DeclFault}
use Rattle.fv_declare_judging.specs.declared.fault.DeclFault.TheVariants.{NotJson, Shape, BadName, UnknownName, UnknownGroup, CyclicInheritance, CyclicSequence, SequenceMisused, SequenceLacksType, DefaultInTypeSequence, ConversionMisplaced, CyclicComposition, EmptyConstraint, TooLarge, UnknownRule, Attribute, UnexpectedType, BadPattern, MessageSyntax, MessageCycle, Memory}
use Rattle.fv_declare_judging.specs.declared.placed.At.{At}
use Rattle.fv_declare_judging.proofs.Answered.{untrue, of_draft, not_of_draft, grouped, passed}

module _ (k : Known) (d : Drafted) where
  -- ---- composition

  -- a constraint that is composed of itself is told
  pub cyclic : ComposesItself d.definitions → IsAnswerTo k d composition_faults (Err CyclicComposition)
  unfolding IsAnswerTo
  cyclic h = λ bytes is. inl (of_draft k bytes d is (λ e. ComposesItself e.definitions) h, refl)

  pub acyclic : (ComposesItself d.definitions → ⊥) → (answer : Result Declarations DeclFault) → IsAnswerTo k d tree_faults answer → IsAnswerTo k d composition_faults answer
  unfolding IsAnswerTo
  acyclic never answer h = λ bytes is. inr (not_of_draft k bytes d is (λ e. ComposesItself e.definitions) never, h bytes is)

  pub acyclic_read : (ComposesItself d.definitions → ⊥) → (os : List (Tree Node)) → AreRead k d tree_faults os → AreRead k d composition_faults os
  acyclic_read never os r = record { each = r.each; few = r.few; fit = r.fit; declared = λ ds h. acyclic never (Ok ds) (r.declared ds h) }

  -- ---- names and groups

  no_bad : bad_name d ≡ false → (bytes : List ℕ) → draft_in bytes ≡ Some d → (rest : List DeclFault) (answer : Result Declarations DeclFault) → IsAnswer k bytes rest answer → IsAnswer k bytes (BadName ∷ rest) answer
  no_bad good bytes is rest answer h = inr (not_of_draft k bytes d is (λ e. bad_name e ≡ true) (untrue (bad_name d) good), h)

  no_unknown : unknown_name d ≡ false → (bytes : List ℕ) → draft_in bytes ≡ Some d → (rest : List DeclFault) (answer : Result Declarations DeclFault) → IsAnswer k bytes rest answer → IsAnswer k bytes (UnknownName ∷ rest) answer
  no_unknown good bytes is rest answer h = inr (not_of_draft k bytes d is (λ e. unknown_name e ≡ true) (untrue (unknown_name d) good), h)

  unnamed_if : (a b : Bool) → bad_name d ≡ a → unknown_name d ≡ b → (f : DeclFault) → first ((a, BadName) ∷ (b, UnknownName) ∷ []) ≡ Some f → (bytes : List ℕ) → draft_in bytes ≡ Some d → IsAnswer k bytes draft_faults (Err f)
  unnamed_if true b bad unknown f told bytes is =
      let same : f ≡ BadName = cc in inl (of_draft k bytes d is (λ e. bad_name e ≡ true) bad, ap (λ e. Err e) same)
  unnamed_if false true bad unknown f told bytes is =
      let same : f ≡ UnknownName = cc in
      no_bad bad bytes is (drop 3 faults) (Err f) (inl (of_draft k bytes d is (λ e. unknown_name e ≡ true) unknown, ap (λ e. Err e) same))
  unnamed_if false false bad unknown f told bytes is = cc

  -- the first fault of names is told
  pub unnamed : (f : DeclFault) → first (name_conditions d) ≡ Some f → IsAnswerTo k d draft_faults (Err f)
  unfolding IsAnswerTo
  unnamed f told = unnamed_if _ _ refl refl f told

  named_if : (a b : Bool) → bad_name d ≡ a → unknown_name d ≡ b → first ((a, BadName) ∷ (b, UnknownName) ∷ []) ≡ None → (bytes : List ℕ) → draft_in bytes ≡ Some d
      → (answer : Result Declarations DeclFault) → IsAnswer k bytes (drop 4 faults) answer → IsAnswer k bytes draft_faults answer
  named_if true b bad unknown none bytes is answer h = cc
  named_if false true bad unknown none bytes is answer h = cc
  named_if false false bad unknown none bytes is answer h = no_bad bad bytes is (drop 3 faults) answer (no_unknown unknown bytes is (drop 4 faults) answer h)

  -- the first fault of groups is
  pub ungrouped : first (name_conditions d) ≡ None → (f : GroupingFault) → IsFirst (grouping.Holds d) grouping_faults (Some f) → IsAnswerTo k d draft_faults (Err (grouping_fault f))
  unfolding IsAnswerTo
  ungrouped none f h = λ bytes is. named_if _ _ refl refl none bytes is (Err (grouping_fault f)) (grouped k bytes d is grouping_faults f composition_faults h)

  -- and where there is none, what comes after them
  pub composed : first (name_conditions d) ≡ None → IsFirst (grouping.Holds d) grouping_faults None → (answer : Result Declarations DeclFault) → IsAnswerTo k d composition_faults answer → IsAnswerTo k d draft_faults answer
  unfolding IsAnswerTo
  composed none h answer told = λ bytes is. named_if _ _ refl refl none bytes is answer (passed k bytes d is grouping_faults composition_faults answer h (told bytes is))

-- ---- texts

module _ (k : Known) (j : json.Data) where
  drafted : (bytes : List ℕ) → json_of bytes ≡ Some j → draft_in bytes ≡ draft_of j
  drafted bytes is = ap (option_and_then draft_of) is

  is_json : (bytes : List ℕ) → json_of bytes ≡ Some j → json_of bytes ≢ None
  is_json bytes is none = cc

  -- what is no draft is told
  pub shapeless : draft_of j ≡ None → DeclaredBy k j (Err Shape)
  unfolding DeclaredBy Declares
  shapeless none = λ bytes is. inr (is_json bytes is, inl (drafted bytes is ∙ none, refl))

  no_shape : (d : Drafted) → draft_of j ≡ Some d → (bytes : List ℕ) → json_of bytes ≡ Some j → draft_in bytes ≢ None
  no_shape d there bytes is none = let same : draft_in bytes ≡ Some d = drafted bytes is ∙ there in cc

  pub shaped : (d : Drafted) → draft_of j ≡ Some d → (answer : Result Declarations DeclFault) → IsAnswerTo k d draft_faults answer → DeclaredBy k j answer
  unfolding IsAnswerTo DeclaredBy Declares
  shaped d there answer told = λ bytes is. inr (is_json bytes is, inr (no_shape d there bytes is, told bytes (drafted bytes is ∙ there)))

module _ (k : Known) (bytes : List ℕ) where
  no_json : (o : Option json.Data) (f : DeclFault) → ok_or o NotJson ≡ Err f → (o ≡ None) × (f ≡ NotJson)
  no_json None f e = let same : f ≡ NotJson = cc in (refl, same)
  no_json (Some j) f e = cc

  -- what is no JSON is told
  pub unread : (f : DeclFault) → ok_or (json_of bytes) NotJson ≡ Err f → Declares k bytes (Err f)
  unfolding Declares
  unread f e = let h = no_json (json_of bytes) f e in inl (h.0, ap (λ g. Err g) h.1)

  -- and has no place
  pub unread_placed : (f : DeclFault) → ok_or (json_of bytes) NotJson ≡ Err f → IsPlaced k bytes f None
  unread_placed f e = subst (λ (g : DeclFault). IsPlaced k bytes g None) (sym (no_json (json_of bytes) f e).1) refl

  pub declared_by : (j : json.Data) → json_of bytes ≡ Some j → (answer : Result Declarations DeclFault) → DeclaredBy k j answer → Declares k bytes answer
  unfolding DeclaredBy
  declared_by j is answer told = told bytes is

-- where the draft of a JSON value has a fault, that of a text which is the value has it
pub placed_by : (k : Known) (bytes : List ℕ) (j : json.Data) → json_of bytes ≡ Some j → (fault : DeclFault) (at : Option At) → PlacedIn k j fault at → IsPlaced k bytes fault at
placed_by k bytes j read fault at (inl h) = subst (λ (f : DeclFault). IsPlaced k bytes f at) (sym h.0) h.1
placed_by k bytes j read fault at (inr placed) = go fault (placed.0, ap (option_and_then draft_of) read ∙ placed.1, placed.2)
  where
    go : (f : DeclFault) → OfDraft bytes (λ d. IsAt k d f at) → IsPlaced k bytes f at
    go NotJson h = h.2
    go Shape h = h.2
    go BadName h = h
    go UnknownName h = h
    go UnknownGroup h = h
    go CyclicInheritance h = h
    go CyclicSequence h = h
    go SequenceMisused h = h
    go SequenceLacksType h = h
    go DefaultInTypeSequence h = h
    go ConversionMisplaced h = h
    go CyclicComposition h = h
    go EmptyConstraint h = h
    go TooLarge h = h
    go UnknownRule h = h
    go Attribute h = h
    go UnexpectedType h = h
    go BadPattern h = h
    go MessageSyntax h = h
    go MessageCycle h = h
    go Memory h = h

-- where a fault of names is, the draft has it
pub name_placed : (k : Known) (d : Drafted) (f : DeclFault) (at : Option At) → IsNameAt d f at → IsAt k d f at
name_placed k d NotJson at h = absurd h
name_placed k d Shape at h = absurd h
name_placed k d BadName at h = h
name_placed k d UnknownName at h = h
name_placed k d UnknownGroup at h = absurd h
name_placed k d CyclicInheritance at h = absurd h
name_placed k d CyclicSequence at h = absurd h
name_placed k d SequenceMisused at h = absurd h
name_placed k d SequenceLacksType at h = absurd h
name_placed k d DefaultInTypeSequence at h = absurd h
name_placed k d ConversionMisplaced at h = absurd h
name_placed k d CyclicComposition at h = absurd h
name_placed k d EmptyConstraint at h = absurd h
name_placed k d TooLarge at h = absurd h
name_placed k d UnknownRule at h = absurd h
name_placed k d Attribute at h = absurd h
name_placed k d UnexpectedType at h = absurd h
name_placed k d BadPattern at h = absurd h
name_placed k d MessageSyntax at h = absurd h
name_placed k d MessageCycle at h = absurd h
name_placed k d Memory at h = absurd h
