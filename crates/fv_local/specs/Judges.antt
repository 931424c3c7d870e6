-- What a judge asks and tells, for private clauses.
use Rattle.std.specs.Prelude.{◌≡◌, ◌<◌, ℕ, List, ◌++◌, All, map, length}
use Rattle.fv_declare_schema.specs.Declarations.{Placed}
use Rattle.fv_declare_schema.specs.PlacedView.{placed_view}
use Rattle.fv_declare_schema.specs.Places.{Place}
use Rattle.fv_constraint_tree.specs.Says.{Subject}
use Rattle.fv_datum.specs.Data.{Data}
use Rattle.fv_extract.specs.Parts.{Locus}
use Rattle.fv_extract.specs.Places as object
use Rattle.fv_bundle.specs.Bundles.{Thing}
use Rattle.fv_registry.specs.declared.rule_set.RuleSet.{Ghosts}
use Rattle.fv_local.specs.Told as told
use Rattle.fv_local.specs.Told.{Told, picked, told_view, CanBeAsked}
use Rattle.fv_local.specs.declared.failure.LocalFailure.{LocalFailure}
use Rattle.fv_local.specs.declared.judge.Judge.{Judge}

-- these are numbers of a list's entries
abbrev pub AreAmong : {A : Type 0} → List A → List ℕ → Type 0
AreAmong xs is = All (λ i. i < length xs) is

-- what is told of some failures is added to what was told before
abbrev pub Adds : List LocalFailure → List LocalFailure → List Told → Type 0
Adds before after added = map told_view after ≡ map told_view before ++ added

module _ {R : Type 0} {rules : Ghosts R} (judge : Judge R rules) where
  -- all uses, which a judge knows by their numbers
  abbrev pub all_uses : List Placed
  all_uses = map placed_view judge.occurrences.now

  -- those that it is to ask
  abbrev pub asked_uses : List Placed
  asked_uses = picked all_uses judge.asked.now

  -- it asks for uses by numbers that it knows
  abbrev pub AsksKnownUses : Type 0
  AsksKnownUses = AreAmong judge.occurrences.now judge.asked.now

  -- each use can be asked by its rules
  abbrev pub CanAsk : Type 0
  CanAsk = CanBeAsked (rules.known judge.rules.now.rules) all_uses

  -- the numbers of the nodes that are reported of a subject
  abbrev pub numbers_of : Subject → List ℕ
  numbers_of subject = told.numbers_of rules.meaning judge.moment subject asked_uses

  -- what is told of a part at a place
  abbrev pub part_told : object.FieldPlace → Locus × Data → List Told
  part_told place part = told.part_told rules.meaning judge.moment asked_uses place part

  -- what is told of the parts of an object at a place
  abbrev pub field_told : Thing → object.FieldPlace → List Told
  field_told thing place = told.field_told rules.meaning judge.moment asked_uses thing place

  -- what is told of an object itself
  abbrev pub object_told : Thing → List Told
  object_told thing = told.object_told rules.meaning judge.moment asked_uses thing

  -- what is told of what stands at a place of an object
  abbrev pub told_at : Thing → Place → List Told
  told_at thing place = told.told_at rules.meaning judge.moment asked_uses thing place
