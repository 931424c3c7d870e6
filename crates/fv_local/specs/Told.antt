-- What is told of uses at one place of an object, for private clauses: failures, each with its datum.
use Rattle.std.specs.Prelude.{◌≡◌, ◌<◌, ◌≤◌, ℕ, ℤ, ◌+◌, List, [], ◌∷◌, map, true, Some, filter_map, slice_get}
use Rattle.std.specs.List.{AllByRecursion, flat_map}
use mathlib.Core.Logic.{◌⊎◌}
use Rattle.fv_datum.specs.Data.{Data, null}
use Rattle.fv_datum.specs.View.{view}
use Rattle.fv_declare_schema.specs.Declarations.{Placed, Declarations}
use Rattle.fv_declare_schema.specs.Fits.{placed_fits}
use Rattle.fv_extract.specs.Parts.{Locus, parts_at}
use Rattle.fv_extract.specs.Places as object
use Rattle.fv_graph.specs.Graph.{IsIn}
use Rattle.fv_bundle.specs.Bundles.{Thing}
use Rattle.fv_constraint_tree.specs.Reports.{violated}
use Rattle.fv_constraint_tree.specs.Says.{Subject, of_datum, of_object}
use Rattle.fv_constraint_tree.specs.Trees.{size}
use Rattle.fv_local.specs.Reached.{ranks_of, AreOfRanks}
use Rattle.fv_registry.specs.Meanings.{Meanings}
use Rattle.fv_registry.specs.Rules.{Known}
use Rattle.fv_walk_traces.specs.Turns as turn
use Rattle.fv_declare_schema.specs.Places.{Place, whole, field}
use Rattle.fv_local.specs.FailureView.{failure_view}
use Rattle.fv_local.specs.declared.failure.LocalFailure as code
use Rattle.fv_local.specs.declared.failure.Spot as code_spot
use Rattle.fv_local.specs.declared.failure.Spot.TheVariants as spot

-- a failure with the datum of its part; null with one at the object itself
abbrev pub Told : Type 0
Told = turn.LocalFailure × Data

-- the datum of a part
abbrev pub datum_of : code_spot.Spot → Data
datum_of spot.Object = null
datum_of (spot.Part place locus datum) = view datum.now

-- a failure with its datum
abbrev pub told_view : code.LocalFailure → Told
told_view f = (failure_view f, datum_of f.spot)

-- the uses of these numbers among all
abbrev pub picked : List Placed → List ℕ → List Placed
picked us is = filter_map (slice_get us) is

-- the numbers of the nodes that uses report of a subject
abbrev pub numbers_of : Meanings → ℤ → Subject → List Placed → List ℕ
numbers_of m now s us = flat_map (λ u. map (λ n. n.0) (violated m now s u.number u.tree)) us

-- the failure of a node at a part, with its datum
abbrev pub told_part : object.FieldPlace → Locus × Data → ℕ → Told
told_part place p n = (record { spot = turn.at place p.0; node = n }, p.1)

-- those of nodes
abbrev pub told_of_numbers : object.FieldPlace → Locus × Data → List ℕ → List Told
told_of_numbers place p ns = map (told_part place p) ns

-- what uses tell of a part at a place
abbrev pub part_told : Meanings → ℤ → List Placed → object.FieldPlace → Locus × Data → List Told
part_told m now us place p = told_of_numbers place p (numbers_of m now (of_datum p.1) us)

-- what they tell of the parts at a place
abbrev pub field_told : Meanings → ℤ → List Placed → Thing → object.FieldPlace → List Told
field_told m now us object place = flat_map (part_told m now us place) (parts_at object place)

-- the failure of a node at the object itself
abbrev pub told_whole : ℕ → Told
told_whole n = (record { spot = turn.of_object; node = n }, null)

-- what they tell of the object itself
abbrev pub object_told : Meanings → ℤ → List Placed → Thing → List Told
object_told m now us object = map told_whole (numbers_of m now (of_object object) us)

-- what they tell of what stands at a place
abbrev pub told_at : Meanings → ℤ → List Placed → Thing → Place → List Told
told_at m now us object whole = object_told m now us object
told_at m now us object (field number steps kind) = field_told m now us object (record { field = number; steps = steps })

-- what a use tells of an object
abbrev pub told_by : Meanings → ℤ → Thing → Placed → List Told
told_by m now object u = told_at m now (u ∷ []) object u.place

-- what is told of the uses of these numbers
abbrev pub IsTold : Meanings → ℤ → Thing → List Placed → List ℕ → Told → Type 0
IsTold m now object us is x = (i : ℕ) × (u : Placed) × IsIn is i × (slice_get us i ≡ Some u) × IsIn (told_by m now object u) x

-- what is told of the first of these lists of uses of which something is
abbrev pub IsToldFirst : Meanings → ℤ → Thing → List Placed → List (List ℕ) → Told → Type 0
IsToldFirst m now object us lists x =
    (k : ℕ) × (is : List ℕ) × (slice_get lists k ≡ Some is) × IsTold m now object us is x
    × ((j : ℕ) (before : List ℕ) (y : Told) → j < k → slice_get lists j ≡ Some before → IsTold m now object us before y → ⊥)

-- what is told of uses, and what is told of the first of some lists of uses of which something is
abbrev pub IsToldIn : Meanings → ℤ → Thing → List Placed → List ℕ → List (List ℕ) → Told → Type 0
IsToldIn m now object us is lists x = IsTold m now object us is x ⊎ IsToldFirst m now object us lists x

-- the uses that each rank of a type's sequence reaches, where `Default` is among these groups; none where it isn't, or the type has no
-- sequence
abbrev pub AreRanksIn : Declarations → ℕ → List ℕ → List (List ℕ) → Type 0
AreRanksIn ds type hs lists =
    ((ranks : List ℕ) × (ranks_of ds type ≡ Some ranks) × IsIn hs 0 × AreOfRanks ds type ranks lists)
    ⊎ ((lists ≡ []) × ((ranks : List ℕ) → ranks_of ds type ≡ Some ranks → IsIn hs 0 → ⊥))

-- uses can be asked: their rules are there, and their numbers are few
pub record CanBeAsked (k : Known) (us : List Placed) : Type 0 where
  pub fit : AllByRecursion (λ u. placed_fits k u ≡ true) us
  pub few : AllByRecursion (λ u. u.number + size u.tree ≤ 1024) us

-- two places are one but for the kinds of what stands there
abbrev pub IsSamePlace : Place → Place → Type 0
IsSamePlace whole whole = Unit {0}
IsSamePlace (field n steps kind) (field o others other) = (n ≡ o) × (steps ≡ others)
IsSamePlace _ _ = ⊥

-- the uses of these numbers stand at one place
abbrev pub AreRun : List Placed → List ℕ → Type 0
AreRun us is =
    (place : Place) × AllByRecursion (λ u. IsSamePlace u.place place) (picked us is)
    × ((i : ℕ) (u : Placed) → slice_get is 0 ≡ Some i → slice_get us i ≡ Some u → u.place ≡ place)
