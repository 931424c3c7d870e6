-- The request that judges a bundle is tidy: nothing stands twice in it.
use Rattle.std.proofs.Common.{◌≡◌, ◌≢◌, ℕ, zero, suc, ℤ, List, [], ◌∷◌, length, map, Bool, true, false, cond, nat_eq, Option, Some, None, refl, sym, subst}
use Rattle.std.specs.Option.{option_map_or}
use Rattle.std.specs.List.{AllByRecursion}
use Rattle.fv_datum.specs.Data.{Data}
use Rattle.fv_declare_schema.specs.Declarations.{Declarations}
use Rattle.fv_declare_schema.specs.Ordered.{AreOrdered}
use Rattle.fv_extract.specs.Pairs.{Pairwise, Differ}
use Rattle.fv_extract.specs.Parts.{Locus, parts_at}
use Rattle.fv_extract.specs.Places as at
use Rattle.fv_graph.specs.Graph.{AllDiffer}
use Rattle.fv_graph.specs.Recursion.{value_in}
use Rattle.fv_declare_schema.specs.Groups.{Groups, is_sequence, member_next, ranked, ranks}
use Rattle.fv_local.specs.Failures.{standing_at, failures_of, failures_in}
use Rattle.fv_local.specs.Standings.{part_at}
use Rattle.fv_local.specs.Own.{own_at, own_in}
use Rattle.fv_bundle.specs.Bundles.{Thing, Bundled}
use Rattle.fv_bundle.specs.WellTyped.{IsWellTyped}
use Rattle.fv_local.specs.Below.{below}
use Rattle.fv_local.specs.Reached.{is_in, ranks_of}
use Rattle.fv_registry.specs.Meanings.{Meanings}
use Rattle.fv_graph.proofs.Images.{from_map}
use Rattle.fv_walk_traces.specs.Finite.{IsTidy, IsProperOwn}
use Rattle.fv_walk_traces.specs.Requests.{Own, Plain, InRanks}
use Rattle.fv_walk_traces.specs.Turns as turn
use Rattle.fv_walk_traces.specs.Turns.{LocalFailure}
use Rattle.fv_bundle.specs.Types.{number_of_type}
use Rattle.fv_declare_schema.specs.Places.{Place, whole, field}
use Rattle.fv_local.specs.Sound.{IsSound}
use Rattle.fv_local.specs.Requests.{object_at, asked_or_default, asked_groups, judging, visiting, request_of}
use Rattle.fv_local.proofs.Numbers.{spots_differ, spots_within, uses_differ}
use Rattle.fv_local.proofs.Objects.{sound_at}
use Rattle.fv_local.proofs.Below.{below_differs}
use Rattle.fv_local.proofs.Members.{once_differs}
use Rattle.fv_local.proofs.LocatedParts.{parts_apart}
use Rattle.fv_local.proofs.Ways.{ways_within, ways_differ}

part_same : (place : at.FieldPlace) (p q : Locus × Data) → turn.at place p.0 ≡ turn.at place q.0 → p.0 ≡ q.0
part_same place p q e = cc

module _ (place : at.FieldPlace) where
  spots_after : (p : Locus × Data) (ps : List (Locus × Data)) → AllByRecursion (Differ p) ps → AllByRecursion (λ t. (part_at place p).0 ≢ t.0) (map (part_at place) ps)
  spots_after p [] differ = tt
  spots_after p (q ∷ qs) differ = (λ e. differ.0 (part_same place p q e), spots_after p qs differ.1)

  spots_apart : (ps : List (Locus × Data)) → Pairwise Differ ps → Pairwise (λ s t. s.0 ≢ t.0) (map (part_at place) ps)
  spots_apart [] differ = tt
  spots_apart (p ∷ ps) differ = (spots_after p ps differ.0, spots_apart ps differ.1)

standing_apart : (object : Thing) (place : Place) → IsSound object → Pairwise (λ s t. s.0 ≢ t.0) (standing_at object place)
standing_apart object whole sound = (tt, tt)
standing_apart object (field number steps kind) sound =
    let place : at.FieldPlace = record { field = number; steps = steps } in
    spots_apart place (parts_at object place) (parts_apart object place sound)

module _ (m : Meanings) (ds : Declarations) (now : ℤ) (ordered : AreOrdered ds) where
  module _ (object : Thing) (sound : IsSound object) where
    failures_differ : (type : ℕ) (hs : List ℕ) → AllDiffer (failures_in m ds now object type hs)
    failures_differ type hs =
        uses_differ (failures_of m now object) (λ u f h. spots_within m now u (standing_at object u.place) f h)
        (λ u. spots_differ m now u (standing_at object u.place) (standing_apart object u.place sound)) 0 ds.occurrences (is_in type hs) ordered.numbered

    own_at_proper : (type h : ℕ) → IsProperOwn (own_at m ds now object type h)
    own_at_proper type h = go (nat_eq h 0) (ranks_of ds type)
      where
        plain : Own
        plain = Plain (failures_in m ds now object type (h ∷ []))

        in_ranks : List ℕ → Own
        in_ranks ranks = InRanks (map (λ r. failures_in m ds now object type (below ds.groups r)) ranks)

        go : (b : Bool) (o : Option (List ℕ)) → IsProperOwn (cond b (option_map_or in_ranks o plain) plain)
        go false o = failures_differ type (h ∷ [])
        go true None = failures_differ type (h ∷ [])
        go true (Some members) = λ fails there.
            (let k = from_map (λ (r : ℕ). failures_in m ds now object type (below ds.groups r)) members fails there in
            subst AllDiffer (sym k.1) (failures_differ type (below ds.groups k.0)))

    own_proper : (h : ℕ) → IsProperOwn (own_in m ds now object h)
    own_proper h = go (number_of_type ds.types object.type_name)
      where
        go : (o : Option ℕ) → IsProperOwn (option_map_or (λ type. own_at m ds now object type h) o (Plain []))
        go None = tt
        go (Some type) = own_at_proper type h

  -- the request for groups each of which is there once is tidy over the objects of the bundle
  pub judging_tidy : (b : Bundled) (groups : List ℕ) → IsWellTyped ds.types b → AllDiffer groups → IsTidy (judging m ds now b groups) (length b.objects)
  judging_tidy b groups typed differ = record {
    asked = differ;
    below = λ g. below_differs ds.groups g;
    ways = λ object. ways_differ ds b.objects (object_at b object) ordered (sound_at ds b ordered typed object);
    targets = λ object way h. ways_within ds b.objects (object_at b object) way h;
    own = λ object h. own_proper (object_at b object) (sound_at ds b ordered typed object) h;
  }

  pub tidy : (b : Bundled) (asked : List ℕ) → IsWellTyped ds.types b → IsTidy (request_of m ds now b asked) (length b.objects)
  tidy b asked typed = judging_tidy b (asked_groups asked) typed (once_differs (asked_or_default asked))

-- so is the same without what fails
pub visiting_tidy : (ds : Declarations) (b : Bundled) (groups : List ℕ) → AreOrdered ds → IsWellTyped ds.types b → AllDiffer groups → IsTidy (visiting ds b groups) (length b.objects)
visiting_tidy ds b groups ordered typed differ = record {
  asked = differ;
  below = λ g. below_differs ds.groups g;
  ways = λ object. ways_differ ds b.objects (object_at b object) ordered (sound_at ds b ordered typed object);
  targets = λ object way h. ways_within ds b.objects (object_at b object) way h;
  own = λ object h. tt;
}

-- a plain group has itself alone as a rank
pub plain_ranks : (gs : Groups) (g : ℕ) → is_sequence gs g ≡ false → ranks gs g ≡ g ∷ []
plain_ranks gs g e = go (length gs)
  where
    go : (n : ℕ) → value_in (ranked (is_sequence gs)) (member_next gs) n g ≡ g ∷ []
    go zero = rw e refl
    go (suc n) = rw e refl
