-- What a text declares is in order.
use Rattle.std.proofs.Common.{◌≡◌, inl, inr, ℕ, ◌+◌, ◌<◌, ◌≤◌, ◌||◌, List, [], ◌∷◌, length, map, zip, nat_lt, slice_get, false, Option, Some, None, Ok, refl, ap, ◌∙◌, arith}
use Rattle.std.specs.Prelude.{option_and_then}
use Rattle.std.proofs.lemmas.Bool.{ltb-false}
use Rattle.std.proofs.lemmas.List.{length-map}
use Rattle.std.specs.List.{AllByRecursion, AllZip, list_any}
use Rattle.serde_json.specs.Data as json
use Rattle.fv_constraint.specs.Composed.{Planned}
use Rattle.fv_flatten.specs.Flattening.{AreTreesOfUses}
use Rattle.fv_constraint_tree.specs.Trees.{Tree}
use Rattle.fv_datum.proofs.Bools.{or_right}
use Rattle.fv_datum.specs.Parsing.{json_of}
use Rattle.fv_declare_draft.specs.AllCascades.{cascades_in}
use Rattle.fv_declare_draft.specs.AllUses.{DraftUse, uses_in}
use Rattle.fv_declare_draft.specs.Drafts.{Drafted, draft_of}
use Rattle.fv_declare_groups.specs.Grouping.{groups_in, is_misplaced}
use Rattle.fv_declare_schema.specs.Declarations.{Placed, Declarations, count_nodes}
use Rattle.fv_declare_schema.specs.Ordered.{Precedes, IsRising, IsPlaced, AreGroups, AreOrdered}
use Rattle.fv_declare_schema.specs.Groups.{Groups}
use Rattle.fv_bundle.specs.Types.{too_many}
use Rattle.fv_registry.specs.Rules.{Known}
use Rattle.fv_declare_judging.specs.Conditions.{used_in, has_many, too_large}
use Rattle.fv_declare_judging.specs.Declares.{OfTrees, Fails, faults, IsAnswer, Declares}
use Rattle.fv_declare_judging.specs.Judging.{AreLed}
use Rattle.fv_declare_judging.specs.Naming.{bad_name}
use Rattle.fv_declare_judging.specs.Schemas.{IsPlacedAs, IsDeclared}
use Rattle.fv_declare_judging.specs.Types.{types_declared}
use Rattle.fv_declare_judging.specs.Used.{used}
use Rattle.fv_declare_judging.specs.declared.fault.DeclFault.{DeclFault}
use Rattle.fv_declare_judging.proofs.Cascading.{cascades_rise, places_rise}
use Rattle.fv_declare_judging.proofs.Counts.{same_size, zip_long}
use Rattle.fv_declare_judging.proofs.Led.{draft_led}
use Rattle.fv_declare_judging.proofs.Ordered.{all_named}
use Rattle.fv_declare_judging.proofs.Rising.{Before, Rises, types_rise}
use Rattle.fv_declare_judging.proofs.There.{IsThere, types_there, cascades_there}
use Rattle.fv_declare_judging.proofs.Valid.{not_true, valid_all}
use Rattle.fv_declare_judging.proofs.Within.{named_within, forms_within, sequences_within, places_within}

-- ---- the uses stand as they are placed

module _ (gs : Groups) where
  -- what all uses have, what is placed as they are has too
  placed_all : (P : DraftUse → Type 0) (Q : Placed → Type 0) (us : List DraftUse) (ts : List (Tree Planned)) (os : List Placed) → length ts ≡ length us
      → ((u : DraftUse) (t : Tree Planned) (o : Placed) → IsPlacedAs gs (u, t) o → P u → Q o) → AllByRecursion P us → AllZip (IsPlacedAs gs) (zip us ts) os → AllByRecursion Q os
  placed_all P Q [] [] [] long f h z = tt
  placed_all P Q [] [] (o ∷ os) long f h z = absurd z
  placed_all P Q [] (t ∷ ts) os long f h z = cc
  placed_all P Q (u ∷ us) [] os long f h z = cc
  placed_all P Q (u ∷ us) (t ∷ ts) [] long f h z = absurd z
  placed_all P Q (u ∷ us) (t ∷ ts) (o ∷ os) long f h z =
      let less : length ts ≡ length us = omega (arith, long) in (f u t o z.0 h.0, placed_all P Q us ts os less f h.1 z.1)

  rising : (us : List DraftUse) (ts : List (Tree Planned)) (os : List Placed) → length ts ≡ length us → Rises us → AllZip (IsPlacedAs gs) (zip us ts) os → IsRising os
  rising [] [] [] long h z = tt
  rising [] [] (o ∷ os) long h z = absurd z
  rising [] (t ∷ ts) os long h z = cc
  rising (u ∷ us) [] os long h z = cc
  rising (u ∷ us) (t ∷ ts) [] long h z = absurd z
  rising (u ∷ us) (t ∷ ts) (o ∷ os) long h z =
      let less : length ts ≡ length us = omega (arith, long) in
      (placed_all (Before u) (Precedes o) us ts os less (λ v s p is b. rw (z.0.type, is.type, z.0.place, is.place) b) h.0 z.1, rising us ts os less h.1 z.1)

  -- and their trees have as many nodes
  same_nodes : (us : List DraftUse) (ts : List (Tree Planned)) (os : List Placed) → length ts ≡ length us → AllZip (IsPlacedAs gs) (zip us ts) os → count_nodes (map (λ o. o.tree) os) ≡ count_nodes ts
  same_nodes [] [] [] long z = refl
  same_nodes [] [] (o ∷ os) long z = absurd z
  same_nodes [] (t ∷ ts) os long z = cc
  same_nodes (u ∷ us) [] os long z = cc
  same_nodes (u ∷ us) (t ∷ ts) [] long z = absurd z
  same_nodes (u ∷ us) (t ∷ ts) (o ∷ os) long z =
      let less : length ts ≡ length us = omega (arith, long) in
      let one = same_size _ t o.tree z.0.tree in
      let rest = same_nodes us ts os less z.1 in
      omega (arith, one, rest)

each_unit : (us : List DraftUse) → AllByRecursion (λ u. Unit {0}) us
each_unit [] = tt
each_unit (u ∷ us) = (tt, each_unit us)

-- ---- no fault is told

-- where declarations are the answer, no fault's condition holds
all_failed : (k : Known) (bytes : List ℕ) (ds : Declarations) (fs : List DeclFault) → IsAnswer k bytes fs (Ok ds) → AllByRecursion (Fails k bytes) fs × OfTrees bytes (λ d ts. IsDeclared d ts ds)
all_failed k bytes ds [] h = (tt, h)
all_failed k bytes ds (f ∷ fs) (inl h) = cc (h.1)
all_failed k bytes ds (f ∷ fs) (inr h) = let rest = all_failed k bytes ds fs h.1 in ((h.0, rest.0), rest.1)

led : (o : Option json.Data) (d : Drafted) → option_and_then draft_of o ≡ Some d → AreLed d
led None d is = cc
led (Some j) d is = draft_led j d is

few : (d : Drafted) (ts : List (Tree Planned)) → too_large d ts ≡ false → nat_lt 1024 (count_nodes ts) ≡ false
unfolding too_large
few d ts small = or_right (too_many (types_declared d) || has_many d) (nat_lt 1024 (count_nodes ts)) small

-- what is declared is in order
standing : (d : Drafted) (ts : List (Tree Planned)) (ds : Declarations) → AreTreesOfUses d.definitions (used_in d) ts → IsDeclared d ts ds → bad_name d ≡ false → AreLed d
    → list_any (is_misplaced (groups_in d)) (cascades_in d.types) ≡ false → too_large d ts ≡ false → AreOrdered ds
standing d ts ds trees h named led placed small =
    let gs = groups_in d in
    let us = uses_in d.types in
    let all = types_declared d in
    let long : length ts ≡ length us = zip_long _ (used_in d) ts trees ∙ length-map us used in
    let at : (j : ℕ) → slice_get all (0 + j) ≡ slice_get all j = λ j. let same : 0 + j ≡ j = omega arith in ap (slice_get all) same in
    let some : 0 < length gs = omega arith in
    let nodes : count_nodes (map (λ o. o.tree) ds.occurrences) ≡ count_nodes ts = same_nodes gs us ts ds.occurrences long h.uses in
    let limit : count_nodes ts ≤ 1024 = ltb-false 1024 (count_nodes ts) (few d ts small) in
    record {
      types = h.types_ascend;
      forms = h.forms_ascend;
      fields = h.fields_ascend;
      named = rw h.types (all_named d named);
      uses = rising gs us ts ds.occurrences long (types_rise 0 d.types) h.uses;
      there = rw h.types (placed_all gs (IsThere all) (IsPlaced all) us ts ds.occurrences long (λ u t o is k. rw (is.type, is.place) k) (types_there all 0 d.types led at) h.uses);
      numbered = h.numbered;
      few = omega arith;
      valid = rw (h.types, h.valid_places) (valid_all gs all (cascades_in d.types) (cascades_there all 0 d.types led at) placed);
      cascading = rw h.valid_places (places_rise gs (cascades_in d.types) (cascades_rise d.types led));
      grouped = record {
        some = rw h.groups some;
        uses = rw h.groups (placed_all gs (λ u. Unit {0}) (λ o. AreGroups gs o.groups) us ts ds.occurrences long (λ u t o is k. rw is.groups (named_within gs some u.draft.groups)) (each_unit us) h.uses);
        forms = rw (h.groups, h.form_groups) (forms_within gs some d.forms);
        sequences = rw (h.groups, h.sequences) (sequences_within gs some d.types);
        conversions = rw (h.groups, h.valid_places) (places_within gs (cascades_in d.types));
      };
    }

-- the declarations that a text declares are in order
pub declared_ordered : (k : Known) (bytes : List ℕ) (ds : Declarations) → Declares k bytes (Ok ds) → AreOrdered ds
unfolding Declares
declared_ordered k bytes ds answer =
    let all = all_failed k bytes ds faults answer in
    let names = all.0.1.1 in
    let conversions = names.1.1.1.1.1.1.1.1 in
    let limits = conversions.1.1.1 in
    let it = all.1 in
    standing it.0 it.2.0 ds it.2.1 it.2.2
    (not_true (bad_name it.0) (λ e. names.0 (it.0, it.1, e)))
    (led (json_of bytes) it.0 it.1)
    (not_true (list_any (is_misplaced (groups_in it.0)) (cascades_in it.0.types)) (λ e. conversions.0 (it.0, it.1, e)))
    (not_true (too_large it.0 it.2.0) (λ e. limits.0 (it.0, it.1, (it.2.0, it.2.1, inl e))))
