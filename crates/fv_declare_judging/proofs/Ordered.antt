-- The declarations of a draft are ordered.
use Rattle.std.proofs.Common.{◌≡◌, ℕ, ◌+◌, ◌<◌, ◌≤◌, List, [], ◌∷◌, length, map, zip, slice_get, true, false, not, ◌||◌, codes, refl, ap, arith}
use Rattle.std.specs.List.{AllByRecursion, AllZip, list_all, list_any}
use Rattle.std.specs.Str.{bytes_eq}
use Rattle.fv_constraint.specs.Composed.{Planned}
use Rattle.fv_datum.specs.Name.{names}
use Rattle.fv_declare_draft.specs.Drafts as spec
use Rattle.fv_declare_draft.specs.DraftViews.{field_view, type_view, form_view, draft_view}
use Rattle.fv_declare_draft.specs.declared.draft.FieldDraft.{FieldDraft}
use Rattle.fv_declare_draft.specs.declared.draft.TypeDraft.{TypeDraft}
use Rattle.fv_declare_draft.specs.declared.draft.FormDraft.{FormDraft}
use Rattle.fv_declare_draft.specs.declared.draft.Draft.{Draft}
use Rattle.fv_declare_groups.specs.Grouping.{is_misplaced}
use Rattle.fv_declare_groups.specs.Numbered.{groups_named, type_ranks, valid_places}
use Rattle.fv_declare_schema.specs.Groups.{Groups}
use Rattle.fv_constraint_tree.specs.TargetFits.{tree_fits}
use Rattle.fv_flatten.specs.Read.{IsReadTree}
use Rattle.fv_constraint_tree.specs.Nodes.{Node}
use Rattle.fv_constraint_tree.specs.Trees.{Tree, size}
use Rattle.fv_registry.specs.Rules.{Known}
use Rattle.fv_datum.proofs.Bools.{not_false, or_left, or_right}
use Rattle.fv_datum.proofs.Lists.{none_each}
use Rattle.fv_datum.specs.Ascending.{IsAscending}
use Rattle.fv_declare_draft.specs.AllCascades.{cascades_in}
use Rattle.fv_declare_draft.specs.AllUses.{DraftUse, uses_in}
use Rattle.fv_declare_judging.specs.Used.{used}
use Rattle.fv_declare_schema.specs.Declarations.{Placed, Declarations, count_nodes, AreNumbered}
use Rattle.fv_declare_judging.specs.Schemas.{form_declared, form_grouped, IsPlacedAs}
use Rattle.fv_declare_judging.specs.Types.{field_declared, type_declared}
use Rattle.fv_declare_judging.specs.Naming.{is_bad_type, is_bad_definition, is_bad_group, bad_name}
use Rattle.fv_declare_schema.specs.Fits.{placed_fits}
use Rattle.fv_declare_judging.specs.Judging.{AreLed, placed_from}
use Rattle.fv_declare_schema.specs.Ordered.{Precedes, IsRising, IsPlaced, AreOrdered}
use Rattle.fv_declare_judging.proofs.Within.{uses_within, forms_within, sequences_within, places_within}
use Rattle.fv_declare_judging.proofs.Alls.{all_mapped_by}
use Rattle.fv_declare_judging.proofs.Cascading.{cascades_rise, places_rise}
use Rattle.fv_declare_judging.proofs.Rising.{Before, Rises, types_rise}
use Rattle.fv_declare_judging.proofs.There.{IsThere, types_there, cascades_there}
use Rattle.fv_declare_judging.proofs.Valid.{valid_all}

-- ---- the uses with their trees stand where they do

-- a use with its groups and its tree, the root of which has a number
abbrev at : Groups → DraftUse → ℕ → Tree Node → Placed
at gs u n t = record { type = u.type; place = u.place; number = n; groups = groups_named gs u.draft.groups; tree = t }

placed_all : (gs : Groups) (P : DraftUse → Type 0) (Q : Placed → Type 0) (n : ℕ) (us : List DraftUse) (ts : List (Tree Node)) → ((u : DraftUse) (n : ℕ) (t : Tree Node) → P u → Q (at gs u n t)) → AllByRecursion P us → AllByRecursion Q (placed_from gs n us ts)
placed_all gs P Q n [] [] f h = tt
placed_all gs P Q n [] (t ∷ ts) f h = tt
placed_all gs P Q n (u ∷ us) [] f h = tt
placed_all gs P Q n (u ∷ us) (t ∷ ts) f h = (f u n t h.0, placed_all gs P Q (n + size t) us ts f h.1)

rising : (gs : Groups) (n : ℕ) (us : List DraftUse) (ts : List (Tree Node)) → Rises us → IsRising (placed_from gs n us ts)
rising gs n [] [] h = tt
rising gs n [] (t ∷ ts) h = tt
rising gs n (u ∷ us) [] h = tt
rising gs n (u ∷ us) (t ∷ ts) h = (placed_all gs (Before u) (Precedes (at gs u n t)) (n + size t) us ts (λ v k s b. b) h.0, rising gs (n + size t) us ts h.1)

numbered : (gs : Groups) (n : ℕ) (us : List DraftUse) (ts : List (Tree Node)) → AreNumbered n (placed_from gs n us ts)
numbered gs n [] [] = tt
numbered gs n [] (t ∷ ts) = tt
numbered gs n (u ∷ us) [] = tt
numbered gs n (u ∷ us) (t ∷ ts) = (refl, numbered gs (n + size t) us ts)

trees : (gs : Groups) (n : ℕ) (us : List DraftUse) (ts : List (Tree Node)) → length ts ≡ length us → map (λ o. o.tree) (placed_from gs n us ts) ≡ ts
trees gs n [] [] same = refl
trees gs n [] (t ∷ ts) same = cc
trees gs n (u ∷ us) [] same = cc
trees gs n (u ∷ us) (t ∷ ts) same = let less : length ts ≡ length us = omega (arith, same) in ap (λ rest. t ∷ rest) (trees gs (n + size t) us ts less)

-- what is read at the uses' places stands there
pub placed : (gs : Groups) (n : ℕ) (us : List DraftUse) (ps : List (Tree Planned)) (ts : List (Tree Node)) → length ts ≡ length us → AllZip (λ u o. IsReadTree u.0.place u.1 o) (zip (map used us) ps) ts
    → AllZip (IsPlacedAs gs) (zip us ps) (placed_from gs n us ts)
placed gs n [] [] [] long z = tt
placed gs n [] [] (t ∷ ts) long z = cc
placed gs n [] (p ∷ ps) [] long z = tt
placed gs n [] (p ∷ ps) (t ∷ ts) long z = cc
placed gs n (u ∷ us) [] [] long z = cc
placed gs n (u ∷ us) [] (t ∷ ts) long z = absurd z
placed gs n (u ∷ us) (p ∷ ps) [] long z = cc
placed gs n (u ∷ us) (p ∷ ps) (t ∷ ts) long z =
    let less : length ts ≡ length us = omega (arith, long) in
    (record { type = refl; place = refl; groups = refl; tree = z.0 }, placed gs (n + size t) us ps ts less z.1)

-- and fits where the trees do
pub placed_fit : (gs : Groups) (k : Known) (n : ℕ) (us : List DraftUse) (ts : List (Tree Node)) → AllZip (λ u o. tree_fits k u.place o ≡ true) (map used us) ts → list_all (placed_fits k) (placed_from gs n us ts) ≡ true
placed_fit gs k n [] [] z = refl
placed_fit gs k n [] (t ∷ ts) z = absurd z
placed_fit gs k n (u ∷ us) [] z = absurd z
placed_fit gs k n (u ∷ us) (t ∷ ts) z = rw (z.0, placed_fit gs k (n + size t) us ts z.1) refl

-- ---- names

field_names : (fs : List FieldDraft) → map (λ f. f.name.now) fs ≡ map (λ f. f.0) (map field_declared (map field_view fs))
field_names [] = refl
field_names (f ∷ fs) = ap (λ ns. f.name.now ∷ ns) (field_names fs)

fields_ascend : (ts : List TypeDraft) → AllByRecursion (λ t. IsAscending (map (λ f. f.0) t.1)) (map type_declared (map type_view ts))
fields_ascend [] = tt
fields_ascend (t ∷ ts) = (rw (← field_names t.fields.items) t.ascend, fields_ascend ts)

type_names : (ts : List TypeDraft) → map (λ t. t.name.now) ts ≡ map (λ t. t.0) (map type_declared (map type_view ts))
type_names [] = refl
type_names (t ∷ ts) = ap (λ ns. t.name.now ∷ ns) (type_names ts)

form_names : (fs : List FormDraft) → map (λ f. f.name.now) fs ≡ map (λ f. f.0) (map form_declared (map form_view fs))
form_names [] = refl
form_names (f ∷ fs) = ap (λ ns. f.name.now ∷ ns) (form_names fs)

-- no name of a field is bad, so each is a name
fields_named : (fs : List spec.FieldDraft) → list_any (λ f. not (names f.name)) fs ≡ false → AllByRecursion (λ f. names f.0 ≡ true) (map field_declared fs)
fields_named fs good = all_mapped_by (λ f. not (names f.name) ≡ false) (λ f. names f.0 ≡ true) field_declared fs (λ f k. not_false (names f.name) k) (none_each (λ f. not (names f.name)) fs good)

types_named : (ts : List spec.TypeDraft) → list_any is_bad_type ts ≡ false → AllByRecursion (λ t. AllByRecursion (λ f. names f.0 ≡ true) t.1) (map type_declared ts)
types_named ts good =
    all_mapped_by (λ t. is_bad_type t ≡ false) (λ t. AllByRecursion (λ f. names f.0 ≡ true) t.1) type_declared ts
    (λ t k. fields_named t.fields (or_right (not (names t.name) || bytes_eq t.name (codes "Default")) _ k)) (none_each is_bad_type ts good)

pub all_named : (d : spec.Drafted) → bad_name d ≡ false → AllByRecursion (λ t. AllByRecursion (λ f. names f.0 ≡ true) t.1) (map type_declared d.types)
unfolding bad_name
all_named d good = types_named d.types (or_left (list_any is_bad_type d.types) _ (or_left _ (list_any is_bad_definition d.definitions) (or_left _ (list_any (is_bad_group d.types) d.groups) good)))

pub ordered : (gs : Groups) (d : Draft) (ds : Declarations) (ts : List (Tree Node)) → ds.types ≡ map type_declared (map type_view d.types.items) → ds.occurrences ≡ placed_from gs 0 (uses_in (map type_view d.types.items)) ts
    → ds.forms ≡ map form_declared (map form_view d.forms.items) → ds.valid_places ≡ valid_places gs (cascades_in (map type_view d.types.items)) → list_any (is_misplaced gs) (cascades_in (map type_view d.types.items)) ≡ false → length ts ≡ length (uses_in (map type_view d.types.items)) → count_nodes ts ≤ 1024 → bad_name (draft_view d) ≡ false → AreLed (draft_view d)
    → 0 < length gs → ds.groups ≡ gs → ds.form_groups ≡ map (form_grouped gs) (map form_view d.forms.items) → ds.sequences ≡ map (type_ranks gs) (map type_view d.types.items) → AreOrdered ds
ordered gs d ds ts types uses forms valid placed each few named led some groups form_groups sequences =
    let drafts = map type_view d.types.items in
    let us = uses_in drafts in
    let all = map type_declared drafts in
    record {
      types = rw (types, ← type_names d.types.items) d.types_ascend;
      forms = rw (forms, ← form_names d.forms.items) d.forms_ascend;
      fields = rw types (fields_ascend d.types.items);
      named = rw types (all_named (draft_view d) named);
      uses = rw uses (rising gs 0 us ts (types_rise 0 drafts));
      there = rw (types, uses) (placed_all gs (IsThere all) (IsPlaced all) 0 us ts (λ u n t k. k) (types_there all 0 drafts led (λ j. let same : 0 + j ≡ j = omega arith in ap (slice_get all) same)));
      numbered = rw uses (numbered gs 0 us ts);
      few = rw (uses, trees gs 0 us ts each) few;
      valid = rw (types, valid) (valid_all gs all (cascades_in drafts) (cascades_there all 0 drafts led (λ j. let same : 0 + j ≡ j = omega arith in ap (slice_get all) same)) placed);
      cascading = rw valid (places_rise gs (cascades_in drafts) (cascades_rise drafts led));
      grouped = record {
        some = rw groups some;
        uses = rw (groups, uses) (uses_within gs some 0 us ts);
        forms = rw (groups, form_groups) (forms_within gs some (map form_view d.forms.items));
        sequences = rw (groups, sequences) (sequences_within gs some drafts);
        conversions = rw (groups, valid) (places_within gs (cascades_in drafts));
      };
    }
