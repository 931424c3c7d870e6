-- The schema that is built of a draft's parts and trees.
use Rattle.std.proofs.Common.{◌≡◌, ◌<◌, ◌≤◌, List, length, map, zip, true, false, Result, Ok, IfOk, refl, sym, ap, subst, ◌∙◌, arith}
use Rattle.std.specs.List.{AllZip, list_all, list_any}
use Rattle.fv_constraint.specs.Composed.{Planned}
use Rattle.fv_flatten.specs.Read.{IsReadTree}
use Rattle.fv_constraint_tree.specs.Nodes.{Node}
use Rattle.fv_constraint_tree.specs.TargetFits.{tree_fits}
use Rattle.fv_constraint_tree.specs.Trees.{Tree}
use Rattle.fv_declare_draft.specs.AllCascades.{Cascade, cascades_in}
use Rattle.fv_declare_draft.specs.AllUses.{DraftUse, uses_in}
use Rattle.fv_declare_draft.specs.DraftViews.{draft_view, type_view, form_view}
use Rattle.fv_declare_draft.specs.Drafts.{Drafted}
use Rattle.fv_declare_draft.specs.declared.draft.Draft.{Draft}
use Rattle.fv_declare_draft.specs.declared.draft.FormDraft.{FormDraft}
use Rattle.fv_declare_draft.specs.declared.draft.TypeDraft.{TypeDraft}
use Rattle.fv_declare_groups.specs.Grouping.{groups_in, is_misplaced}
use Rattle.fv_declare_groups.specs.Numbered.{type_ranks, valid_places}
use Rattle.fv_declare_schema.specs.Declarations.{Placed, Declarations, count_nodes}
use Rattle.fv_declare_schema.specs.Fits.{placed_fits, fits}
use Rattle.fv_declare_schema.specs.NumberViews.{sequences_view, valid_place_view}
use Rattle.fv_declare_schema.specs.Ordered.{AreOrdered}
use Rattle.fv_declare_schema.specs.PlacedView.{placed_view}
use Rattle.fv_declare_schema.specs.SchemaView.{declared_by, forms_view, form_groups_view}
use Rattle.fv_declare_schema.specs.Groups.{Groups}
use Rattle.fv_message.specs.Table.{Messages, all_messages}
use Rattle.fv_declare_judging.specs.declared.placed.PlacedWording.{PlacedWording}
use Rattle.fv_bundle.specs.Types.{Declared}
use Rattle.fv_bundle.specs.TypesView.{types_view}
use Rattle.fv_bundle.specs.declared.types.Types.{Types}
use Rattle.fv_registry.specs.Rules.{Known}
use Rattle.fv_declare_judging.specs.Conditions.{used_in}
use Rattle.fv_declare_judging.specs.Judging.{placed_from}
use Rattle.fv_declare_judging.specs.Parts.{IsChecked}
use Rattle.fv_declare_judging.specs.Schemas.{form_declared, form_grouped, IsPlacedAs, IsDeclared}
use Rattle.fv_declare_judging.specs.Types.{types_declared}
use Rattle.fv_declare_schema.specs.declared.schema.NumberedParts.{NumberedParts}
use Rattle.fv_declare_judging.specs.declared.parts.Parts.{Parts}
use Rattle.fv_datum.proofs.Inserted.{map_twice}
use Rattle.fv_declare_judging.proofs.Found.{names_good}
use Rattle.fv_declare_judging.proofs.Ordered.{ordered, placed, placed_fit}
use Rattle.fv_declare_judging.proofs.Valid.{none_misplaced}

-- what is said of a draft's uses, with these trees, of its sequences, of these cascades and of its forms, by the numbers of its types and
-- of these groups
pub record IsNumbered (d : Drafted) (all : Declared) (gs : Groups) (us : List DraftUse) (cs : List Cascade) (ts : List (Tree Node)) (n : NumberedParts) : Type 0 where
  pub occurrences : map placed_view n.occurrences.items ≡ placed_from gs 0 us ts
  pub sequences : sequences_view n.sequences.items ≡ map (type_ranks gs) d.types
  pub valid_places : map valid_place_view n.valid_places.items ≡ valid_places gs cs
  pub forms : forms_view all n.forms ≡ map form_declared d.forms
  pub form_groups : form_groups_view n.forms ≡ map (form_grouped gs) d.forms

pub are_numbered : (draft : Draft) (all : Declared) (gs : Groups) (us : List DraftUse) (cs : List Cascade) (ts : List (Tree Node)) (n : NumberedParts) (fs : List FormDraft) (types : List TypeDraft)
    → fs ≡ draft.forms.items → types ≡ draft.types.items → map placed_view n.occurrences.items ≡ placed_from gs 0 us ts
    → map (λ f. form_declared (form_view f)) fs ≡ forms_view all n.forms → map (λ f. form_grouped gs (form_view f)) fs ≡ form_groups_view n.forms
    → sequences_view n.sequences.items ≡ map (type_ranks gs) (map type_view types) → map valid_place_view n.valid_places.items ≡ valid_places gs cs
    → IsNumbered (draft_view draft) all gs us cs ts n
are_numbered draft all gs us cs ts n fs types fs-are types-are uses-are roots grouped ranks places = record {
  occurrences = uses-are;
  sequences = ranks ∙ ap (λ (ws : List TypeDraft). map (type_ranks gs) (map type_view ws)) types-are;
  valid_places = places;
  forms = sym roots ∙ ap (map (λ f. form_declared (form_view f))) fs-are ∙ map_twice form_view form_declared draft.forms.items;
  form_groups = sym grouped ∙ ap (map (λ f. form_grouped gs (form_view f))) fs-are ∙ map_twice form_view (form_grouped gs) draft.forms.items;
}

-- what is told of the messages that are there
pub told : (P : Messages → Type 0) (r : Result Messages PlacedWording) (m : Messages) → r ≡ Ok m → IfOk r P → P m
told P r m is h = subst (λ (s : Result Messages PlacedWording). IfOk s P) is h

module _
    (draft : Draft)
    (us : List DraftUse)
    (p : Parts)
    (checked : IsChecked (draft_view draft) us p)
    (types : Types)
    (same : types_view types ≡ types_declared (draft_view draft))
    (gs : Groups)
    (groups : gs ≡ groups_in (draft_view draft))
    (cs : List Cascade)
    (cascades : cs ≡ cascades_in (draft_view draft).types)
    (os : List (Tree Node))
    (each : length os ≡ length us)
    (n : NumberedParts)
    (numbered : IsNumbered (draft_view draft) (types_view types) gs us cs os n) where
  at : map placed_view n.occurrences.items ≡ placed_from gs 0 (uses_in (draft_view draft).types) os
  at = numbered.occurrences ∙ ap (λ (ws : List DraftUse). placed_from gs 0 ws os) checked.uses

  long : length os ≡ length (uses_in (draft_view draft).types)
  long = each ∙ ap length checked.uses

  valid : map valid_place_view n.valid_places.items ≡ valid_places gs (cascades_in (draft_view draft).types)
  valid = numbered.valid_places ∙ ap (valid_places gs) cascades

  module _ (messages : Messages) where
    -- the declarations
    abbrev pub all : Declarations
    all = declared_by types gs messages n

    -- are ordered
    pub in_order : count_nodes os ≤ 1024 → AreOrdered all
    in_order few =
        let placed_well : list_any (is_misplaced gs) (cascades_in (draft_view draft).types) ≡ false = ap (λ (g : Groups). list_any (is_misplaced g) (cascades_in (draft_view draft).types)) groups ∙ none_misplaced (draft_view draft) checked.groups.2 in
        let some : 0 < length gs = subst (λ (g : Groups). 0 < length g) (sym groups) (omega arith) in
        ordered gs draft all os same at numbered.forms valid placed_well long few (names_good (draft_view draft) checked.named) checked.led some refl numbered.form_groups numbered.sequences

    -- and are those of the draft
    pub declared : AreOrdered all → messages ≡ all_messages (draft_view draft).messages → (ts : List (Tree Planned)) → AllZip (λ u o. IsReadTree u.0.place u.1 o) (zip (used_in (draft_view draft)) ts) os → IsDeclared (draft_view draft) ts all
    declared order told ts z =
        let d = draft_view draft in
        let drafted = uses_in d.types in
        record {
          types = same;
          types_ascend = order.types;
          fields_ascend = order.fields;
          uses = subst (λ (g : Groups). AllZip (IsPlacedAs g) (zip drafted ts) (map placed_view n.occurrences.items)) groups (subst (λ (ps : List Placed). AllZip (IsPlacedAs gs) (zip drafted ts) ps) (sym at) (placed gs 0 drafted ts os long z));
          numbered = order.numbered;
          forms = numbered.forms;
          forms_ascend = order.forms;
          groups = groups;
          form_groups = numbered.form_groups ∙ ap (λ (g : Groups). map (form_grouped g) d.forms) groups;
          sequences = numbered.sequences ∙ ap (λ (g : Groups). map (type_ranks g) d.types) groups;
          valid_places = valid ∙ ap (λ (g : Groups). valid_places g (cascades_in d.types)) groups;
          messages = told;
        }

    -- each of which fits where its tree does
    pub all_fit : (k : Known) → AllZip (λ u o. tree_fits k u.place o ≡ true) (used_in (draft_view draft)) os → fits k all ≡ true
    all_fit k z = ap (list_all (placed_fits k)) at ∙ placed_fit gs k 0 (uses_in (draft_view draft).types) os z
