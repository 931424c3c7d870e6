-- What is found first, seen from one element on.
use Rattle.std.proofs.Common.{◌≡◌, ℕ, ◌+◌, ◌<◌, List, length, get_or, drop, map, Option}
use Rattle.std.specs.Option.{option_or}
use Rattle.fv_declare_definition.specs.Definitions as definitions
use Rattle.fv_declare_definition.specs.DefinitionViews.{composing_view}
use Rattle.fv_declare_definition.specs.declared.definition.Composing.{Composing}
use Rattle.fv_declare_draft.specs.AllUses as uses
use Rattle.fv_declare_draft.specs.Drafts as spec
use Rattle.fv_declare_draft.specs.DraftViews.{field_view, type_view, form_view, group_view}
use Rattle.fv_declare_draft.specs.UseViews.{use_view}
use Rattle.fv_declare_draft.specs.declared.all_uses.Use.{Use}
use Rattle.fv_declare_draft.specs.declared.draft.FieldDraft.{FieldDraft}
use Rattle.fv_declare_draft.specs.declared.draft.FormDraft.{FormDraft}
use Rattle.fv_declare_draft.specs.declared.draft.GroupDraft.{GroupDraft}
use Rattle.fv_declare_draft.specs.declared.draft.TypeDraft.{TypeDraft}
use Rattle.fv_first.specs.First.{first_from}
use Rattle.fv_first.proofs.Turns.{first_turn}
use Rattle.fv_declare_schema.specs.Groups.{Form}

pub field_turn : {P : Type 0} (f : ℕ → spec.FieldDraft → Option P) (xs : List FieldDraft) (i : ℕ) (x : FieldDraft) → i < length xs → x ≡ get_or xs i x
    → first_from f i (map field_view (drop i xs)) ≡ option_or (f i (field_view x)) (first_from f (i + 1) (map field_view (drop (i + 1) xs)))
field_turn = first_turn field_view

pub type_turn : {P : Type 0} (f : ℕ → spec.TypeDraft → Option P) (xs : List TypeDraft) (i : ℕ) (x : TypeDraft) → i < length xs → x ≡ get_or xs i x
    → first_from f i (map type_view (drop i xs)) ≡ option_or (f i (type_view x)) (first_from f (i + 1) (map type_view (drop (i + 1) xs)))
type_turn = first_turn type_view

pub form_turn : {P : Type 0} (f : ℕ → spec.FormDraft → Option P) (xs : List FormDraft) (i : ℕ) (x : FormDraft) → i < length xs → x ≡ get_or xs i x
    → first_from f i (map form_view (drop i xs)) ≡ option_or (f i (form_view x)) (first_from f (i + 1) (map form_view (drop (i + 1) xs)))
form_turn = first_turn form_view

pub group_turn : {P : Type 0} (f : ℕ → List ℕ × Form → Option P) (xs : List GroupDraft) (i : ℕ) (x : GroupDraft) → i < length xs → x ≡ get_or xs i x
    → first_from f i (map group_view (drop i xs)) ≡ option_or (f i (group_view x)) (first_from f (i + 1) (map group_view (drop (i + 1) xs)))
group_turn = first_turn group_view

pub use_turn : {P : Type 0} (f : ℕ → uses.DraftUse → Option P) (xs : List Use) (i : ℕ) (x : Use) → i < length xs → x ≡ get_or xs i x
    → first_from f i (map use_view (drop i xs)) ≡ option_or (f i (use_view x)) (first_from f (i + 1) (map use_view (drop (i + 1) xs)))
use_turn = first_turn use_view

pub composing_turn : {P : Type 0} (f : ℕ → definitions.Composing → Option P) (xs : List Composing) (i : ℕ) (x : Composing) → i < length xs → x ≡ get_or xs i x
    → first_from f i (map composing_view (drop i xs)) ≡ option_or (f i (composing_view x)) (first_from f (i + 1) (map composing_view (drop (i + 1) xs)))
composing_turn = first_turn composing_view
