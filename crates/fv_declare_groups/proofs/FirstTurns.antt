-- What is found first, seen from one element on.
use Rattle.std.proofs.Common.{◌≡◌, ℕ, ◌+◌, ◌<◌, List, length, get_or, drop, map, Option}
use Rattle.std.specs.Option.{option_or}
use Rattle.fv_declare_draft.specs.AllCascades as cascades
use Rattle.fv_declare_draft.specs.AllUses as uses
use Rattle.fv_declare_draft.specs.Cascades as drafts
use Rattle.fv_declare_draft.specs.Drafts as spec
use Rattle.fv_declare_draft.specs.DraftViews.{conversion_view, type_view, form_view}
use Rattle.fv_declare_draft.specs.UseViews.{use_view, cascade_view}
use Rattle.fv_declare_draft.specs.declared.all_cascades.Cascade.{Cascade}
use Rattle.fv_declare_draft.specs.declared.all_uses.Use.{Use}
use Rattle.fv_declare_draft.specs.declared.draft.Conversion.{Conversion}
use Rattle.fv_declare_draft.specs.declared.draft.FormDraft.{FormDraft}
use Rattle.fv_declare_draft.specs.declared.draft.TypeDraft.{TypeDraft}
use Rattle.fv_first.specs.First.{first_from}
use Rattle.fv_first.proofs.Turns.{first_turn}

pub use_turn : {P : Type 0} (f : ℕ → uses.DraftUse → Option P) (xs : List Use) (i : ℕ) (x : Use) → i < length xs → x ≡ get_or xs i x
    → first_from f i (map use_view (drop i xs)) ≡ option_or (f i (use_view x)) (first_from f (i + 1) (map use_view (drop (i + 1) xs)))
use_turn = first_turn use_view

pub cascade_turn : {P : Type 0} (f : ℕ → cascades.Cascade → Option P) (xs : List Cascade) (i : ℕ) (x : Cascade) → i < length xs → x ≡ get_or xs i x
    → first_from f i (map cascade_view (drop i xs)) ≡ option_or (f i (cascade_view x)) (first_from f (i + 1) (map cascade_view (drop (i + 1) xs)))
cascade_turn = first_turn cascade_view

pub conversion_turn : {P : Type 0} (f : ℕ → drafts.Conversion → Option P) (xs : List Conversion) (i : ℕ) (x : Conversion) → i < length xs → x ≡ get_or xs i x
    → first_from f i (map conversion_view (drop i xs)) ≡ option_or (f i (conversion_view x)) (first_from f (i + 1) (map conversion_view (drop (i + 1) xs)))
conversion_turn = first_turn conversion_view

pub type_turn : {P : Type 0} (f : ℕ → spec.TypeDraft → Option P) (xs : List TypeDraft) (i : ℕ) (x : TypeDraft) → i < length xs → x ≡ get_or xs i x
    → first_from f i (map type_view (drop i xs)) ≡ option_or (f i (type_view x)) (first_from f (i + 1) (map type_view (drop (i + 1) xs)))
type_turn = first_turn type_view

pub form_turn : {P : Type 0} (f : ℕ → spec.FormDraft → Option P) (xs : List FormDraft) (i : ℕ) (x : FormDraft) → i < length xs → x ≡ get_or xs i x
    → first_from f i (map form_view (drop i xs)) ≡ option_or (f i (form_view x)) (first_from f (i + 1) (map form_view (drop (i + 1) xs)))
form_turn = first_turn form_view
