use Rattle.std.proofs.Common.{map, bytes_eq, ap, ◌∙◌, rules}
use Rattle.std.proofs.lemmas.Fn.{always_returns_same}
use Rattle.std.specs.List.{list_any}
use Rattle.fv_datum.specs.Ascending.{IsAscending}
use Rattle.fv_declare_draft.specs.DraftViews.{type_view}
use Rattle.fv_declare_judging.proofs.Typed.{beside, searched}
use Rattle.fv_declare_judging.proofs.naming.is_type.Goals as goal

pub returns : goal.returns
returns c =
    let d = c.args.draft.now in
    let name = c.args.name.now in
    let facts = c.binary_search_by.ensures in
    let ascend : IsAscending (map (λ t. t.name.now) c.deref.result.now) = rw c.deref.ensures.value d.types_ascend in
    c.is_ok.ensures.value ∙ searched name _ _ ascend facts.bound (facts.position (beside name) (always_returns_same _ _ _ (λ a r g called. search rules)))
    ∙ ap (λ ts. list_any (λ t. bytes_eq name t.name) (map type_view ts)) c.deref.ensures.value
