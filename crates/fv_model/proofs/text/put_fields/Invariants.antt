use Rattle.std.proofs.Common.{◌≡◌, ◌++◌, []}
use denote.Text.{Utf8}
use denote.Shadow.{shadow}
use Rattle.fv_bundle.specs.Views.{fields_left, object_view}
use Rattle.fv_model.proofs.InOrder.{rises, shown, member_tokens}
use Rattle.fv_model.proofs.text.put_fields.Given as goal

abbrev pub invariant-loop-name : goal.invariant-loop-name
invariant-loop-name l =
    let rest = shown (fields_left l.name-iterator) in
    let all = shown (object_view l.object).fields in
    shadow (Utf8 l.last) × (l.out.tokens ++ member_tokens rest ≡ l.initial.out.tokens ++ member_tokens all) × (l.out.before ≡ l.initial.out.before) × (rises l.last rest ≡ rises [] all)
