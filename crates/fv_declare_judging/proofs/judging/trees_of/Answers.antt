use Rattle.std.proofs.Common.{◌≡◌, List, map, not, is_some, false, sym, ap, subst, ◌∙◌}
use Rattle.std.specs.List.{list_any}
use Rattle.fv_constraint.specs.Meanings.{meant_by}
use Rattle.fv_flatten.specs.Flattening as flat
use Rattle.fv_flatten.specs.UseViews.{use_view as flat_use_view}
use Rattle.fv_declare_draft.specs.UseViews.{use_view}
use Rattle.fv_declare_judging.specs.Used.{used}
use Rattle.fv_declare_judging.proofs.Found.{any_map}
use Rattle.fv_declare_judging.proofs.judging.trees_of.Goals as goal

pub flatten_all-requires : goal.flatten_all-requires
flatten_all-requires g c =
    let seen : map flat_use_view c.deref.result.now ≡ map used (map use_view c.args.uses.now) = ap (map flat_use_view) c.deref.ensures.value ∙ c.in_ok-used.ensures in
    let known = any_map (λ (u : flat.Use). not (is_some (meant_by c.args.composition.now u.constraint))) used (map use_view c.args.uses.now) ∙ c.requires in
    subst (λ (us : List flat.Use). list_any (λ (u : flat.Use). not (is_some (meant_by c.args.composition.now u.constraint))) us ≡ false) (sym seen) known
