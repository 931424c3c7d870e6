use Rattle.std.proofs.Common.{◌≡◌, ◌∷◌, ◌++◌, ℕ, List, String, map, sym, subst, ◌∙◌}
use Rattle.std.specs.declared.alloc.Global.{Global}
use Rattle.fv_bundle.specs.Names.{object_types_view}
use Rattle.fv_bundle.specs.Types.{AreApart}
use Rattle.fv_bundle.specs.Views.{named_view, objects_view}
use Rattle.fv_bundle.specs.declared.bundle.Object.{Object}
use Rattle.fv_model_fault.proofs.Seen.{types_of_all}
use Rattle.fv_model.proofs.Named.{objects_apart, insert_new}
use Rattle.fv_model_fault.proofs.setting.object_types.Goals as goal

pub loop-name-preserved : goal.loop-name-preserved
loop-name-preserved c =
    let es = c.args.objects.now.entries in
    let entry : String Global × Object = (c.in-Some.name.now, c.in-Some.object.now) in
    let more = types_of_all (map named_view c.next.new.self) in
    let name = c.as_str.result in
    let type_name = c.type_name.result in
    let before : object_types_view c.loop-name.names ++ types_of_all (map named_view (entry ∷ c.next.new.self)) ≡ types_of_all (objects_view c.args.objects.now) = rw c.in-Some.ensures.steps at c.loop-name.invariant in
    let whole : object_types_view c.loop-name.names ++ (name.now, type_name.now) ∷ more ≡ types_of_all (objects_view c.args.objects.now) = rw (c.as_str.ensures.value, c.type_name.ensures) before in
    let apart = subst (λ (xs : List (List ℕ × List ℕ)). AreApart xs) (sym whole) (objects_apart es c.len.ensures.unique) in
    rw c.in_ok-insert.ensures.entries (insert_new (λ k. k.now) (λ v. v.now) c.loop-name.names.entries name type_name more apart ∙ whole)
