use Rattle.std.proofs.Common.{◌≡◌, ℕ, List, ◌∷◌, ◌++◌, map, sym, ap, ap₂, subst, ◌∙◌}
use Rattle.std.specs.Map.{keys_of}
use Rattle.serde_json.specs.Data as json
use Rattle.serde_json.specs.View.{members_view}
use Rattle.fv_datum.specs.Ascending.{IsAscending}
use Rattle.fv_datum.specs.Members.{pairs}
use Rattle.fv_datum.proofs.Inserted.{seen_last}
use Rattle.fv_bundle.specs.Names.{object_types_view}
use Rattle.fv_model_fault.specs.Given.{type_in}
use Rattle.fv_datum.proofs.Values.{members_ascend}
use Rattle.fv_model_fault.proofs.Seen.{types_ascend}
use Rattle.fv_model_fault.proofs.given.type_names.Goals as goal

pub loop-name-preserved : goal.loop-name-preserved
loop-name-preserved c =
    let l = c.loop-name in
    let named : List ℕ × json.Data → List ℕ × List ℕ = λ o. (o.0, type_in o.1) in
    let name = c.as_str.result in
    let type = c.type_of.result in
    let more = map named (pairs (members_view c.next.new.self)) in
    let rest : map named (pairs (members_view l.name-iterator)) ≡ (name.now, type.now) ∷ more = ap (λ it. map named (pairs (members_view it))) c.in-Some.ensures.steps ∙ ap₂ (λ n t. (n, t) ∷ more) (sym c.as_str.ensures.value) (sym c.type_of.ensures) in
    let whole : object_types_view l.names ++ (name.now, type.now) ∷ more ≡ map named (pairs (members_view c.args.objects.now.entries)) = rw (← rest) l.invariant in
    let ascending : IsAscending (keys_of (object_types_view l.names ++ (name.now, type.now) ∷ more)) =
    subst (λ (xs : List (List ℕ × List ℕ)). IsAscending (keys_of xs)) (sym whole) (types_ascend (pairs (members_view c.args.objects.now.entries)) (members_ascend c.args.objects.now.entries c.iter-name-items.ensures.ordered)) in
    rw c.in_ok-insert.ensures.entries (seen_last (λ k. k.now) (λ k. k.now) l.names.entries name type more ascending ∙ whole)
