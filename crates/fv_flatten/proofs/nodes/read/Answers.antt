use Rattle.std.proofs.Common.{rules, ◌≡◌, ◌∙◌, ◌∷◌, map, length, Some, None, refl, sym, ap, subst, inl, inr}
use Rattle.std.proofs.lemmas.Result.{err_from_is_err_and}
use Rattle.std.specs.List.{AllZip, list_any}
use Rattle.fv_constraint_tree.specs.TargetViews.{target_view}
use Rattle.fv_constraint.specs.PlannedViews.{planned_view, planned_entry}
use Rattle.fv_flatten.specs.Read.{IsEntry, refuses_its_given, refuses_at}
use Rattle.fv_flatten.proofs.Shapes.{shaped, read_tree, never_empty}
use Rattle.fv_flatten.proofs.Unbuilt.{all_built}
use Rattle.fv_flatten.specs.Whereabouts.{IsUnbuiltAt}
use Rattle.fv_datum.proofs.Bools.{or_right}
use Rattle.fv_first.specs.First.{IsFirstIn}
use Rattle.fv_flatten.proofs.nodes.read.Goals as goal
use Rattle.fv_constraint_tree.specs.Preorder.{preorder}
use Rattle.fv_constraint_tree.specs.Views.{node_view, entry_view}

pub unreachable-requires : goal.unreachable-requires
unreachable-requires c =
    let none : length c.args.spots.now ≡ 0 = search rules in
    never_empty c.requires.planned.0 c.args.spots.now c.requires.planned.1 none

pub returns-in-Err-clause-refused : goal.returns-in-Err-clause-refused
returns-in-Err-clause-refused c = λ other.
    let is : c.args.spots.now ≡ c.in-Some.first.now ∷ c.in-Some.behind.now = search rules in
    let found = c.in-Err.ensures.refused other in
    (found.0, (0, refl, subst (λ ss. IsFirstIn (IsUnbuiltAt (target_view c.args.place)) (map (λ s. planned_view s.value) ss) (Some 0)) (sym is) (inl (0, refl, (refl, found.1)))))

pub nodes_of-requires-clause-attributes : goal.nodes_of-requires-clause-attributes
nodes_of-requires-clause-attributes c =
    let is : c.args.spots.now ≡ c.in-Some.first.now ∷ c.in-Some.behind.now = search rules in
    or_right (refuses_its_given (planned_view c.in-Some.first.now.value)) _ (sym (ap (λ ss. list_any refuses_its_given (map (λ s. planned_view s.value) ss)) is) ∙ c.requires.attributes)

pub nodes_of-requires-clause-places : goal.nodes_of-requires-clause-places
nodes_of-requires-clause-places c =
    let is : c.args.spots.now ≡ c.in-Some.first.now ∷ c.in-Some.behind.now = search rules in
    let places = c.requires.places in
    let refuses = refuses_at places.0 (target_view c.args.place) in
    (places.0, or_right (refuses (planned_view c.in-Some.first.now.value)) _ (sym (ap (λ ss. list_any refuses (map (λ s. planned_view s.value) ss)) is) ∙ places.1))

pub returns-in_err-below-clause-refused : goal.returns-in_err-below-clause-refused
returns-in_err-below-clause-refused c =
    let is : c.args.spots.now ≡ c.in-Some.first.now ∷ c.in-Some.behind.now = search rules in
    let p = err_from_is_err_and c.from_residual.result c.from_residual.ensures.1 in
    rw p.1 (λ other.
    let found = c.in_err-below.ensures.refused (λ e. other (ap (λ f. f.fault) p.2 ∙ e)) in
    let one = found.1 in (
      ap (λ f. f.fault) p.2 ∙ found.0,
      (
        one.0,
        ap (λ f. f.at) p.2 ∙ one.1,
        subst (λ ss. IsFirstIn (IsUnbuiltAt (target_view c.args.place)) (map (λ s. planned_view s.value) ss) (Some one.0)) (sym is)
            (inr ((node_view c.in-Ok.root, c.in-Ok.ensures.taken.0), one.2)),
      ),
    ))

pub new-requires : goal.new-requires
new-requires c =
    let is : c.args.spots.now ≡ c.in-Some.first.now ∷ c.in-Some.behind.now = search rules in
    let t = c.requires.planned in
    let es = entry_view c.in-Ok.root ∷ map entry_view c.in_ok-below.below.items in
    let z : AllZip (IsEntry (target_view c.args.place)) (preorder t.0) es =
    subst (λ ps. AllZip (IsEntry (target_view c.args.place)) ps es) (sym (t.1 ∙ ap (map planned_entry) is)) (c.in-Ok.ensures.taken, c.in_ok-below.ensures.taken) in
    let s = shaped (target_view c.args.place) t.0 es z in
    (s.made, s.is)

pub returns-clause-taken : goal.returns-clause-taken
returns-clause-taken c =
    let is : c.args.spots.now ≡ c.in-Some.first.now ∷ c.in-Some.behind.now = search rules in
    let es = map entry_view c.in_ok-below.below.items in
    λ t e.
    let z : AllZip (IsEntry (target_view c.args.place)) (preorder t) (entry_view c.in-Ok.root ∷ es) =
    subst (λ ps. AllZip (IsEntry (target_view c.args.place)) ps (entry_view c.in-Ok.root ∷ es)) (sym (e ∙ ap (map planned_entry) is)) (c.in-Ok.ensures.taken, c.in_ok-below.ensures.taken) in
    read_tree (target_view c.args.place) t c.new.result (node_view c.in-Ok.root) c.in-Ok.root.below es c.new.ensures z

pub returns-clause-built : goal.returns-clause-built
returns-clause-built c =
    let is : c.args.spots.now ≡ c.in-Some.first.now ∷ c.in-Some.behind.now = search rules in
    subst (λ ss. IsFirstIn (IsUnbuiltAt (target_view c.args.place)) (map (λ s. planned_view s.value) ss) None) (sym is)
    (all_built (target_view c.args.place) 0 (c.in-Some.first.now ∷ c.in-Some.behind.now) (entry_view c.in-Ok.root ∷ map entry_view c.in_ok-below.below.items) (c.in-Ok.ensures.taken, c.in_ok-below.ensures.taken))
