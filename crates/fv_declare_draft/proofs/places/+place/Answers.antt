use Rattle.std.proofs.Common.{◌≡◌, ◌<◌, ◌∷◌, ◌++◌, [], map, Some, None, true, false, option_map, option_and_then, sym, ap₂, ◌∙◌, codes, rules, arith}
use Rattle.serde_json.specs.Data.{depth}
use Rattle.serde_json.specs.Find.{get, as_str}
use Rattle.serde_json.specs.View.{view as json_view}
use Rattle.fv_datum.specs.Members.{has_only}
use Rattle.fv_extract.specs.Places.{element, content}
use Rattle.fv_extract.specs.Views.{step_view}
use Rattle.fv_bundle.specs.Types.{kind_of, type_use_view}
use Rattle.fv_declare_draft.specs.Cascades.{cascade_of}
use Rattle.fv_declare_draft.specs.DraftViews.{use_view, cascade_view, placed_use_view, placed_cascade_view, held_view}
use Rattle.fv_declare_draft.specs.Gathering.{gathered, inside}
use Rattle.fv_declare_draft.specs.Places.{place_members, place_of, held_of, use_there, cascade_there}
use Rattle.fv_declare_draft.specs.Uses.{uses_of}
use Rattle.fv_declare_draft.proofs.Gathered.{list_inside, optional_inside, place_gathered}
use Rattle.fv_declare_draft.proofs.PlaceMembers.{place_of_members, held_of_members, get_depth}
use Rattle.fv_declare_draft.proofs.places.+place.Goals as goal

pub held_of-returns-then-has_only-2 : goal.held_of-returns-then-has_only-2
held_of-returns-then-has_only-2 t c =
    let j = json_view c.args.value.now in
    let text : as_str j ≡ None = search rules in
    let ref : has_only (codes "ref" ∷ []) j ≡ false = sym c.has_only.ensures ∙ c.if-has_only.false in
    let list : has_only (codes "list" ∷ []) j ≡ true = sym c.has_only-2.ensures ∙ c.if-has_only-2.true in
    rw (held_of_members j text, ref, list) c.list_of.ensures

pub held_of-returns-then-has_only-3 : goal.held_of-returns-then-has_only-3
held_of-returns-then-has_only-3 t c =
    let j = json_view c.args.value.now in
    let text : as_str j ≡ None = search rules in
    let ref : has_only (codes "ref" ∷ []) j ≡ false = sym c.has_only.ensures ∙ c.if-has_only.false in
    let list : has_only (codes "list" ∷ []) j ≡ false = sym c.has_only-2.ensures ∙ c.if-has_only-2.false in
    let optional : has_only (codes "optional" ∷ []) j ≡ true = sym c.has_only-3.ensures ∙ c.if-has_only-3.true in
    rw (held_of_members j text, ref, list, optional) c.optional_of.ensures

pub held_of-returns-then-has_only-4 : goal.held_of-returns-then-has_only-4
held_of-returns-then-has_only-4 t c =
    let j = json_view c.args.value.now in
    let text : as_str j ≡ None = search rules in
    let ref : has_only (codes "ref" ∷ []) j ≡ false = sym c.has_only.ensures ∙ c.if-has_only.false in
    let list : has_only (codes "list" ∷ []) j ≡ false = sym c.has_only-2.ensures ∙ c.if-has_only-2.false in
    let optional : has_only (codes "optional" ∷ []) j ≡ false = sym c.has_only-3.ensures ∙ c.if-has_only-3.false in
    let a_map : has_only (codes "map" ∷ codes "keys" ∷ []) j ≡ true = sym c.has_only-4.ensures ∙ c.if-has_only-4.true in
    rw (held_of_members j text, ref, list, optional, a_map) c.map_of.ensures

pub place_in-place_of-requires : goal.place_in-place_of-requires
place_in-place_of-requires t c =
    let found : get c.args.name.now (json_view c.args.value.now) ≡ Some (json_view c.in-Some.inner.now) = search rules in
    let below : depth (json_view c.in-Some.inner.now) < depth (json_view c.args.value.now) =
    get_depth c.args.name.now (json_view c.args.value.now) (json_view c.in-Some.inner.now) found in
    (omega arith, tt)

pub place_of-held_of-requires : goal.place_of-held_of-requires
place_of-held_of-requires t c =
    let found : get (codes "type") (json_view c.args.value.now) ≡ Some (json_view c.in-Some-get.told.now) = search rules in
    let below : depth (json_view c.in-Some-get.told.now) < depth (json_view c.args.value.now) =
    get_depth (codes "type") (json_view c.args.value.now) (json_view c.in-Some-get.told.now) found in
    (omega arith, tt)

pub list_of-returns-in-None : goal.list_of-returns-in-None
list_of-returns-in-None t c =
    let steps = map step_view c.args.steps.now in
    let found = option_and_then place_of (get (codes "list") (json_view c.args.value.now)) in
    let none : None ≡ option_map (gathered (steps ++ element ∷ [])) found = search rules in
    list_inside steps None found none

pub optional_of-returns-in-None : goal.optional_of-returns-in-None
optional_of-returns-in-None t c =
    let steps = map step_view c.args.steps.now in
    let found = option_and_then place_of (get (codes "optional") (json_view c.args.value.now)) in
    let none : None ≡ option_map (gathered (steps ++ content ∷ [])) found = search rules in
    optional_inside steps None found none

pub place_of-returns-in_default-3 : goal.place_of-returns-in_default-3
place_of-returns-in_default-3 t c =
    let j = json_view c.args.value.now in
    let steps = map step_view c.args.steps.now in
    let told = json_view c.in-Some-get.told.now in
    let only : has_only place_members j ≡ true = search rules in
    let uses : uses_of (codes "constraints") j ≡ Some (map use_view c.in-Some.drafts.items) = search rules in
    let cascade : cascade_of j ≡ Some (cascade_view c.in-Some-2.cascade) = search rules in
    let type : get (codes "type") j ≡ Some told = search rules in
    let none : None ≡ option_map (inside steps) (held_of told) = search rules in
    rw (place_of_members j, only, uses, cascade, type) (place_gathered steps (map use_view c.in-Some.drafts.items) (cascade_view c.in-Some-2.cascade) None (held_of told) none)

pub place_of-returns : goal.place_of-returns
place_of-returns t c =
    let j = json_view c.args.value.now in
    let steps = map step_view c.args.steps.now in
    let told = json_view c.in-Some-get.told.now in
    let only : has_only place_members j ≡ true = search rules in
    let uses : uses_of (codes "constraints") j ≡ Some (map use_view c.in-Some.drafts.items) = search rules in
    let cascade : cascade_of j ≡ Some (cascade_view c.in-Some-2.cascade) = search rules in
    let type : get (codes "type") j ≡ Some told = search rules in
    let held : Some (held_view c.in-Some-3.field-0) ≡ option_map (inside steps) (held_of told) = search rules in
    let kind = kind_of (type_use_view c.in-Some-3.field-0.type_use) in
    let all_uses : map placed_use_view c.in_ok-uses.uses.items ≡ map (use_there steps kind) (map use_view c.in-Some.drafts.items) ++ map placed_use_view c.in-Some-3.field-0.uses.items = search rules in
    let all_cascades : map placed_cascade_view c.in_ok-cascades.cascades.items ≡ cascade_there steps kind (cascade_view c.in-Some-2.cascade) ∷ map placed_cascade_view c.in-Some-3.field-0.cascades.items = search rules in
    ap₂ (λ us cs. Some (record { type = type_use_view c.in-Some-3.field-0.type_use; uses = us; cascades = cs })) all_uses all_cascades
    ∙ rw (place_of_members j, only, uses, cascade, type) (place_gathered steps (map use_view c.in-Some.drafts.items) (cascade_view c.in-Some-2.cascade) (Some (held_view c.in-Some-3.field-0)) (held_of told) held)
