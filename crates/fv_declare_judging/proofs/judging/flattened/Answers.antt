use Rattle.std.proofs.Common.{◌≡◌, ◌≢◌, List, map, not, is_some, true, false, Option, Some, None, Result, Ok, Err, IfErr, refl, sym, ap, subst, ◌∙◌, true≢false}
use Rattle.std.proofs.lemmas.Result.{err_from_is_err_and}
use Rattle.std.specs.List.{AllZip, list_any}
use Rattle.fv_constraint.specs.Meanings.{meant_by}
use Rattle.fv_flatten.specs.Flattening as flat
use Rattle.fv_constraint_tree.specs.TargetFits.{tree_fits}
use Rattle.fv_declare_definition.specs.Definitions.{Definitions}
use Rattle.fv_declare_draft.specs.AllUses.{DraftUse}
use Rattle.fv_declare_draft.specs.Drafts.{Drafted}
use Rattle.fv_declare_draft.specs.DraftViews.{draft_view}
use Rattle.fv_declare_draft.specs.UseViews.{use_view}
use Rattle.fv_message.specs.Table.{Messages}
use Rattle.fv_message.specs.declared.fault.MessageFault.{MessageFault}
use Rattle.fv_message.specs.declared.fault.MessageFault.TheVariants.{Memory}
use Rattle.fv_declare_judging.specs.FaultNames.{flatten_fault, message_fault}
use Rattle.fv_declare_judging.specs.Judging.{IsAnswerTo, tree_faults, is_wordy, lacks_memory}
use Rattle.fv_declare_judging.specs.Used.{used}
use Rattle.fv_declare_judging.specs.Whereabouts.{IsAt}
use Rattle.fv_declare_judging.specs.WordingPlaces.{fault_told, limit_told, IsWordedAt}
use Rattle.fv_declare_judging.specs.declared.fault.DeclFault.{DeclFault}
use Rattle.fv_declare_judging.specs.declared.placed.PlacedWording.{PlacedWording}
use Rattle.fv_declare_judging.proofs.Found.{used_known}
use Rattle.fv_declare_judging.proofs.Judged.{Treed, treed, moved, empty, large, wordy, refused, are_read, misworded, limited, not_limited, placed_in_trees, placed_moved, placed_in_wording}
use Rattle.fv_declare_judging.proofs.judging.flattened.Goals as goal

pub returns-in-Some-clause-refused : goal.returns-in-Some-clause-refused
returns-in-Some-clause-refused g c =
    let k = g.R.RuleSet.known c.args.rules.now in
    let d = draft_view c.args.draft.now in
    let p = c.args.parts.now in
    let checked = c.requires.checked in
    let first = checked.wording (sym c.if-lacks_memory.ensures) in
    λ other. empty k d (fault_told p.wording) first.0 c.trees_are_unique.ensures (sym c.in-Some.ensures.found)

pub first_limit-requires-clause-named : goal.first_limit-requires-clause-named
first_limit-requires-clause-named g c =
    let d = draft_view c.args.draft.now in
    subst (λ (ds : Definitions). list_any (λ (u : DraftUse). not (is_some (meant_by ds u.draft.constraint))) (map use_view c.args.uses.now) ≡ false) (sym c.requires.composed)
    (subst (λ (us : List DraftUse). list_any (λ (u : DraftUse). not (is_some (meant_by d.definitions u.draft.constraint))) us ≡ false) (sym c.requires.checked.uses) (used_known d c.requires.checked.named))

pub returns-in-Some-first_limit-clause-refused : goal.returns-in-Some-first_limit-clause-refused
returns-in-Some-first_limit-clause-refused g c =
    let k = g.R.RuleSet.known c.args.rules.now in
    let d = draft_view c.args.draft.now in
    let p = c.args.parts.now in
    let checked = c.requires.checked in
    let first = checked.wording (sym c.if-lacks_memory.ensures) in
    let full = sym c.in_default.ensures.found in
    let e = c.in-Some-first_limit.ensures in
    let t : Treed d = (e.0, treed d _ _ e.0 c.requires.composed checked.uses e.1) in
    λ other. large k d (fault_told p.wording) first.0 c.trees_are_unique.ensures full t (limited d p.types checked.types (limit_told p.wording) first.1 t (Some c.in-Some-first_limit.limit) e.2 c.in-Some-first_limit.limit refl).0

pub returns-in-Some-first_limit-clause-placed : goal.returns-in-Some-first_limit-clause-placed
returns-in-Some-first_limit-clause-placed g c =
    let k = g.R.RuleSet.known c.args.rules.now in
    let d = draft_view c.args.draft.now in
    let p = c.args.parts.now in
    let checked = c.requires.checked in
    let first = checked.wording (sym c.if-lacks_memory.ensures) in
    let e = c.in-Some-first_limit.ensures in
    let t : Treed d = (e.0, treed d _ _ e.0 c.requires.composed checked.uses e.1) in
    λ other. (limited d p.types checked.types (limit_told p.wording) first.1 t (Some c.in-Some-first_limit.limit) e.2 c.in-Some-first_limit.limit refl).1

pub trees_of-requires : goal.trees_of-requires
trees_of-requires g c =
    let d = draft_view c.args.draft.now in
    subst (λ (ds : Definitions). list_any (λ (u : DraftUse). not (is_some (meant_by ds u.draft.constraint))) (map use_view c.args.uses.now) ≡ false) (sym c.requires.composed)
    (subst (λ (us : List DraftUse). list_any (λ (u : DraftUse). not (is_some (meant_by d.definitions u.draft.constraint))) us ≡ false) (sym c.requires.checked.uses) (used_known d c.requires.checked.named))

pub returns-in_err-trees-clause-refused : goal.returns-in_err-trees-clause-refused
returns-in_err-trees-clause-refused g c =
    let k = g.R.RuleSet.known c.args.rules.now in
    let d = draft_view c.args.draft.now in
    let p = c.args.parts.now in
    let checked = c.requires.checked in
    let first = checked.wording (sym c.if-lacks_memory.ensures) in
    let full = sym c.in_default.ensures.found in
    let e = c.in_default-first_limit.ensures in
    let t : Treed d = (e.0, treed d _ _ e.0 c.requires.composed checked.uses e.1) in
    let small = not_limited d p.types checked.types (limit_told p.wording) first.1 t None e.2 refl in
    let f = c.in_err-trees.field-0.0 in
    let q = err_from_is_err_and c.from_residual.result c.from_residual.ensures.1 in
    rw q.1 (λ other.
    let is = moved k d _ _ (Err f.fault) c.requires.composed (ap (map used) checked.uses) (c.in_err-trees.ensures.refused (λ so. other (q.2.0 ∙ ap flatten_fault so))) in
    subst (λ (e : DeclFault). IsAnswerTo k d tree_faults (Err e)) (sym q.2.0) (refused k d (fault_told p.wording) first.0 c.trees_are_unique.ensures full t small f.fault is))

pub returns-in_err-trees-clause-placed : goal.returns-in_err-trees-clause-placed
returns-in_err-trees-clause-placed g c =
    let k = g.R.RuleSet.known c.args.rules.now in
    let d = draft_view c.args.draft.now in
    let p = c.args.parts.now in
    let checked = c.requires.checked in
    let first = checked.wording (sym c.if-lacks_memory.ensures) in
    let f = c.in_err-trees.field-0.0 in
    let q = err_from_is_err_and c.from_residual.result c.from_residual.ensures.1 in
    rw q.1 (λ other.
    let seen = ap (map used) checked.uses in
    let is = moved k d _ _ (Err f.fault) c.requires.composed seen (c.in_err-trees.ensures.refused (λ so. other (q.2.0 ∙ ap flatten_fault so))) in
    let there = placed_moved k d _ _ f.fault f.at c.requires.composed seen (c.in_err-trees.ensures.placed (λ so. other (q.2.0 ∙ ap flatten_fault so))) in
    subst (λ (e : DeclFault). IsAt k d e q.0.at) (sym q.2.0) (subst (IsAt k d (flatten_fault f.fault)) (sym q.2.1) (placed_in_trees k d f.fault f.at is (there is.0 is.1))))

pub returns-in-Ok-clause-taken : goal.returns-in-Ok-clause-taken
returns-in-Ok-clause-taken g c =
    let k = g.R.RuleSet.known c.args.rules.now in
    let d = draft_view c.args.draft.now in
    let p = c.args.parts.now in
    let checked = c.requires.checked in
    let first = checked.wording (sym c.if-lacks_memory.ensures) in
    let full = sym c.in_default.ensures.found in
    let e = c.in_default-first_limit.ensures in
    let t : Treed d = (e.0, treed d _ _ e.0 c.requires.composed checked.uses e.1) in
    let small = not_limited d p.types checked.types (limit_told p.wording) first.1 t None e.2 refl in
    let os = c.in_ok-trees.trees.items in
    let seen = ap (map used) checked.uses in
    are_read k d (fault_told p.wording) first.0 c.trees_are_unique.ensures full t small os (moved k d _ _ (Ok os) c.requires.composed seen c.in_ok-trees.ensures.taken) (ap fault_told c.in-Ok.is)
    (subst (λ (us : List flat.Use). AllZip (λ u o. tree_fits k u.place o ≡ true) us os) seen c.in_ok-trees.ensures.fits)

pub returns-in-Err-clause-refused : goal.returns-in-Err-clause-refused
returns-in-Err-clause-refused g c =
    let k = g.R.RuleSet.known c.args.rules.now in
    let d = draft_view c.args.draft.now in
    let p = c.args.parts.now in
    let checked = c.requires.checked in
    let first = checked.wording (sym c.if-lacks_memory.ensures) in
    let full = sym c.in_default.ensures.found in
    let e = c.in_default-first_limit.ensures in
    let t : Treed d = (e.0, treed d _ _ e.0 c.requires.composed checked.uses e.1) in
    let small = not_limited d p.types checked.types (limit_told p.wording) first.1 t None e.2 refl in
    let os = c.in_ok-trees.trees.items in
    λ other.
    subst (λ (e : DeclFault). IsAnswerTo k d tree_faults (Err e)) (sym c.from.ensures.0)
    (misworded k d (fault_told p.wording) first.0 c.trees_are_unique.ensures full t small os (moved k d _ _ (Ok os) c.requires.composed (ap (map used) checked.uses) c.in_ok-trees.ensures.taken) c.in-Err.placed.fault (ap fault_told c.in-Err.is))

-- a fault that is told of the wording, where it isn't want of memory
err_told : (d : Drafted) (r : Result Messages PlacedWording) (w : PlacedWording) → r ≡ Err w → lacks_memory (fault_told r) ≡ false → IfErr r (λ e. e.fault ≢ Memory → IsWordedAt d e.fault e.at) → IsWordedAt d w.fault w.at
err_told d (Ok m) w is kept h = cc
err_told d (Err e) w is kept h =
    let same : e ≡ w = cc in
    subst (λ (v : PlacedWording). IsWordedAt d v.fault v.at) same (h (λ memory. true≢false (sym (ap (λ f. lacks_memory (Some f)) memory) ∙ kept)))

pub returns-in-Err-clause-placed : goal.returns-in-Err-clause-placed
returns-in-Err-clause-placed g c =
    let k = g.R.RuleSet.known c.args.rules.now in
    let d = draft_view c.args.draft.now in
    let p = c.args.parts.now in
    let checked = c.requires.checked in
    let first = checked.wording (sym c.if-lacks_memory.ensures) in
    let full = sym c.in_default.ensures.found in
    let e = c.in_default-first_limit.ensures in
    let t : Treed d = (e.0, treed d _ _ e.0 c.requires.composed checked.uses e.1) in
    let small = not_limited d p.types checked.types (limit_told p.wording) first.1 t None e.2 refl in
    let w = c.in-Err.placed in
    let small_fault : is_wordy (Some w.fault) ≡ false = subst (λ (o : Option MessageFault). is_wordy o ≡ false) (ap fault_told c.in-Err.is) (wordy k d (fault_told p.wording) first.0 c.trees_are_unique.ensures full t small) in
    let there : IsWordedAt d w.fault w.at = err_told d p.wording w c.in-Err.is (sym c.if-lacks_memory.ensures) checked.worded in
    λ other.
    subst (λ (e : DeclFault). IsAt k d e c.from.result.at) (sym c.from.ensures.0) (subst (IsAt k d (message_fault w.fault)) (sym c.from.ensures.1) (placed_in_wording k d w.fault w.at small_fault there))
