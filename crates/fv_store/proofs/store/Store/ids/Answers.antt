use Rattle.std.proofs.Common.{◌≡◌, ℕ, List, [], Bor, option_map, map, string_bytes, unwrap_or, refl, ap, subst, ◌∙◌, not}
use Rattle.sqlite.specs.Held.{state}
use Rattle.fv_store.specs.Faults.{fault_of}
use Rattle.fv_store.specs.Lists.{ListsOf}
use Rattle.fv_store.specs.Stands.{about_rows}
use Rattle.fv_store.proofs.Openings.{keeps_of, holds_still}
use Rattle.fv_store.proofs.Holdings.{same_connection, is_refusal}
use Rattle.fv_store.proofs.Refusals.{handed_on}
use Rattle.fv_store.proofs.Kept.{all_kept}
use Rattle.fv_store.proofs.Listed.{begins, all_ids}
use Rattle.fv_store.proofs.store.Store.ids.Goals as goal

pub returns-clause-found : goal.returns-clause-found
returns-clause-found g c clean k holds =
    let same : c.self.inside.connection ≡ c.args.self.now.connection = same_connection c.self.view_is in
    let found = rw same at (c.in_ok-find_all_ids.ensures.found clean) in
    let start : c.unwrap_or-above.result.now ≡ unwrap_or (option_map (λ s. s.now) c.args.after) [] = ap (λ (s : Bor (List ℕ)). s.now) c.unwrap_or-above.ensures ∙ begins c.args.after _ refl in
    subst (λ (above : List ℕ). ListsOf k.records (λ k. Unit {0}) above c.args.limit (map string_bytes c.in_ok-find_all_ids.field-0.items)) start
    (all_ids k.records _ c.args.limit _ (found.1 (about_rows k.bytes) (all_kept k.records) (keeps_of (state g.S.Store c.args.self.now.connection) k holds)))

pub returns-clause-stays : goal.returns-clause-stays
returns-clause-stays g c =
    let same : c.self.inside.connection ≡ c.args.self.now.connection = same_connection c.self.view_is in
    rw same at (holds_still (state g.S.Store c.self.inside.connection) (state g.S.Store c.find_all_ids.new.conn) c.find_all_ids.ensures.frame (λ d m. c.find_all_ids.ensures.stays (about_rows d) (all_kept m)))

pub returns-in_err-find_all_ids-clause-stays : goal.returns-in_err-find_all_ids-clause-stays
returns-in_err-find_all_ids-clause-stays g c =
    let same : c.self.inside.connection ≡ c.args.self.now.connection = same_connection c.self.view_is in
    rw same at (holds_still (state g.S.Store c.self.inside.connection) (state g.S.Store c.find_all_ids.new.conn) c.find_all_ids.ensures.frame (λ d m. c.find_all_ids.ensures.stays (about_rows d) (all_kept m)))

pub returns-in_err-find_all_ids-clause-cause : goal.returns-in_err-find_all_ids-clause-cause
returns-in_err-find_all_ids-clause-cause g c clean =
    let same : c.self.inside.connection ≡ c.args.self.now.connection = same_connection c.self.view_is in
    handed_on _ c.from_residual.result (fault_of c.in_err-find_all_ids.field-0.0) c.from_residual.ensures.1
    (λ is k holds. rw same at (c.in_err-find_all_ids.ensures.cause clean c.self.invariant.1 (about_rows k.bytes) (all_kept k.records)) (keeps_of (state g.S.Store c.args.self.now.connection) k holds) (is_refusal c.in_err-find_all_ids.field-0.0 is))

pub returns-clause-untouched : goal.returns-clause-untouched
returns-clause-untouched g c =
    let same : c.self.inside.connection ≡ c.args.self.now.connection = same_connection c.self.view_is in
    λ k holds.
    rw same at (c.find_all_ids.ensures.untouched (c.is_autocommit.ensures.settled (c.is_autocommit.ensures.value ∙ ap not c.self.invariant.0)) (about_rows k.bytes) (all_kept k.records)) (keeps_of (state g.S.Store c.args.self.now.connection) k holds)

pub returns-in_err-find_all_ids-clause-untouched : goal.returns-in_err-find_all_ids-clause-untouched
returns-in_err-find_all_ids-clause-untouched g c =
    let same : c.self.inside.connection ≡ c.args.self.now.connection = same_connection c.self.view_is in
    λ k holds.
    rw same at (c.find_all_ids.ensures.untouched (c.is_autocommit.ensures.settled (c.is_autocommit.ensures.value ∙ ap not c.self.invariant.0)) (about_rows k.bytes) (all_kept k.records)) (keeps_of (state g.S.Store c.args.self.now.connection) k holds)
