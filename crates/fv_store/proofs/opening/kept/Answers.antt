use Rattle.std.proofs.Common.{inr, sym, true≢false, ◌∙◌}
use Rattle.sqlite.specs.Held.{state}
use Rattle.fv_store.specs.Faults.{upgrade_fault}
use Rattle.fv_store.proofs.Migrations.{as_first, first_only, first_tables, migration_excused, not_first, only_text, other_tables, then_upgraded}
use Rattle.fv_store.proofs.Refusals.{handed_on}
use Rattle.fv_store.proofs.opening.kept.Goals as goal

pub migrate-requires-clause-settled : goal.migrate-requires-clause-settled
migrate-requires-clause-settled g c = c.is_autocommit.ensures.settled c.if-prove.false

pub returns-in_err-migrate-clause-store_known : goal.returns-in_err-migrate-clause-store_known
returns-in_err-migrate-clause-store_known g c clean none =
    let old = state g.S.Store c.args.conn.now in
    let about = c.in_ok-about.about in
    let taken = c.in_ok-about.ensures.taken (c.migrate.ensures.frame.clean clean) in
    handed_on _ c.from_residual-in_err-migrate.result (upgrade_fault c.in_err-migrate.field-0.0) c.from_residual-in_err-migrate.ensures.1
    (λ version d tells second is. absurd (second (first_only old about.version about.declarations.items taken (c.is_first.ensures.0 c.if-not-is_first.false) version d tells)))

pub returns-in_err-migrate-clause-store_first : goal.returns-in_err-migrate-clause-store_first
returns-in_err-migrate-clause-store_first g c clean none =
    let old = state g.S.Store c.args.conn.now in
    let mid = state g.S.Store c.stored.new.conn in
    let new = state g.S.Store c.migrate.new.conn in
    let e = c.in_err-migrate.field-0.0 in
    handed_on _ c.from_residual-in_err-migrate.result (upgrade_fault e) c.from_residual-in_err-migrate.ensures.1
    (migration_excused old mid new e (c.migrate.ensures.frame.clean clean) c.stored.ensures.frame c.migrate.ensures.frame.counts (c.stored.ensures.untouched c.requires.settled) (c.in_err-migrate.ensures.damaged clean) (c.in_err-migrate.ensures.cause clean (c.stored.ensures.limit ∙ none)))

pub returns-clause-still : goal.returns-clause-still
returns-clause-still g c =
    let about = c.in_ok-about.about in
    inr (λ clean.
    let late = c.migrate.ensures.frame.clean clean in
    first_tables (state g.S.Store c.args.conn.now) (state g.S.Store c.stored.new.conn) about.version about.declarations.items late (c.in_ok-about.ensures.open late) (c.stored.ensures.untouched c.requires.settled) (c.has_first_tables.ensures.0 c.if-not-has_first_tables.false)
    (c.in_ok-about.ensures.taken late) (c.in_ok-about.ensures.kept late) (c.is_first.ensures.0 c.if-not-is_first.false))

pub returns-then-not-has_first_tables-clause-store_known : goal.returns-then-not-has_first_tables-clause-store_known
returns-then-not-has_first_tables-clause-store_known g c clean none version d tells second is =
    let about = c.in_ok-about.about in
    absurd (second (first_only (state g.S.Store c.args.conn.now) about.version about.declarations.items (c.in_ok-about.ensures.taken clean) (c.is_first.ensures.0 c.if-not-is_first.false) version d tells))

pub returns-then-not-has_first_tables-clause-store_first : goal.returns-then-not-has_first_tables-clause-store_first
returns-then-not-has_first_tables-clause-store_first g c clean none d m keeps all short rows few is =
    absurd (other_tables (state g.S.Store c.args.conn.now) (state g.S.Store c.stored.new.conn) clean (c.in_ok-about.ensures.open clean) (c.stored.ensures.untouched c.requires.settled)
    (λ two. true≢false (sym (c.has_first_tables.ensures.1 two) ∙ c.if-not-has_first_tables.true)) d m keeps)

pub returns-clause-upgraded : goal.returns-clause-upgraded
returns-clause-upgraded g c = then_upgraded (state g.S.Store c.args.conn.now) (state g.S.Store c.stored.new.conn) (state g.S.Store c.migrate.new.conn) (c.stored.ensures.untouched c.requires.settled) c.in_ok-migrate.ensures.done

pub returns-clause-taken : goal.returns-clause-taken
returns-clause-taken g c clean =
    let about = c.in_ok-about.about in
    only_text (state g.S.Store c.args.conn.now) about.version about.declarations.items (c.in_ok-about.ensures.taken (c.migrate.ensures.frame.clean clean))

pub returns-then-not-is_first-clause-taken : goal.returns-then-not-is_first-clause-taken
returns-then-not-is_first-clause-taken g c clean =
    let about = c.in_ok-about.about in
    only_text (state g.S.Store c.args.conn.now) about.version about.declarations.items (c.in_ok-about.ensures.taken clean)

pub returns-then-not-is_first-clause-upgraded : goal.returns-then-not-is_first-clause-upgraded
returns-then-not-is_first-clause-upgraded g c =
    let about = c.in_ok-about.about in
    not_first (state g.S.Store c.args.conn.now) (state g.S.Store c.stored.new.conn) about.version about.declarations.items c.stored.ensures.frame c.in_ok-about.ensures.open c.in_ok-about.ensures.taken
    (λ first. true≢false (sym (c.is_first.ensures.1 first) ∙ c.if-not-is_first.true))

pub returns-clause-kept : goal.returns-clause-kept
returns-clause-kept g c clean =
    let about = c.in_ok-about.about in
    let late = c.migrate.ensures.frame.clean clean in (
      about.version,
      c.in_ok-about.ensures.kept late,
      λ first.
          (first_tables (state g.S.Store c.args.conn.now) (state g.S.Store c.stored.new.conn) about.version about.declarations.items late (c.in_ok-about.ensures.open late) (c.stored.ensures.untouched c.requires.settled) (c.has_first_tables.ensures.0 c.if-not-has_first_tables.false)
          (c.in_ok-about.ensures.taken late) (c.in_ok-about.ensures.kept late) first).0,
    )

pub returns-then-not-is_first-clause-kept : goal.returns-then-not-is_first-clause-kept
returns-then-not-is_first-clause-kept g c clean =
    (c.in_ok-about.about.version, c.in_ok-about.ensures.kept clean, λ first. absurd (true≢false (sym (c.is_first.ensures.1 first) ∙ c.if-not-is_first.true)))

pub returns-in_err-migrate-clause-unread : goal.returns-in_err-migrate-clause-unread
returns-in_err-migrate-clause-unread g c clean =
    let about = c.in_ok-about.about in
    handed_on _ c.from_residual-in_err-migrate.result (upgrade_fault c.in_err-migrate.field-0.0) c.from_residual-in_err-migrate.ensures.1
    (λ is. as_first (state g.S.Store c.args.conn.now) (state g.S.Store c.migrate.new.conn) about.version about.declarations.items (c.in_ok-about.ensures.kept (c.migrate.ensures.frame.clean clean)) (c.is_first.ensures.0 c.if-not-is_first.false))

pub returns-then-not-has_first_tables-clause-unread : goal.returns-then-not-has_first_tables-clause-unread
returns-then-not-has_first_tables-clause-unread g c clean is =
    let about = c.in_ok-about.about in
    as_first (state g.S.Store c.args.conn.now) (state g.S.Store c.stored.new.conn) about.version about.declarations.items (c.in_ok-about.ensures.kept clean) (c.is_first.ensures.0 c.if-not-is_first.false)
