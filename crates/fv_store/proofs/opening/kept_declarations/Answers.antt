use Rattle.sqlite.specs.Held.{state}
use Rattle.fv_store.proofs.Migrations.{only_text}
use Rattle.fv_store.proofs.opening.kept_declarations.Goals as goal

pub returns-clause-taken : goal.returns-clause-taken
returns-clause-taken g c clean =
    let found = c.in_ok-found.found in
    only_text (state g.S.Store c.args.conn.now) found.version found.declarations.items (c.in_ok-found.ensures.taken clean)

pub returns-clause-kept : goal.returns-clause-kept
returns-clause-kept g c clean = (c.in_ok-found.found.version, c.in_ok-found.ensures.kept clean)
