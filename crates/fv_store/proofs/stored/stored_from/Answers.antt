use Rattle.std.proofs.Common.{Ok, sym, ap, ap₂, ◌∙◌}
use Rattle.fv_bundle.specs.Views.{bundle_view}
use Rattle.fv_bundle.specs.TypesView.{types_view}
use Rattle.fv_store.specs.Stored.{stored_view}
use Rattle.fv_store.proofs.Faults.{gives_memory, same_ok, store_memory}
use Rattle.fv_store.proofs.RowsRead.{record_back, root_back}
use Rattle.fv_store_tables.specs.Stands.{Entry}
use Rattle.fv_store.proofs.stored.stored_from.Goals as goal

pub returns-in_err-bundle-clause-read : goal.returns-in_err-bundle-clause-read
returns-in_err-bundle-clause-read c k typed same =
    let e = c.in_err-bundle.field-0.0 in
    let read = record_back (types_view c.args.types.now) k c.args.rows.now c.args.types.now.shallow typed same in
    gives_memory stored_view c.from_residual.result (Ok k) e c.from_residual.ensures.1 (store_memory e k.bundle (c.in_err-bundle.ensures.read k.bundle typed (root_back k c.args.rows.now same) read))

pub returns-clause-read : goal.returns-clause-read
returns-clause-read c k typed same =
    let read = record_back (types_view c.args.types.now) k c.args.rows.now c.args.types.now.shallow typed same in
    let bundle = same_ok k.bundle (bundle_view c.in_ok-bundle.bundle) (c.in_ok-bundle.ensures.read k.bundle typed (root_back k c.args.rows.now same) read) in
    ap₂ (λ f b. Ok (record { form = f; bundle = b })) (sym (c.in_ok-form.ensures.ok ∙ ap (λ (e : Entry). e.form) same)) bundle
