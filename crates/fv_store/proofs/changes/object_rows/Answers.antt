use Rattle.std.proofs.Common.{◌≡◌, map, subst, sym, ap, ◌∙◌, rules}
use Rattle.fv_bundle.specs.Views.{bundle_view}
use Rattle.fv_model.specs.Writing.{named_written}
use Rattle.fv_store.specs.Written.{object_kept}
use Rattle.fv_store.proofs.Apart.{rows_of, rows_apart}
use Rattle.fv_store.proofs.changes.object_rows.Goals as goal
use Rattle.fv_store_tables.specs.Changes.{AreApart, objects_view}

pub returns-clause-apart : goal.returns-clause-apart
returns-clause-apart c =
    let rows : objects_view c.loop-name.rows.items ≡ map object_kept (map named_written (bundle_view c.args.bundle.now).objects) = search rules in
    let es = c.objects-objects.result.now.entries in
    let is : objects_view c.loop-name.rows.items ≡ rows_of es = rows ∙ ap (λ os. map object_kept (map named_written os)) (sym c.objects-objects.ensures) in
    subst AreApart (sym is) (rows_apart es c.iter-name-items.ensures.unique)
