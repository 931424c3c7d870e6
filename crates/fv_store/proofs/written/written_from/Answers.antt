use Rattle.std.proofs.Common.{ap, ap₂, ◌∙◌}
use Rattle.serde_json.specs.Read.{read}
use Rattle.fv_store_tables.specs.Stands.{Entry}
use Rattle.fv_store.proofs.Joined.{kept_text}
use Rattle.fv_store.proofs.ReadBack.{bundle_back}
use Rattle.fv_store.proofs.written.written_from.Goals as goal

pub returns-clause-text : goal.returns-clause-text
returns-clause-text c types k typed same =
    ap₂ (λ f t. (f, t)) (c.in_ok-form.ensures.ok ∙ ap (λ (e : Entry). e.form) same) (kept_text k c.args.rows.now _ c.in_ok-bundle.ensures typed.ascending same)

pub returns-clause-read : goal.returns-clause-read
returns-clause-read c types k few typed same =
    let text = kept_text k c.args.rows.now _ c.in_ok-bundle.ensures typed.ascending same in
    ap₂ (λ f j. (f, j)) (c.in_ok-form.ensures.ok ∙ ap (λ (e : Entry). e.form) same) (ap read text ∙ bundle_back types k.bundle few typed)
