use Rattle.std.proofs.Common.{◌≡◌, ◌∷◌, ◌++◌, ℕ, List, String, map, refl, sym, subst, ◌∙◌}
use Rattle.std.specs.declared.alloc.Global.{Global}
use Rattle.fv_declare_schema.specs.SchemaView.{form_entry}
use Rattle.fv_declare_schema.specs.declared.schema.Form.{Form}
use Rattle.formd_words.proofs.Formed.{AreApart, forms_apart, insert_new}
use Rattle.formd_words.proofs.comparing.forms_of.Goals as goal

pub loop-name-preserved : goal.loop-name-preserved
loop-name-preserved c =
    let ts = c.args.schema.now.types in
    let entry : String Global × Form = (c.in-Some.name.now, c.in-Some.form.now) in
    let more = map (form_entry ts) c.next.new.self in
    let name = c.as_str.result in
    let root = c.name.result in
    let before : map (λ e. (e.0.now, e.1.now)) c.loop-name.forms.entries ++ map (form_entry ts) (entry ∷ c.next.new.self) ≡ c.args.schema.now.forms = rw c.in-Some.ensures.steps at c.loop-name.invariant in
    let whole : map (λ e. (e.0.now, e.1.now)) c.loop-name.forms.entries ++ (name.now, root.now) ∷ more ≡ c.args.schema.now.forms = rw (c.as_str.ensures.value, c.name.ensures, c.types.ensures) before in
    let all = subst AreApart c.forms.ensures.roots (forms_apart (form_entry ts) (λ e. refl) c.forms.result.now.entries c.iter-name-items.ensures.unique) in
    let apart = subst AreApart (sym whole) all in
    rw c.in_ok-insert.ensures.entries (insert_new (λ k. k.now) (λ v. v.now) c.loop-name.forms.entries name root more apart ∙ whole)
