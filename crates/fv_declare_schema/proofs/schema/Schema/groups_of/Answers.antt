use Rattle.std.proofs.Common.{Bor, ℕ, List, Option, Some, option_map, sym, ap, subst, ◌∙◌}
use Rattle.std.specs.Option.{IfSome}
use Rattle.fv_declare_schema.specs.Tables.{indices}
use Rattle.fv_declare_schema.specs.declared.declared.GroupId.{GroupId}
use Rattle.std.specs.List.{AllByRecursion}
use Rattle.fv_declare_schema.specs.Declarations.{Declarations}
use Rattle.fv_declare_schema.specs.Ordered.{AreGroups}
use Rattle.fv_declare_schema.specs.declared.schema.Form.{Form}
use Rattle.fv_datum.proofs.Lookups.{found_in}
use Rattle.fv_declare_schema.proofs.FormGroups.{form_within}
use Rattle.fv_declare_schema.proofs.schema.Schema.groups_of.Goals as goal

pub returns-in-None-clause-groups : goal.returns-in-None-clause-groups
returns-in-None-clause-groups c =
    let s = c.self.inside in
    rw (← c.self.view_is) (ap (option_map (λ (x : Bor Form). indices x.now.groups.items)) (sym c.in-None.is)
    ∙ found_in (λ (x : Form). indices x.groups.items) c.args.form.now s.numbered.forms.entries c.get.result c.get.ensures.value)

pub returns-in-Some-clause-groups : goal.returns-in-Some-clause-groups
returns-in-Some-clause-groups c =
    let s = c.self.inside in
    rw (← c.self.view_is) (ap (λ (gs : List GroupId). Some (indices gs)) c.deref.ensures.value ∙ ap (option_map (λ (x : Bor Form). indices x.now.groups.items)) (sym c.in-Some.is)
    ∙ found_in (λ (x : Form). indices x.groups.items) c.args.form.now s.numbered.forms.entries c.get.result c.get.ensures.value)

pub returns-in-Some-clause-within : goal.returns-in-Some-clause-within
returns-in-Some-clause-within c =
    let ds = c.args.self.now in
    let all : AllByRecursion (λ (f : List ℕ × List ℕ). AreGroups ds.groups f.1) ds.form_groups =
    subst (λ (d : Declarations). AllByRecursion (λ (f : List ℕ × List ℕ). AreGroups d.groups f.1) d.form_groups) c.self.view_is c.self.invariant.grouped.forms in
    subst (λ (o : Option (List ℕ)). IfSome o (AreGroups ds.groups)) (sym (returns-in-Some-clause-groups c)) (form_within ds.groups c.args.form.now ds.form_groups all)
