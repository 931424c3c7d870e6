use Rattle.std.proofs.Common.{◌≡◌, ◌∙◌, ℕ, List, [], map, zip, ap, sym, subst, refl, rules, append-nil}
use Rattle.std.specs.List.{AllZip}
use Rattle.fv_explain.specs.Adding.{texts}
use Rattle.fv_explain.specs.Explained.{TellsForm}
use Rattle.fv_explain.specs.Lines.{line_text}
use Rattle.fv_explain.proofs.Adding.{completes_all}
use Rattle.fv_explain.proofs.Forms.{form_of, form_more, all_forms}
use Rattle.fv_explain.proofs.declared.add_forms.Goals as goal

pub loop-name-init : goal.loop-name-init
loop-name-init c =
    let s = c.args.schema.now in
    let lines = c.args.lines.now in
    let same : c.into_iter-name-iterator.result ≡ c.forms-name-items.result.now.entries = search rules in
    let all : map (form_of s.types) c.into_iter-name-iterator.result ≡ zip s.forms s.form_groups =
    ap (map (form_of s.types)) same ∙ all_forms s.types c.forms-name-items.result.now.entries s.forms s.form_groups c.forms-name-items.ensures.roots c.forms-name-items.ensures.groups in (
      [],
      (sym (append-nil (texts lines)), refl),
      λ rest are. subst (λ (fs : List ((List ℕ × List ℕ) × (List ℕ × List ℕ))). AllZip (TellsForm lines.json s.groups) fs rest) all are,
    )

pub loop-name-preserved-in_ok-add : goal.loop-name-preserved-in_ok-add
loop-name-preserved-in_ok-add c =
    form_more c.args.schema.now c.args.lines.now c.loop-name.lines c.add.new.self c.loop-name.name-iterator c.next.new.self c.in-Some.name.now
    c.in-Some.form.now c.as_str.result.now (line_text c.in_ok-line.line) c.in-Some.ensures.steps c.as_str.ensures.value c.in_ok-line.ensures
    c.in_ok-add.ensures c.loop-name.invariant

pub loop-name-preserved : goal.loop-name-preserved
loop-name-preserved c =
    form_more c.args.schema.now c.args.lines.now c.loop-name.lines c.add.new.self c.loop-name.name-iterator c.next.new.self c.in-Some.name.now
    c.in-Some.form.now c.as_str.result.now (line_text c.in_ok-line.line) c.in-Some.ensures.steps c.as_str.ensures.value c.in_ok-line.ensures
    c.in_ok-add.ensures c.loop-name.invariant

pub loop-name-preserved-in_ok-add-5 : goal.loop-name-preserved-in_ok-add-5
loop-name-preserved-in_ok-add-5 c =
    form_more c.args.schema.now c.args.lines.now c.loop-name.lines c.add.new.self c.loop-name.name-iterator c.next.new.self c.in-Some.name.now
    c.in-Some.form.now c.as_str.result.now (line_text c.in_ok-line.line) c.in-Some.ensures.steps c.as_str.ensures.value c.in_ok-line.ensures
    c.in_ok-add.ensures c.loop-name.invariant

pub returns : goal.returns
returns c =
    let s = c.args.schema.now in
    let was = c.loop-name.invariant in (
      was.0,
      was.1,
      completes_all (TellsForm c.args.lines.now.json s.groups) (zip s.forms s.form_groups) (map (form_of s.types) c.loop-name.name-iterator) was.0
          (ap (map (form_of s.types)) c.in-None.ensures.steps.0) was.2,
    )
