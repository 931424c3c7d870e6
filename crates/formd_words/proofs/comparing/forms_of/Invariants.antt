use Rattle.std.proofs.Common.{◌≡◌, ◌++◌, map}
use Rattle.fv_declare_schema.specs.SchemaView.{form_entry}
use Rattle.formd_words.proofs.comparing.forms_of.Given as goal

abbrev pub invariant-loop-name : goal.invariant-loop-name
invariant-loop-name l = map (λ e. (e.0.now, e.1.now)) l.forms.entries ++ map (form_entry l.schema.types) l.name-iterator ≡ l.schema.forms
