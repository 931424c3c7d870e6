use Rattle.fv_explain.proofs.Forms.{FormsSoFar}
use Rattle.fv_explain.proofs.declared.add_forms.Given as goal

-- the lines so far, with those of the forms that are left, are those of all
abbrev pub invariant-loop-name : goal.invariant-loop-name
invariant-loop-name l = FormsSoFar l.schema l.initial.lines l.name-iterator l.lines
