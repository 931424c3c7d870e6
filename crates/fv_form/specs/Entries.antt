-- What tables of forms are made of.
use Rattle.std.specs.Prelude.{ℕ, List, Bool, true, false, if◌then◌else◌}
use Rattle.fv_form.specs.Misfits.{Entry, Form, fits, unfit}
use Rattle.fv_form.specs.declared.form_name.FormName.{FormName}

-- a member that has to be there
abbrev pub must : List ℕ → FormName → Entry FormName
must name form = record { name = name; required = true; form = form }

-- a member that may be missing
abbrev pub may : List ℕ → FormName → Entry FormName
may name form = record { name = name; required = false; form = form }

-- a value that is as it has to be by itself, or not
abbrev pub leaf : Bool → Form FormName
leaf b = if b then fits else unfit
