-- Groups as they are written.
use Rattle.std.specs.Prelude.{ℕ, List, [], ◌∷◌, Option, Some, None, option_map, option_and_then, if◌then◌else◌, codes}
use Rattle.serde_json.specs.Data as json
use Rattle.fv_datum.specs.Forms.{only, required}
use Rattle.fv_datum.specs.Members.{has_only}
use Rattle.fv_datum.specs.NameLists.{names_in, names_of}
use Rattle.fv_declare_schema.specs.Groups.{Form, inherits, sequence}

-- a sequence, which has at least one member
abbrev pub sequence_of : List (List ℕ) → Option Form
sequence_of [] = None
sequence_of (name ∷ names) = Some (sequence (name ∷ names))

-- `{"inherits":[GROUP]}`, `{"sequence":[GROUP]}` with at least one member, or `{}`
abbrev pub group_form_of : json.Data → Option Form
group_form_of j =
    if has_only (codes "inherits" ∷ []) j then option_map inherits (names_of (codes "inherits") j)
    else only (codes "sequence" ∷ []) (λ k. option_and_then sequence_of (required names_in (codes "sequence") k)) j

-- a group with its name
abbrev pub group_of : List ℕ × json.Data → Option (List ℕ × Form)
group_of m = option_map (λ form. (m.0, form)) (group_form_of m.1)
