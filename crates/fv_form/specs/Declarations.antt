-- What the forms of declarations ask of JSON.
use Rattle.std.specs.Prelude.{ℕ, List, [], ◌∷◌, Bool, if◌then◌else◌, is_some, codes}
use Rattle.serde_json.specs.Data as json
use Rattle.serde_json.specs.Find.{get}
use Rattle.fv_datum.specs.Lookup.{at_name}
use Rattle.fv_declare_definition.specs.Attributes.{attribute_of}
use Rattle.fv_declare_draft.specs.Places.{plain_kinds}
use Rattle.fv_form.specs.Entries.{must, may, leaf}
use Rattle.fv_form.specs.Misfits.{Entry, Form, unfit, items, object}
use Rattle.fv_form.specs.declared.form_name.FormName.{FormName}
use Rattle.fv_form.specs.declared.form_name.FormName.TheVariants as part

-- an object that has the member of a name
abbrev pub has : List ℕ → json.Data → Bool
has name j = is_some (get name j)

-- ---- what is asked by what is written

-- of a value that an attribute has: of an array that its items are texts
abbrev pub value_form : json.Data → Form FormName
value_form (json.array js) = items part.Text
value_form j = leaf (is_some (attribute_of j))

-- of a group: a sequence where it has one
abbrev pub group_form : json.Data → Form FormName
group_form j =
    if has (codes "sequence") j then object (must (codes "sequence") part.Sequence ∷ [])
    else object (may (codes "inherits") part.Names ∷ [])

-- of a sequence: texts, at least one
abbrev pub sequence_form : json.Data → Form FormName
sequence_form (json.array json.no_items) = unfit
sequence_form j = items part.Text

-- of what is no plain kind: a list, an optional or a map by the member that it has, else a reference
abbrev pub container_form : json.Data → Form FormName
container_form j =
    if has (codes "list") j then object (must (codes "list") part.Place ∷ [])
    else if has (codes "optional") j then object (must (codes "optional") part.Place ∷ [])
    else if has (codes "map") j then object (must (codes "map") part.Place ∷ may (codes "keys") part.Uses ∷ [])
    else object (must (codes "ref") part.Text ∷ [])

-- of what a place holds: a plain kind by its name, or an object
abbrev pub held_form : json.Data → Form FormName
held_form (json.string name) = leaf (is_some (at_name name plain_kinds))
held_form j = container_form j

-- ---- each form

-- the members of declarations, in their order
abbrev pub declarations : List (Entry FormName)
declarations =
    must (codes "types") part.Types ∷ must (codes "forms") part.Forms ∷ may (codes "groups") part.Groups
    ∷ may (codes "constraints") part.Definitions ∷ may (codes "messages") part.Messages ∷ []

-- of a type
abbrev pub of_type : List (Entry FormName)
of_type = must (codes "fields") part.Fields ∷ may (codes "constraints") part.Uses ∷ may (codes "sequence") part.Names ∷ []

-- of a form
abbrev pub of_form : List (Entry FormName)
of_form = must (codes "root") part.Text ∷ may (codes "groups") part.Names ∷ []

-- of a declared constraint
abbrev pub of_definition : List (Entry FormName)
of_definition =
    may (codes "attributes") part.Attributes ∷ may (codes "compose") part.Compose ∷ may (codes "rule") part.Rule
    ∷ may (codes "single") part.Flag ∷ may (codes "message") part.Text ∷ []

-- of an attribute of a declared constraint
abbrev pub of_attribute : List (Entry FormName)
of_attribute = must (codes "kind") part.AttributeKind ∷ may (codes "default") part.Value ∷ []

-- of a composing constraint
abbrev pub of_composing : List (Entry FormName)
of_composing =
    must (codes "constraint") part.Text ∷ may (codes "with") part.With ∷ may (codes "override") part.Override
    ∷ may (codes "message") part.Text ∷ []

-- of a place
abbrev pub of_place : List (Entry FormName)
of_place =
    must (codes "type") part.Held ∷ may (codes "constraints") part.Uses ∷ may (codes "valid") part.Flag
    ∷ may (codes "convert") part.Convert ∷ []

-- of a use of a constraint
abbrev pub of_use : List (Entry FormName)
of_use =
    must (codes "constraint") part.Text ∷ may (codes "with") part.With ∷ may (codes "groups") part.Names
    ∷ may (codes "message") part.Text ∷ []
