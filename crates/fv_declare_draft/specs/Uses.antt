-- Uses of constraints as they are written.
use Rattle.std.specs.Prelude.{ℕ, List, [], ◌∷◌, Option, codes}
use Rattle.serde_json.specs.Data as json
use Rattle.serde_json.specs.Find.{as_str}
use Rattle.fv_datum.specs.Attributes.{Attributes}
use Rattle.fv_datum.specs.Forms.{only, required, optional, each_member, each_item, map4}
use Rattle.fv_declare_definition.specs.Attributes.{attr_of}
use Rattle.fv_declare_definition.specs.Written.{message_of}
use Rattle.fv_datum.specs.NameLists.{names_of}

-- a use of a constraint, with the attributes that it gives, the names of its groups, and the template of its message, if it has one of its
-- own. Where it names no group, `Default` is meant
pub record UseDraft : Type 0 where
  pub constraint : List ℕ
  pub given : Attributes
  pub groups : List (List ℕ)
  pub message : Option (List ℕ)

-- `{"constraint":NAME,"with":{..},"groups":[GROUP],"message":TEMPLATE}`, only `constraint` is required
abbrev pub use_of : json.Data → Option UseDraft
use_of = only (codes "constraint" ∷ codes "with" ∷ codes "groups" ∷ codes "message" ∷ []) (λ j.
    map4 (λ name given groups message. record { constraint = name; given = given; groups = groups; message = message })
    (required as_str (codes "constraint") j) (optional [] (each_member attr_of) (codes "with") j) (names_of (codes "groups") j)
    (message_of j))

-- the uses at a place, by the member of that name, which may be missing
abbrev pub uses_of : List ℕ → json.Data → Option (List UseDraft)
uses_of = optional [] (each_item use_of)
