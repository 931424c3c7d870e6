-- Types, forms, groups, messages and declarations as a whole: a value has no misfit exactly where it is read.
use Rattle.std.proofs.Common.{◌≡◌, ℕ, List, [], ◌∷◌, Bool, true, false, if◌then◌else◌, Option, Some, None, option_map, option_and_then, is_some, codes, refl, sym, ap, ◌∙◌}
use Rattle.serde_json.specs.Data as json
use Rattle.serde_json.specs.Find.{get_member, as_str}
use Rattle.fv_datum.specs.Forms.{each_member, each_item, map2, map3, map5, required, maybe, optional}
use Rattle.fv_datum.specs.Members.{listed, each_some, has_only}
use Rattle.fv_datum.specs.NameLists.{names_in, names_of}
use Rattle.fv_declare_definition.specs.Definitions.{Definitions}
use Rattle.fv_declare_definition.specs.Written.{definition_of}
use Rattle.fv_declare_draft.specs.Drafts.{FieldDraft, TypeDraft, FormDraft, Drafted, field_of, type_of, form_of, draft_of}
use Rattle.fv_declare_draft.specs.Groups.{sequence_of, group_form_of, group_of}
use Rattle.fv_declare_draft.specs.Messages as written
use Rattle.fv_declare_draft.specs.Places.{type_at, uses_at, cascades_at, place_of}
use Rattle.fv_declare_draft.specs.Uses.{UseDraft, use_of, uses_of}
use Rattle.fv_declare_schema.specs.Groups.{Form, Groups, inherits}
use Rattle.fv_form.specs.Asked.{asked}
use Rattle.fv_form.specs.Declarations.{declarations, of_type, of_form}
use Rattle.fv_form.specs.Entries.{must, may}
use Rattle.fv_form.specs.Misfits as spec
use Rattle.fv_form.specs.declared.form_name.FormName.{FormName}
use Rattle.fv_form.specs.declared.form_name.FormName.TheVariants as part
use Rattle.fv_form.proofs.Told.{none_in, map_read, map2_read, map3_read, map5_read, none1, none2, none3, none5, items_told, must_told, may_told, maybe_told, in_object, only_told, object_kept, members_kept}
use Rattle.fv_form.proofs.Written.{is_kept, entry_at, in_entries, text_kept, definitions_kept}
use Rattle.fv_form.proofs.Placed.{names_kept, uses_kept, place_kept, others_out}

-- ---- types

pub fields_kept : (j : json.Data) → is_kept part.Fields j ≡ is_some (each_member field_of j)
fields_kept = members_kept asked part.Fields part.Place field_of (λ j. refl) (λ m.
    place_kept m.1 ∙ sym (map_read {Y = FieldDraft} (λ place. record { name = m.0; type = type_at place; uses = uses_at [] place; cascades = cascades_at [] place }) (place_of m.1)))

abbrev type_made : List ℕ → List FieldDraft → List UseDraft → Option (List (List ℕ)) → TypeDraft
type_made name fields uses sequence = record { name = name; fields = fields; uses = uses; sequence = sequence }

abbrev type_in : List ℕ → json.Data → Option TypeDraft
type_in name j = map3 (type_made name) (required (each_member field_of) (codes "fields") j) (uses_of (codes "constraints") j) (maybe names_in (codes "sequence") j)

type_right : (name : List ℕ) (ms : json.Members) → none_in (in_entries part.Type of_type ms) ≡ is_some (type_in name (json.object ms))
type_right name ms =
    let j = json.object ms in
    let fields : Option (List FieldDraft) = required (each_member field_of) (codes "fields") j in
    let uses : Option (List UseDraft) = uses_of (codes "constraints") j in
    let sequence : Option (Option (List (List ℕ))) = maybe names_in (codes "sequence") j in
    none3 (entry_at part.Type ms (must (codes "fields") part.Fields)) (entry_at part.Type ms (may (codes "constraints") part.Uses)) (entry_at part.Type ms (may (codes "sequence") part.Names))
    (is_some fields) (is_some uses) (is_some sequence)
    (must_told asked part.Type (codes "fields") part.Fields (each_member field_of) fields_kept ms)
    (may_told asked part.Type (codes "constraints") part.Uses [] (each_item use_of) uses_kept ms)
    (maybe_told asked part.Type (codes "sequence") part.Names names_in names_kept ms)
    ∙ sym (map3_read (type_made name) fields uses sequence)

pub type_kept : (m : List ℕ × json.Data) → is_kept part.Type m.1 ≡ is_some (type_of m)
type_kept m = object_kept asked part.Type of_type (codes "fields" ∷ codes "constraints" ∷ codes "sequence" ∷ []) (type_in m.0) (λ j. refl) (λ ms. refl) (type_right m.0) m.1

pub types_kept : (j : json.Data) → is_kept part.Types j ≡ is_some (each_member type_of j)
types_kept = members_kept asked part.Types part.Type type_of (λ j. refl) type_kept

-- ---- forms

abbrev form_made : List ℕ → List ℕ → List (List ℕ) → FormDraft
form_made name root groups = record { name = name; root = root; groups = groups }

abbrev form_in : List ℕ → json.Data → Option FormDraft
form_in name j = map2 (form_made name) (required as_str (codes "root") j) (names_of (codes "groups") j)

form_right : (name : List ℕ) (ms : json.Members) → none_in (in_entries part.Form of_form ms) ≡ is_some (form_in name (json.object ms))
form_right name ms =
    let j = json.object ms in
    let root : Option (List ℕ) = required as_str (codes "root") j in
    let groups : Option (List (List ℕ)) = names_of (codes "groups") j in
    none2 (entry_at part.Form ms (must (codes "root") part.Text)) (entry_at part.Form ms (may (codes "groups") part.Names)) (is_some root) (is_some groups)
    (must_told asked part.Form (codes "root") part.Text as_str text_kept ms)
    (may_told asked part.Form (codes "groups") part.Names [] names_in names_kept ms)
    ∙ sym (map2_read (form_made name) root groups)

pub form_kept : (m : List ℕ × json.Data) → is_kept part.Form m.1 ≡ is_some (form_of m)
form_kept m = object_kept asked part.Form of_form (codes "root" ∷ codes "groups" ∷ []) (form_in m.0) (λ j. refl) (λ ms. refl) (form_right m.0) m.1

pub forms_kept : (j : json.Data) → is_kept part.Forms j ≡ is_some (each_member form_of j)
forms_kept = members_kept asked part.Forms part.Form form_of (λ j. refl) form_kept

-- ---- groups

-- a sequence is read where it has a member
first_read : (x : Option (List ℕ)) (rest : Option (List (List ℕ)))
    → is_some (option_and_then sequence_of (option_and_then (λ y. option_map (λ ys. y ∷ ys) rest) x)) ≡ is_some (option_and_then (λ y. option_map (λ ys. y ∷ ys) rest) x)
first_read None rest = refl
first_read (Some y) None = refl
first_read (Some y) (Some ys) = refl

pub sequence_kept : (j : json.Data) → is_kept part.Sequence j ≡ is_some (option_and_then sequence_of (names_in j))
sequence_kept json.null = refl
sequence_kept (json.boolean b) = refl
sequence_kept (json.number n) = refl
sequence_kept (json.string s) = refl
sequence_kept (json.array json.no_items) = refl
sequence_kept (json.array (json.item j js)) = items_told asked part.Text as_str text_kept 0 (json.item j js) ∙ sym (first_read (as_str j) (each_some as_str (listed js)))
sequence_kept (json.object ms) = refl

joined : (o : Option json.Data) → option_and_then (λ j. option_and_then sequence_of (names_in j)) o ≡ option_and_then sequence_of (option_and_then names_in o)
joined None = refl
joined (Some j) = refl

-- a group by what its entries are
module _ (ms : json.Members) where
  abbrev asks : spec.Form FormName → Bool
  asks form = none_in (spec.of_object part.Group form (λ h. spec.in_members asked h ms) (λ es. in_object asked part.Group es ms))

  pick : (o : Option json.Data) (x y : spec.Form FormName) (right : Bool) → ((j : json.Data) → o ≡ Some j → asks x ≡ right) → (o ≡ None → asks y ≡ right) → asks (if is_some o then x else y) ≡ right
  pick (Some j) x y right first second = first j refl
  pick None x y right first second = second refl

  by_sequence : is_kept part.Group (json.object ms) ≡ is_some (group_form_of (json.object ms))
  by_sequence =
      let j = json.object ms in
      let plain : Option Form = option_map inherits (names_of (codes "inherits") j) in
      let sequence : Option Form = option_and_then sequence_of (required names_in (codes "sequence") j) in
      let a : Bool = has_only (codes "inherits" ∷ []) j in
      let b : Bool = has_only (codes "sequence" ∷ []) j in
      let right : Bool = is_some (if a then plain else if b then sequence else None) in
      let of_sequence : List (spec.Entry FormName) = must (codes "sequence") part.Sequence ∷ [] in
      let of_plain : List (spec.Entry FormName) = may (codes "inherits") part.Names ∷ [] in
      let sequence_right : asks (spec.object of_sequence) ≡ is_some (if b then sequence else None) =
      only_told asked part.Group of_sequence ms b sequence refl (none1 (entry_at part.Group ms (must (codes "sequence") part.Sequence)) (is_some sequence)
      (must_told asked part.Group (codes "sequence") part.Sequence (λ k. option_and_then sequence_of (names_in k)) sequence_kept ms ∙ ap is_some (joined (get_member (codes "sequence") ms)))) in
      let plain_right : asks (spec.object of_plain) ≡ is_some (if a then plain else None) =
      only_told asked part.Group of_plain ms a plain refl (none1 (entry_at part.Group ms (may (codes "inherits") part.Names)) (is_some plain)
      (may_told asked part.Group (codes "inherits") part.Names [] names_in names_kept ms ∙ sym (map_read inherits (names_of (codes "inherits") j)))) in
      pick (get_member (codes "sequence") ms) (spec.object of_sequence) (spec.object of_plain) right
      (λ k is. sequence_right ∙ sym (first_out plain sequence a b (others_out (codes "inherits" ∷ []) (codes "sequence") ms k refl is)))
      (λ none. plain_right ∙ sym (second_out plain sequence a b (ap (λ o. is_some (option_and_then sequence_of (option_and_then names_in o))) none)))
    where
      first_out : (o p : Option Form) (a b : Bool) → a ≡ false → is_some (if a then o else if b then p else None) ≡ is_some (if b then p else None)
      first_out o p true b ea = cc
      first_out o p false b ea = refl

      second_out : (o p : Option Form) (a b : Bool) → is_some p ≡ false → is_some (if a then o else if b then p else None) ≡ is_some (if a then o else None)
      second_out o p true b ep = refl
      second_out o p false true ep = ep
      second_out o p false false ep = refl

group_form_kept : (j : json.Data) → is_kept part.Group j ≡ is_some (group_form_of j)
group_form_kept json.null = refl
group_form_kept (json.boolean b) = refl
group_form_kept (json.number n) = refl
group_form_kept (json.string s) = refl
group_form_kept (json.array js) = refl
group_form_kept (json.object ms) = by_sequence ms

pub group_kept : (m : List ℕ × json.Data) → is_kept part.Group m.1 ≡ is_some (group_of m)
group_kept m = group_form_kept m.1 ∙ sym (map_read _ (group_form_of m.1))

pub groups_kept : (j : json.Data) → is_kept part.Groups j ≡ is_some (each_member group_of j)
groups_kept = members_kept asked part.Groups part.Group group_of (λ j. refl) group_kept

-- ---- messages, and the whole

pub messages_kept : (j : json.Data) → is_kept part.Messages j ≡ is_some (each_member written.message_draft_of j)
messages_kept = members_kept asked part.Messages part.Text written.message_draft_of (λ j. refl) (λ m. text_kept m.1 ∙ sym (map_read _ (as_str m.1)))

abbrev draft_made : List TypeDraft → List FormDraft → Groups → Definitions → List (List ℕ × List ℕ) → Drafted
draft_made types forms groups definitions messages = record { types = types; forms = forms; definitions = definitions; groups = groups; messages = messages }

abbrev draft_in : json.Data → Option Drafted
draft_in j =
    map5 draft_made (required (each_member type_of) (codes "types") j) (required (each_member form_of) (codes "forms") j) (optional [] (each_member group_of) (codes "groups") j)
    (optional [] (each_member definition_of) (codes "constraints") j) (optional [] (each_member written.message_draft_of) (codes "messages") j)

draft_right : (ms : json.Members) → none_in (in_entries part.Declarations declarations ms) ≡ is_some (draft_in (json.object ms))
draft_right ms =
    let j = json.object ms in
    let types : Option (List TypeDraft) = required (each_member type_of) (codes "types") j in
    let forms : Option (List FormDraft) = required (each_member form_of) (codes "forms") j in
    let groups : Option Groups = optional [] (each_member group_of) (codes "groups") j in
    let definitions : Option Definitions = optional [] (each_member definition_of) (codes "constraints") j in
    let texts : Option (List (List ℕ × List ℕ)) = optional [] (each_member written.message_draft_of) (codes "messages") j in
    none5 (entry_at part.Declarations ms (must (codes "types") part.Types)) (entry_at part.Declarations ms (must (codes "forms") part.Forms)) (entry_at part.Declarations ms (may (codes "groups") part.Groups))
    (entry_at part.Declarations ms (may (codes "constraints") part.Definitions)) (entry_at part.Declarations ms (may (codes "messages") part.Messages))
    (is_some types) (is_some forms) (is_some groups) (is_some definitions) (is_some texts)
    (must_told asked part.Declarations (codes "types") part.Types (each_member type_of) types_kept ms)
    (must_told asked part.Declarations (codes "forms") part.Forms (each_member form_of) forms_kept ms)
    (may_told asked part.Declarations (codes "groups") part.Groups [] (each_member group_of) groups_kept ms)
    (may_told asked part.Declarations (codes "constraints") part.Definitions [] (each_member definition_of) definitions_kept ms)
    (may_told asked part.Declarations (codes "messages") part.Messages [] (each_member written.message_draft_of) messages_kept ms)
    ∙ sym (map5_read draft_made types forms groups definitions texts)

pub draft_kept : (j : json.Data) → is_kept part.Declarations j ≡ is_some (draft_of j)
draft_kept = object_kept asked part.Declarations declarations (codes "types" ∷ codes "forms" ∷ codes "groups" ∷ codes "constraints" ∷ codes "messages" ∷ []) draft_in (λ j. refl) (λ ms. refl) draft_right
