-- The drafts that contracts see.
use Rattle.std.specs.Prelude.{ℕ, List, map, option_map}
use Rattle.fv_declare_definition.specs.DefinitionViews.{definition_entry}
use Rattle.fv_extract.specs.Views.{step_view}
use Rattle.fv_bundle.specs.Types.{type_use_view}
use Rattle.fv_declare_schema.specs.Groups.{Form, inherits, sequence}
use Rattle.fv_declare_draft.specs.Cascades as cascades
use Rattle.fv_declare_draft.specs.Gathering.{Gathered}
use Rattle.fv_declare_draft.specs.Places as places
use Rattle.fv_declare_draft.specs.Uses as uses
use Rattle.fv_declare_draft.specs.declared.draft.PlacedUse.{PlacedUse}
use Rattle.fv_declare_draft.specs.declared.draft.Conversion.{Conversion}
use Rattle.fv_declare_draft.specs.declared.draft.CascadeDraft.{CascadeDraft}
use Rattle.fv_declare_draft.specs.declared.draft.PlacedCascade.{PlacedCascade}
use Rattle.fv_declare_draft.specs.declared.draft.GroupForm.{GroupForm}
use Rattle.fv_declare_draft.specs.declared.draft.GroupForm.TheVariants as form
use Rattle.fv_declare_draft.specs.declared.draft.GroupDraft.{GroupDraft}
use Rattle.fv_declare_draft.specs.declared.draft.MessageDraft.{MessageDraft}
use Rattle.fv_declare_draft.specs.declared.places.Held.{Held}
use Rattle.fv_declare_draft.specs.Drafts as spec
use Rattle.fv_declare_draft.specs.declared.draft.UseDraft.{UseDraft}
use Rattle.fv_declare_draft.specs.declared.draft.FieldDraft.{FieldDraft}
use Rattle.fv_declare_draft.specs.declared.draft.TypeDraft.{TypeDraft}
use Rattle.fv_declare_draft.specs.declared.draft.FormDraft.{FormDraft}
use Rattle.fv_declare_draft.specs.declared.draft.Draft.{Draft}

-- a use of a constraint, with the attributes that it gives, its groups and its message
abbrev pub use_view : UseDraft → uses.UseDraft
use_view u = record {
  constraint = u.constraint.now;
  given = u.with;
  groups = map (λ n. n.now) u.groups.items;
  message = option_map (λ t. t.now) u.message;
}

-- a conversion
abbrev pub conversion_view : Conversion → cascades.Conversion
conversion_view c = record { from = c.from.now; to = c.to.now }

-- what is written of a cascade
abbrev pub cascade_view : CascadeDraft → cascades.CascadeDraft
cascade_view c = record { valid = c.valid; conversions = map conversion_view c.conversions.items }

-- a use at a place in a field
abbrev pub placed_use_view : PlacedUse → places.PlacedUse
placed_use_view u = record { steps = map step_view u.steps.items; kind = u.kind; draft = use_view u.draft }

-- a cascade at a place in a field
abbrev pub placed_cascade_view : PlacedCascade → places.PlacedCascade
placed_cascade_view c = record { steps = map step_view c.steps.items; kind = c.kind; cascade = cascade_view c.cascade }

-- what a place holds, with the uses and cascades there and inside it
abbrev pub held_view : Held → Gathered
held_view h = record {
  type = type_use_view h.type_use;
  uses = map placed_use_view h.uses.items;
  cascades = map placed_cascade_view h.cascades.items;
}

-- a field, with the uses and cascades at it and inside it
abbrev pub field_view : FieldDraft → spec.FieldDraft
field_view f = record {
  name = f.name.now;
  type = type_use_view f.type_use;
  uses = map placed_use_view f.uses.items;
  cascades = map placed_cascade_view f.cascades.items;
}

-- a type, with the uses at the type itself and its sequence
abbrev pub type_view : TypeDraft → spec.TypeDraft
type_view t = record {
  name = t.name.now;
  fields = map field_view t.fields.items;
  uses = map use_view t.uses.items;
  sequence = option_map (λ v. map (λ n. n.now) v.items) t.sequence;
}

-- a form
abbrev pub form_view : FormDraft → spec.FormDraft
form_view f = record { name = f.name.now; root = f.root.now; groups = map (λ n. n.now) f.groups.items }

-- what a group is
abbrev pub group_form_view : GroupForm → Form
group_form_view (form.Inherits names) = inherits (map (λ n. n.now) names.items)
group_form_view (form.Sequence names) = sequence (map (λ n. n.now) names.items)

-- a group with its name
abbrev pub group_view : GroupDraft → List ℕ × Form
group_view g = (g.name.now, group_form_view g.form)

-- a key with the template that stands for it
abbrev pub message_view : MessageDraft → List ℕ × List ℕ
message_view m = (m.key.now, m.template.now)

-- a draft
abbrev pub draft_view : Draft → spec.Drafted
draft_view d = record {
  types = map type_view d.types.items;
  forms = map form_view d.forms.items;
  definitions = map definition_entry d.definitions.entries;
  groups = map group_view d.groups.items;
  messages = map message_view d.messages.items;
}
