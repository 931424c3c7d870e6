-- The parts of a draft; for private clauses.
use Rattle.std.specs.Prelude.{◌≡◌, ◌≢◌, List, true, false, Some, None, Result, Ok, Err, is_ok, map, IfOk, IfErr}
use Rattle.fv_datum.specs.Outcomes.{first}
use Rattle.fv_declare_draft.specs.AllUses.{DraftUse, uses_in}
use Rattle.fv_declare_draft.specs.Drafts.{Drafted}
use Rattle.fv_declare_draft.specs.UseViews.{cascade_view}
use Rattle.fv_declare_groups.specs.Grouping.{IsGrouping}
use Rattle.fv_bundle.specs.Types.{too_many}
use Rattle.fv_message.specs.Table.{all_messages}
use Rattle.fv_bundle.specs.TypesView.{types_view}
use Rattle.fv_message.specs.declared.fault.MessageFault.TheVariants.{Memory}
use Rattle.fv_bundle.specs.Whereabouts.{large_at}
use Rattle.fv_bundle.specs.declared.fault.TypesAt.{TypesAt}
use Rattle.fv_bundle.specs.declared.types.Types.{Types}
use Rattle.fv_declare_judging.specs.Judging.{AreLed, name_conditions, lacks_memory}
use Rattle.fv_declare_judging.specs.Types.{types_declared}
use Rattle.fv_declare_judging.specs.Wording.{IsFirstFault}
use Rattle.fv_declare_judging.specs.WordingPlaces.{fault_told, limit_told, IsWordedAt, IsWordyAt}
use Rattle.fv_declare_judging.specs.declared.parts.Parts.{Parts}

-- the types of a draft, or which of their limits they pass
abbrev pub AreTypesOf : Drafted → Result Types TypesAt → Type 0
AreTypesOf d (Ok types) = (too_many (types_declared d) ≡ false) × (types_view types ≡ types_declared d)
AreTypesOf d (Err at) = (too_many (types_declared d) ≡ true) × (large_at (types_declared d) ≡ Some at)

-- the names of a draft are known and stand as they may, and so do its groups; these are its uses, and its parts: its types, unless
-- there are too many, its groups and cascades, and its messages, or what is wrong with the wording
pub record IsChecked (d : Drafted) (us : List DraftUse) (p : Parts) : Type 0 where
  pub named : first (name_conditions d) ≡ None
  pub led : AreLed d
  pub uses : us ≡ uses_in d.types
  pub types : AreTypesOf d p.types
  pub groups : IsGrouping d p.groups.graph (map cascade_view p.groups.cascades.items)
  pub messages : IfOk p.wording (λ m. m ≡ all_messages d.messages)
  pub wording : lacks_memory (fault_told p.wording) ≡ false → IsFirstFault d (fault_told p.wording) × IsWordyAt d (limit_told p.wording)
  pub worded : IfErr p.wording (λ w. w.fault ≢ Memory → IsWordedAt d w.fault w.at)

-- the types are there, and the messages
pub record IsWhole (p : Parts) : Type 0 where
  pub types : is_ok p.types ≡ true
  pub messages : fault_told p.wording ≡ None
