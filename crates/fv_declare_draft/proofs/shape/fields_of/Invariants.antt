use Rattle.std.proofs.Common.{◌≡◌, ◌++◌, map}
use Rattle.serde_json.specs.View.{members_view}
use Rattle.fv_datum.specs.Members.{pairs, each_some}
use Rattle.fv_declare_draft.specs.Drafts.{field_of}
use Rattle.fv_declare_draft.specs.DraftViews.{field_view}
use Rattle.fv_datum.specs.EntryNames.{names_of}
use Rattle.fv_datum.proofs.Fronts.{with_front}
use Rattle.fv_declare_draft.proofs.shape.fields_of.Given as goal

abbrev pub invariant-loop-name : goal.invariant-loop-name
invariant-loop-name l = record {
  names : map (λ x. x.name.now) l.fields.items ++ names_of l.name-iterator ≡ names_of l.members.entries;
  made : with_front (map field_view l.fields.items) (each_some field_of (pairs (members_view l.name-iterator))) ≡ each_some field_of (pairs (members_view l.members.entries));
}
