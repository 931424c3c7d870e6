use Rattle.std.proofs.Common.{◌≡◌, ◌++◌, map}
use Rattle.serde_json.specs.View.{members_view}
use Rattle.fv_datum.specs.Members.{pairs, each_some}
use Rattle.fv_declare_draft.specs.Drafts.{type_of}
use Rattle.fv_declare_draft.specs.DraftViews.{type_view}
use Rattle.fv_datum.specs.EntryNames.{names_of}
use Rattle.fv_datum.proofs.Fronts.{with_front}
use Rattle.fv_declare_draft.proofs.shape.types_of.Given as goal

abbrev pub invariant-loop-name : goal.invariant-loop-name
invariant-loop-name l = record {
  names : map (λ x. x.name.now) l.types.items ++ names_of l.name-iterator ≡ names_of l.members.entries;
  made : with_front (map type_view l.types.items) (each_some type_of (pairs (members_view l.name-iterator))) ≡ each_some type_of (pairs (members_view l.members.entries));
}
