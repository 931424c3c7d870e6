use Rattle.std.proofs.Common.{◌≡◌, ◌++◌, map}
use Rattle.serde_json.specs.View.{members_view}
use Rattle.fv_datum.specs.Members.{pairs, each_some}
use Rattle.fv_declare_definition.specs.Written.{definition_of}
use Rattle.fv_declare_definition.specs.DefinitionViews.{definition_entry}
use Rattle.fv_datum.proofs.Fronts.{with_front}
use Rattle.fv_datum.specs.EntryNames.{names_of}
use Rattle.fv_declare_definition.proofs.definitions.definitions_in.Given as goal

abbrev pub invariant-loop-name : goal.invariant-loop-name
invariant-loop-name l = record {
  names : names_of l.definitions.entries ++ names_of l.name-iterator ≡ names_of l.members.entries;
  made : with_front (map definition_entry l.definitions.entries) (each_some definition_of (pairs (members_view l.name-iterator))) ≡ each_some definition_of (pairs (members_view l.members.entries));
}
