use Rattle.std.specs.List.{list_any}
use Rattle.serde_json.specs.View.{members_view}
use Rattle.fv_datum.specs.Lookup.{at_name}
use Rattle.fv_datum.specs.Members.{pairs}
use Rattle.fv_bundle.specs.Names.{object_types_view}
use Rattle.fv_bundle.specs.Types.{fields_view}
use Rattle.fv_bundle.proofs.Telling.{Telling}
use Rattle.fv_bundle.proofs.flaws.flaws_among.Given as goal

abbrev pub invariant-loop-name : goal.invariant-loop-name
invariant-loop-name l =
    Telling l.flaws (object_types_view l.types) (λ flaw. list_any (λ g. flaw (at_name g.0 (fields_view l.fields)) g.1) (pairs (members_view l.name-iterator)))
    (λ flaw. list_any (λ g. flaw (at_name g.0 (fields_view l.fields)) g.1) (pairs (members_view l.given.entries)))
