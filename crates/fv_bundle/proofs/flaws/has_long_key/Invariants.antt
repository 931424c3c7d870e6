use Rattle.std.proofs.Common.{◌≡◌}
use Rattle.std.specs.List.{list_any}
use Rattle.serde_json.specs.View.{members_view}
use Rattle.fv_datum.specs.Members.{pairs}
use Rattle.fv_bundle.specs.Flaws.{is_long}
use Rattle.fv_bundle.proofs.flaws.has_long_key.Given as goal

abbrev pub invariant-loop-name : goal.invariant-loop-name
invariant-loop-name l = list_any (λ m. is_long m.0) (pairs (members_view l.name-iterator)) ≡ list_any (λ m. is_long m.0) (pairs (members_view l.members.entries))
