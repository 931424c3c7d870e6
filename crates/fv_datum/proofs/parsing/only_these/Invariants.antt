use Rattle.std.proofs.Common.{◌≡◌, map}
use Rattle.std.specs.List.{list_all, list_any}
use Rattle.std.specs.Str.{bytes_eq}
use Rattle.serde_json.specs.View.{members_view}
use Rattle.fv_datum.specs.Members.{pairs}
use Rattle.fv_datum.proofs.parsing.only_these.Given as goal

abbrev pub invariant-loop-name : goal.invariant-loop-name
invariant-loop-name l =
    list_all (λ m. list_any (λ n. bytes_eq n m.0) (map (λ n. n.now) l.names)) (pairs (members_view l.name-iterator))
    ≡ list_all (λ m. list_any (λ n. bytes_eq n m.0) (map (λ n. n.now) l.names)) (pairs (members_view l.members.entries))
