use Rattle.std.proofs.Common.{◌≡◌, map, drop}
use Rattle.std.specs.List.{list_any}
use Rattle.std.specs.Str.{bytes_eq}
use Rattle.fv_datum.proofs.parsing.is_among.Given as goal

abbrev pub invariant-loop-other : goal.invariant-loop-other
invariant-loop-other l = list_any (λ n. bytes_eq n l.name) (map (λ n. n.now) (drop l.other-index l.names)) ≡ list_any (λ n. bytes_eq n l.name) (map (λ n. n.now) l.names)
