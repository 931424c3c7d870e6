use Rattle.std.proofs.Common.{ℕ, map, drop, Option}
use Rattle.fv_first.specs.First.{IsFirstFrom, IsFirstIn}
use Rattle.fv_declare_groups.specs.Whereabouts.{IsMetAt}
use Rattle.fv_declare_groups.proofs.sequences.met_among.Given as goal

abbrev pub invariant-loop-number : goal.invariant-loop-number
invariant-loop-number l = (found : Option ℕ) → IsFirstFrom (IsMetAt l.graph l.type_name) l.number (map (λ n. n.now) (drop l.number l.members)) found
    → IsFirstIn (IsMetAt l.graph l.type_name) (map (λ n. n.now) l.members) found
