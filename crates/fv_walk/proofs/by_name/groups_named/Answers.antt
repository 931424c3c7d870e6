use Rattle.std.proofs.Common.{map, string_bytes}
use Rattle.fv_declare_schema.specs.Tables.{indices}
use Rattle.fv_walk.proofs.Named.{all_named, not_named}
use Rattle.fv_walk.proofs.by_name.groups_named.Goals as goal

pub returns-in-Some-clause-numbers : goal.returns-in-Some-clause-numbers
returns-in-Some-clause-numbers c = (all_named c.args.groups.now (map string_bytes c.args.names.now) (indices c.in-Some.found.items) (rw c.in-Some.is at c.in_ok-found.ensures.numbers)).1

pub returns-in-Some-clause-known : goal.returns-in-Some-clause-known
returns-in-Some-clause-known c = (all_named c.args.groups.now (map string_bytes c.args.names.now) (indices c.in-Some.found.items) (rw c.in-Some.is at c.in_ok-found.ensures.numbers)).0

pub returns-in-None-clause-unknown : goal.returns-in-None-clause-unknown
returns-in-None-clause-unknown c = λ _. not_named c.args.groups.now (map string_bytes c.args.names.now) (rw c.in-None.is at c.in_ok-found.ensures.numbers)
