-- Whether declarations fit the rules that are there.
use Rattle.std.specs.Prelude.{Bool}
use Rattle.std.specs.List.{list_all}
use Rattle.fv_constraint_tree.specs.TargetFits.{tree_fits}
use Rattle.fv_registry.specs.Rules.{Known}
use Rattle.fv_declare_schema.specs.Declarations.{Placed, Declarations}
use Rattle.fv_declare_schema.specs.Places.{judged_at}

-- each rule that a use's tree asks is there for its sort, and takes the kind of the use's place
abbrev pub placed_fits : Known → Placed → Bool
placed_fits k o = tree_fits k (judged_at o.place) o.tree

-- each rule that is used is there for its sort, and takes the kinds of its places
abbrev pub fits : Known → Declarations → Bool
fits k ds = list_all (placed_fits k) ds.occurrences
