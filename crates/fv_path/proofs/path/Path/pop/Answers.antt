use Rattle.fv_path.specs.Views.{node_view}
use Rattle.fv_path.proofs.Chains.{path_popped}
use Rattle.fv_path.proofs.path.Path.pop.Goals as goal

pub invariant_of-self : goal.invariant_of-self
invariant_of-self c = path_popped node_view c.self.inside.nodes.items c.pop.new.self.items c.pop.result c.pop.ensures.items c.self.invariant
