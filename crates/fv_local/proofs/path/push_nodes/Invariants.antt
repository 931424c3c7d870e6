use Rattle.std.proofs.Common.{◌≡◌, ◌<◌, [], ◌∷◌, ◌++◌, true, length, map, drop}
use Rattle.fv_extract.specs.Views.{part_view, step_view}
use Rattle.fv_path.specs.Nodes.{index}
use Rattle.fv_path.specs.Paths.{IsPath}
use Rattle.fv_local.specs.Loci.{leads}
use Rattle.fv_local.specs.Paths.{nodes_of}
use Rattle.fv_local.proofs.path.push_nodes.Given as goal

abbrev pub invariant-loop-step : goal.invariant-loop-step
invariant-loop-step l = record {
  led : leads (map step_view (drop l.step-index l.steps)) (map part_view (drop l.at l.locus)) ≡ true;
  nodes : l.path ++ nodes_of (map step_view (drop l.step-index l.steps)) (map part_view (drop l.at l.locus))
      ≡ l.initial.path ++ nodes_of (map step_view l.steps) (map part_view l.locus);
  path : IsPath l.path;
  room : l.step-index < length l.steps → IsPath (l.path ++ index 0 ∷ []);
}
