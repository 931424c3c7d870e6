use Rattle.std.proofs.Common.{◌≡◌, ◌++◌, take, map, string_bytes}
use Rattle.fv_path.specs.Texts.{nodes_text}
use Rattle.fv_path.specs.Views.{node_view}
use Rattle.fv_path.proofs.path.Path.write.Given as goal

abbrev pub invariant-loop-node : goal.invariant-loop-node
invariant-loop-node l = string_bytes l.text ≡ string_bytes l.initial.text ++ nodes_text (map node_view (take l.node-index l.others))
