use Rattle.std.proofs.Common.{List, [], ◌∷◌, ◌++◌, sym, ap, subst, ◌∙◌, append_assoc}
use Rattle.fv_path.specs.Nodes.{PathNode}
use Rattle.fv_path.specs.Paths.{is_path, IsPath}
use Rattle.fv_path.specs.Views.{node_view}
use Rattle.fv_path.proofs.Chains.{path_front}
use Rattle.fv_local.proofs.Stands.{pushed}
use Rattle.fv_local.proofs.path.push_part.Goals as goal

-- two nodes one after the other
both : (ns : List PathNode) (n m : PathNode) → IsPath (ns ++ n ∷ m ∷ []) → IsPath ((ns ++ n ∷ []) ++ m ∷ [])
both ns n m path = ap is_path (append_assoc ns (n ∷ []) (m ∷ [])) ∙ path

-- the first of two nodes may stand where both may
first : (ns : List PathNode) (n m : PathNode) → IsPath (ns ++ n ∷ m ∷ []) → IsPath (ns ++ n ∷ [])
first ns n m path = path_front (ns ++ n ∷ []) m (both ns n m path)

pub push-requires : goal.push-requires
push-requires c = first c.args.path.now (node_view c.args.place) (node_view c.args.part) c.requires

pub returns-in_err-push-clause-path : goal.returns-in_err-push-clause-path
returns-in_err-push-clause-path c =
    subst IsPath (sym c.in_err-push.ensures.err) (path_front c.args.path.now (node_view c.args.place) (first c.args.path.now (node_view c.args.place) (node_view c.args.part) c.requires))

pub returns-clause-path : goal.returns-clause-path
returns-clause-path c =
    let n = node_view c.args.part in
    let whole = both c.args.path.now (node_view c.args.place) n c.requires in
    pushed c.push-2.result c.push.new.self c.push-2.new.self n (subst (λ (ns : List PathNode). IsPath (ns ++ n ∷ [])) (sym c.in_ok-push.ensures.ok) whole) c.push-2.ensures.ok c.push-2.ensures.err
