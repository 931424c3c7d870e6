use Rattle.std.proofs.Common.{[], ◌∷◌, ◌++◌, sym, subst}
use Rattle.fv_path.specs.Nodes.{PathNode, map_key, map_value}
use Rattle.fv_path.specs.Paths.{IsPath}
use Rattle.fv_local.proofs.Stands.{path_open, index_pair, key_pair, value_pair}
use Rattle.fv_local.proofs.path.push_step.Goals as goal

pub push_part-requires : goal.push_part-requires
push_part-requires c = index_pair c.args.path.now c.in-Element-Index.index c.requires.room (rw (c.in-Element-Index.is-0, c.in-Element-Index.is-1) at c.requires.leads)

pub push_part-requires-in-Key-Key : goal.push_part-requires-in-Key-Key
push_part-requires-in-Key-Key c =
    let made = c.in_ok-key_node-in-Key-Key.ensures in
    subst (λ (n : PathNode). IsPath (c.args.path.now ++ n ∷ map_key ∷ [])) (sym made.is) (key_pair c.args.path.now c.in-Key-Key.key.now c.requires.room (rw made.is at made.sound))

pub push_part-requires-in-Value-Key : goal.push_part-requires-in-Value-Key
push_part-requires-in-Value-Key c =
    let made = c.in_ok-key_node-in-Value-Key.ensures in
    subst (λ (n : PathNode). IsPath (c.args.path.now ++ n ∷ map_value ∷ [])) (sym made.is) (value_pair c.args.path.now c.in-Value-Key.key.now c.requires.room (rw made.is at made.sound))

pub returns-in_err-key_node-in-Key-Key-clause-path : goal.returns-in_err-key_node-in-Key-Key-clause-path
returns-in_err-key_node-in-Key-Key-clause-path c = path_open c.args.path.now c.requires.room

pub returns-in_err-key_node-in-Value-Key-clause-path : goal.returns-in_err-key_node-in-Value-Key-clause-path
returns-in_err-key_node-in-Value-Key-clause-path c = path_open c.args.path.now c.requires.room
