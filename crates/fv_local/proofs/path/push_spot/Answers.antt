use Rattle.std.proofs.Common.{◌≡◌, ℕ, List, [], ◌∷◌, ◌++◌, sym, ◌∙◌, subst}
use Rattle.fv_path.specs.Nodes.{field}
use Rattle.fv_path.specs.Paths.{IsPath}
use Rattle.fv_path.proofs.Chains.{path_front}
use Rattle.fv_local.proofs.Stands.{IsOpen, field_open}
use Rattle.fv_local.proofs.path.push_spot.Goals as goal

pub returns-in_err-from_str-clause-path : goal.returns-in_err-from_str-clause-path
returns-in_err-from_str-clause-path c = path_front c.args.path.now (field c.args.name.now) c.requires.room

pub returns-in_err-push-clause-path : goal.returns-in_err-push-clause-path
returns-in_err-push-clause-path c = subst IsPath (sym c.in_err-push.ensures.err) (path_front c.args.path.now (field c.args.name.now) c.requires.room)

pub push_nodes-requires-clause-room : goal.push_nodes-requires-clause-room
push_nodes-requires-clause-room c =
    let named : c.new.result ≡ c.args.name.now = c.new.ensures ∙ c.in_ok-from_str.ensures.ok in
    subst IsOpen (sym c.in_ok-push.ensures.ok) (field_open c.args.path.now c.new.result (subst (λ (n : List ℕ). IsPath (c.args.path.now ++ field n ∷ [])) (sym named) c.requires.room))
