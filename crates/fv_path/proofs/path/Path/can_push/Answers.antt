use Rattle.std.proofs.Common.{sym, ◌∙◌, ap, map}
use Rattle.fv_path.specs.Paths.{may_stand}
use Rattle.fv_path.specs.Views.{node_view}
use Rattle.fv_path.proofs.Chains.{path_push, last_shown}
use Rattle.fv_path.proofs.path.Path.can_push.Goals as goal

pub returns : goal.returns
returns c =
    let last = last_shown node_view c.self.inside.nodes.items c.last.result (rw c.deref.ensures.value at c.last.ensures.value) in
    let seen = node_view c.args.node.now in
    let pushed = path_push (map node_view c.self.inside.nodes.items) seen c.self.invariant c.node_is_sound.ensures in
    rw (← c.self.view_is) (c.may_stand.ensures ∙ ap (λ o. may_stand o seen) last ∙ sym pushed)
