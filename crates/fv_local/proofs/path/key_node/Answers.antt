use Rattle.std.proofs.lemmas.Str.{is_utf8-from_IsUtf8}
use Rattle.fv_local.proofs.path.key_node.Goals as goal

pub returns-clause-sound : goal.returns-clause-sound
returns-clause-sound c = rw c.in_ok-from_str.ensures.ok (is_utf8-from_IsUtf8 c.args.key.now c.utf8.key)
