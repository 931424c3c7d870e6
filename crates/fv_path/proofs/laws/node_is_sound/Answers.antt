use Rattle.std.proofs.lemmas.Str.{is_utf8-from_IsUtf8}
use Rattle.fv_path.proofs.laws.node_is_sound.Goals as goal

pub returns-in-Key : goal.returns-in-Key
returns-in-Key c = rw (c.in-Key.is, ← c.as_str-key.ensures.value) (is_utf8-from_IsUtf8 c.as_str-key.result.now c.as_str-key.utf8)
