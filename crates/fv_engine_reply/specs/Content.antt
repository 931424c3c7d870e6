-- The line of a reply.
use Rattle.std.specs.Prelude.{ℕ, ◌-◌, List, length, take, string_bytes}
use Rattle.fv_engine_reply.specs.declared.reply.Content.{Content}
use Rattle.fv_engine_reply.specs.declared.reply.Content.TheVariants.{Fixed, Made}

-- the bytes of a line, fixed or made
abbrev pub content_line : Content → List ℕ
content_line (Fixed s) = s.now
content_line (Made s) = string_bytes s

-- what stands before the last byte of a line
abbrev pub front : List ℕ → List ℕ
front bs = take (length bs - 1) bs
