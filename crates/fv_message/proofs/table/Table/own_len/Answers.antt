use Rattle.std.proofs.Common.{[], ◌++◌, rules, refl, arith}
use Rattle.std.specs.Str.{IsUtf8}
use Rattle.fv_message.specs.Numbers.{text_at}
use Rattle.fv_message.specs.Parts.{part_pieces}
use Rattle.fv_message.proofs.Plain.{own-append}
use Rattle.fv_message.proofs.Seen.{Seen, seen_none, seen_more}
use Rattle.fv_message.proofs.table.Table.own_len.Goals as goal

pub loop-part-init : goal.loop-part-init
loop-part-init c =
    let seen : Seen (text_at c.args.self.now c.args.key) [] c.text-rest.result.now = rw c.text-rest.ensures (seen_none (text_at c.args.self.now c.args.key)) in
    (c.text-rest.utf8, [], seen, refl, omega arith)

pub loop-part-preserved : goal.loop-part-preserved
loop-part-preserved c =
    let ms = c.args.self.now in
    let seen = c.loop-part.invariant.1 in
    let utf8 : IsUtf8 c.in-Some.behind.now = search rules in
    let more = part_pieces c.in-Some.part in (
      utf8,
      seen ++ more,
      seen_more (text_at ms c.args.key) seen c.loop-part.rest.now c.in-Some.behind.now c.in-Some.part c.loop-part.invariant.2 c.in-Some.ensures,
      omega (arith, c.loop-part.invariant.3, c.own_len_of-len.ensures.own, own-append ms seen more),
      omega (arith, c.loop-part.invariant.4, c.own_len_of-len.ensures.within, c.in-Some.ensures.room),
    )
