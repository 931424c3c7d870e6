use Rattle.std.proofs.Common.{◌≡◌, List, [], ℕ, ◌++◌, string_bytes, sym, ap, subst, ◌∙◌, rules}
use Rattle.std.specs.Str.{IsUtf8}
use Rattle.std.proofs.lemmas.List.Concat.{flat_map-append}
use Rattle.fv_message.specs.Evaluated.{piece_text, full_pieces, full_text}
use Rattle.fv_message.specs.Parts.{part_pieces}
use Rattle.fv_message.specs.Judged.{IsCircular}
use Rattle.fv_message.specs.Numbers.{AreReadable}
use Rattle.fv_message.specs.Table.{Messages}
use Rattle.fv_message.proofs.Circles.{written}
use Rattle.fv_message.proofs.Seen.{seen_none, seen_more}
use Rattle.fv_message.proofs.messages.Messages.text.Goals as goal

pub loop-part-init : goal.loop-part-init
loop-part-init c =
    let utf8 : IsUtf8 c.args.template.now = search rules in
    (utf8, [], seen_none c.args.template.now, c.in_ok-text.ensures.bytes)

pub loop-part-preserved : goal.loop-part-preserved
loop-part-preserved c =
    let ms = c.args.self.now in
    let attributes = c.args.attributes.now in
    let seen = c.loop-part.invariant.1 in
    let utf8 : IsUtf8 c.in-Some-split_part.behind.now = search rules in
    let more = part_pieces c.in-Some-split_part.part in (
      utf8,
      seen ++ more,
      seen_more c.args.template.now seen c.loop-part.rest.now c.in-Some-split_part.behind.now c.in-Some-split_part.part c.loop-part.invariant.2 c.in-Some-split_part.ensures,
      c.in_ok-write_part.ensures
          ∙ ap (λ (l : List ℕ). l ++ full_pieces ms attributes more) c.loop-part.invariant.3
          ∙ sym (flat_map-append (piece_text ms attributes) seen more),
    )

pub returns-in-Some : goal.returns-in-Some
returns-in-Some c =
    let sound = subst (λ (ms : Messages). AreReadable ms × (IsCircular ms → ⊥)) c.self.view_is (c.self.invariant.2, c.self.invariant.3) in
    let made : string_bytes c.write_expansion.new.text ≡ full_text c.args.self.now c.args.attributes.now c.args.template.now = search rules in
    written c.args.self.now c.args.attributes.now c.args.template.now (string_bytes c.write_expansion.new.text) sound made

pub returns : goal.returns
returns c =
    let sound = subst (λ (ms : Messages). AreReadable ms × (IsCircular ms → ⊥)) c.self.view_is (c.self.invariant.2, c.self.invariant.3) in
    let made : string_bytes c.if-not-is_empty.text ≡ full_text c.args.self.now c.args.attributes.now c.args.template.now = search rules in
    written c.args.self.now c.args.attributes.now c.args.template.now (string_bytes c.if-not-is_empty.text) sound made
