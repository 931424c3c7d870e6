use Rattle.std.proofs.Common.{List, ℕ, ◌++◌, sym, ap, ◌∙◌, rules}
use Rattle.std.specs.Str.{IsUtf8}
use Rattle.std.proofs.lemmas.List.Concat.{flat_map-append}
use Rattle.fv_message.specs.Evaluated.{piece_text, full_pieces}
use Rattle.fv_message.specs.Parts.{part_pieces}
use Rattle.fv_message.proofs.Keys.{part_keys}
use Rattle.fv_message.proofs.Seen.{seen_more}
use Rattle.fv_message.proofs.expanding.expand.Goals as goal

pub expand_part-requires : goal.expand_part-requires
expand_part-requires c = λ i h.
    c.requires.keys i
    (part_keys c.args.messages.now c.args.template.now c.loop-part.invariant.1 c.loop-part.rest.now c.in-Some.behind.now c.in-Some.part i c.requires.template
    c.loop-part.invariant.2 c.in-Some.ensures h)

pub loop-part-preserved : goal.loop-part-preserved
loop-part-preserved c =
    let ms = c.args.messages.now in
    let seen = c.loop-part.invariant.1 in
    let utf8 : IsUtf8 c.in-Some.behind.now = search rules in
    let more = part_pieces c.in-Some.part in (
      utf8,
      seen ++ more,
      seen_more c.args.template.now seen c.loop-part.rest.now c.in-Some.behind.now c.in-Some.part c.loop-part.invariant.2 c.in-Some.ensures,
      λ attributes.
          c.in_ok-expand_part.ensures attributes
          ∙ ap (λ (l : List ℕ). l ++ full_pieces ms attributes more) (c.loop-part.invariant.3 attributes)
          ∙ sym (flat_map-append (piece_text ms attributes) seen more),
    )
