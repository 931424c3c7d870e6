use Rattle.std.proofs.Common.{[], ◌∷◌, map, sym, ap, subst, ◌∙◌}
use Rattle.fv_message.specs.Expanded.{expansion_text, IsExpansion}
use Rattle.fv_message.specs.Evaluated.{full_pieces}
use Rattle.fv_message.specs.Parts.{part_pieces}
use Rattle.fv_message.specs.Template.{plain, parameter}
use Rattle.fv_message.specs.declared.expansion.Expansion.{Expansion}
use Rattle.fv_message.proofs.Expansions.{onward, grows_same, key_piece, key_there}
use Rattle.fv_message.proofs.Plain.{full_plain}
use Rattle.fv_message.proofs.expanding.expand_part.Goals as goal

pub at-requires : goal.at-requires
at-requires c =
    (key_there c.args.messages.now (part_pieces c.args.part) c.in-Parameter.name.now c.in-Some.key c.args.expansions.now
    (ap part_pieces c.in-Parameter.is) (sym c.in-Some.ensures.number) c.requires).0

pub returns-in-Plain : goal.returns-in-Plain
returns-in-Plain c =
    let ms = c.args.messages.now in
    let s = c.in-Plain.plain.now in
    rw c.in-Plain.is
    (onward c.push_plain.result
    (λ grown. grows_same (λ _. s) (λ attributes. full_pieces ms attributes (map plain s)) c.args.expansion.now c.push_plain.new.self (λ attributes. sym (full_plain ms attributes s)) grown)
    c.push_plain.ensures)

pub returns-in-Some : goal.returns-in-Some
returns-in-Some c =
    let ms = c.args.messages.now in
    let name = c.in-Parameter.name.now in
    let i = c.in-Some.key in
    let there = (key_there ms (part_pieces c.args.part) name i c.args.expansions.now (ap part_pieces c.in-Parameter.is) (sym c.in-Some.ensures.number) c.requires).1 c.at.result.now in
    let is : IsExpansion ms i c.at.result.now = subst (λ (e : Expansion). IsExpansion ms i e) (sym c.at.ensures) there in
    rw c.in-Parameter.is
    (onward c.append.result
    (λ grown.
    grows_same (λ attributes. expansion_text attributes c.at.result.now) (λ attributes. full_pieces ms attributes (parameter name ∷ [])) c.args.expansion.now c.append.new.self
    (λ attributes. is attributes ∙ key_piece ms attributes name i (sym c.in-Some.ensures.number)) grown)
    c.append.ensures)
