use Rattle.std.proofs.Common.{rules, ◌≡◌, ◌++◌, ◌∙◌, [], ap, codes, map, string_bytes, refl, sym}
use Rattle.std.proofs.Output.{has_written_append}
use Rattle.fv_datum.specs.Attributes.{attribute_view, entry_view}
use Rattle.fv_explain.specs.Attributes.{attributes_text, value_text}
use Rattle.fv_explain.proofs.Attributes.{attributes_more}
use Rattle.fv_explain.proofs.lines.AttributesDisplay.fmt.Goals as goal

pub loop-name-init : goal.loop-name-init
loop-name-init g c = λ plain.
    let same : c.into_iter-name-iterator.result ≡ c.entries.result.now.entries = search rules in (
      [],
      record { wrote = record { parts = []; calls = refl; whole = refl }; plain = plain },
      ap (λ es. attributes_text (map entry_view es)) same ∙ ap attributes_text (sym c.entries.ensures),
    )

pub loop-name-preserved : goal.loop-name-preserved
loop-name-preserved g c = λ plain.
    let was = c.loop-name.invariant plain in
    let name = c.write.ensures.writes was.1.plain (search rules) in
    let value = c.write_value.ensures name.plain (search rules) in (
      (was.0 ++ (codes " " ++ (string_bytes c.in-Some.name.now ++ codes "="))) ++ value_text (attribute_view c.in-Some.value.now),
      has_written_append _ _ _ _ _ _ (has_written_append _ _ _ _ _ _ was.1 name) value,
      attributes_more was.0 c.loop-name.name-iterator c.next.new.self c.in-Some.name.now c.in-Some.value.now _ c.in-Some.ensures.steps was.2,
    )
