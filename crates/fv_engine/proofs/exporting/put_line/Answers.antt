use Rattle.std.proofs.Common.{string_bytes}
use Rattle.serde_json.specs.Read.{read}
use Rattle.serde_json.specs.View.{view as json_view}
use Rattle.fv_engine.proofs.Exported.{put_text}
use Rattle.fv_engine.proofs.exporting.put_line.Goals as goal

pub returns-clause-line : goal.returns-clause-line
returns-clause-line c = λ k is.
    let written = c.args.written in
    let reads = rw c.as_str.ensures.value at c.in_ok-bundle.ensures.read in
    let value = rw c.as_str-2.ensures.value at c.in_ok-value.ensures in
    put_text c.args.id.now (string_bytes written.form) (read (string_bytes written.bundle)) (json_view c.in_ok-bundle.bundle) (json_view c.in_ok-value.value) (string_bytes c.in_ok-line_of.field-0) k is reads value c.in_ok-line_of.ensures
