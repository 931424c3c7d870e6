-- The answer that an answer of the code is. A record that is shown is none of the code's: its reply is made from text at once.
use Rattle.std.specs.Prelude.{map, string_bytes}
use Rattle.fv_validate.specs.ViolationView.{judged_view, violation_view}
use Rattle.fv_engine_reply.specs.Answers as spec
use Rattle.fv_engine_reply.specs.declared.answer.Answer.{Answer}
use Rattle.fv_engine_reply.specs.declared.answer.Answer.TheVariants.{Done, Violated, Checked, FieldChecked, ValueChecked, Ids, Refused, PartRefused, Redeclared, Misdeclared, Unfit}

-- the answer that it is
abbrev pub answer_view : Answer → spec.Answer
answer_view (Done what) = spec.done what
answer_view (Violated records) = spec.violated (map judged_view records.items)
answer_view (Checked violations) = spec.checked (map violation_view violations.items)
answer_view (FieldChecked violations) = spec.field_checked (map violation_view violations.items)
answer_view (ValueChecked violations) = spec.value_checked (map violation_view violations.items)
answer_view (Ids ids) = spec.ids (map string_bytes ids.items)
answer_view (Refused why) = spec.refused why
answer_view (PartRefused part why) = spec.part_refused part why
answer_view Redeclared = spec.redeclared
answer_view (Misdeclared fault) = spec.misdeclared fault
answer_view (Unfit id why) = spec.unfit (string_bytes id) why
