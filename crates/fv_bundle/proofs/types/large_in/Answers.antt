use Rattle.fv_bundle.proofs.Apart.{unique-apart}
use Rattle.fv_bundle.proofs.types.large_in.Goals as goal

pub returns-then-len-gt-MOST_FIELDS-clause-apart : goal.returns-then-len-gt-MOST_FIELDS-clause-apart
returns-then-len-gt-MOST_FIELDS-clause-apart c = unique-apart c.args.fields.now c.len.ensures.unique

pub returns-in_err-field-clause-apart : goal.returns-in_err-field-clause-apart
returns-in_err-field-clause-apart c = unique-apart c.args.fields.now c.len.ensures.unique

pub returns-clause-apart : goal.returns-clause-apart
returns-clause-apart c = unique-apart c.args.fields.now c.len.ensures.unique
