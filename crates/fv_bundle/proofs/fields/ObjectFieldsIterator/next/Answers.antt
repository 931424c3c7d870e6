use Rattle.std.proofs.Common.{map, string_bytes}
use Rattle.std.specs.Slice.Iter.{iter_rest}
use Rattle.fv_bundle.proofs.Made.{none_left}
use Rattle.fv_bundle.proofs.fields.ObjectFieldsIterator.next.Goals as goal

pub returns-in_err-datum-clause-steps : goal.returns-in_err-datum-clause-steps
returns-in_err-datum-clause-steps c =
    let steps = c.in_err-datum.ensures.steps in
    let left = iter_rest c.args.self.now.data in
    rw (c.from_residual-in_err-datum.ensures, steps.1) (none_left (map string_bytes c.args.self.now.names) left steps.0, none_left (map string_bytes c.next.new.self) left steps.0)
