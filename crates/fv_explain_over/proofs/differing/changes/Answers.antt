use Rattle.std.proofs.Common.{string_bytes}
use Rattle.serde_json.specs.View.{view}
use Rattle.fv_explain_over.specs.Adding.{found_view}
use Rattle.fv_explain_over.proofs.ToldLemmas.{from_nothing}
use Rattle.fv_explain_over.proofs.differing.changes.Goals as goal

pub returns : goal.returns
returns c =
    from_nothing c.new-found.result (found_view c.add_member.new.found) (string_bytes c.new.result) (view c.args.old.now) (view c.args.new.now)
    c.new-found.ensures.empty c.new.ensures.bytes c.in_ok-add_member.ensures
