use Rattle.std.proofs.Common.{◌≡◌, length, nat_lt, true, false, refl, sym, ◌∙◌}
use Rattle.std.proofs.lemmas.Bool.{lt-ltb, le-ltb}
use Rattle.serde_json.specs.View.{members_view}
use Rattle.fv_datum.specs.Members.{pairs}
use Rattle.fv_datum.proofs.Values.{length-members}
use Rattle.fv_bundle.proofs.flaws.is_large_map.Goals as goal

pub returns-then-len-gt-MOST_ENTRIES : goal.returns-then-len-gt-MOST_ENTRIES
returns-then-len-gt-MOST_ENTRIES c =
    let es = c.args.members.now.entries in
    let counted : length (pairs (members_view es)) ≡ c.len.result = length-members es ∙ sym c.len.ensures.len in
    let many : nat_lt 65536 c.len.result ≡ true = lt-ltb 65536 c.len.result c.if-len-gt-MOST_ENTRIES.true in
    rw (counted, many) refl

pub returns-else-len-gt-MOST_ENTRIES : goal.returns-else-len-gt-MOST_ENTRIES
returns-else-len-gt-MOST_ENTRIES c =
    let es = c.args.members.now.entries in
    let counted : length (pairs (members_view es)) ≡ c.len.result = length-members es ∙ sym c.len.ensures.len in
    let few : nat_lt 65536 c.len.result ≡ false = le-ltb 65536 c.len.result c.if-len-gt-MOST_ENTRIES.false in
    rw (counted, few) c.has_long_key.ensures
