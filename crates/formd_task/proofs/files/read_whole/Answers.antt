use Rattle.std.proofs.Common.{rules, ℕ, List, refl, inr, subst}
use Rattle.formd_task.proofs.Fronts.{front_is_all, front_is_long}
use Rattle.formd_task.proofs.files.read_whole.Goals as goal

pub returns-then-too_long-clause-refused : goal.returns-then-too_long-clause-refused
returns-then-too_long-clause-refused g c =
    let xs = c.read_front.new.bytes.items in
    let P : List ℕ → Type 0 = λ old. g.R.Bytes.gives c.args.reader 16777217 old xs in
    inr (
      refl,
      (
        xs,
        search rules,
        subst P c.new-bytes.ensures.items c.in_ok-read_front.ensures.given,
        front_is_long (g.R.Bytes.remaining c.args.reader) c.new-bytes.result.items xs
            c.new-bytes.ensures.items c.in_ok-read_front.ensures.bytes (search rules),
      ),
    )

pub returns-clause-whole : goal.returns-clause-whole
returns-clause-whole g c =
    let xs = c.read_front.new.bytes.items in
    let P : List ℕ → Type 0 = λ old. g.R.Bytes.gives c.args.reader 16777217 old xs in (
      search rules,
      subst P c.new-bytes.ensures.items c.in_ok-read_front.ensures.given,
      front_is_all (g.R.Bytes.remaining c.args.reader) c.new-bytes.result.items xs
          c.new-bytes.ensures.items c.in_ok-read_front.ensures.bytes (search rules),
    )
