use Rattle.std.proofs.Common.{◌≡◌, ◌<◌, get_or, length, arith}
use Rattle.std.proofs.lemmas.List.{get_or_read}
use Rattle.fv_message.proofs.Weights.{place_within, place_found, none_more, none_all}
use Rattle.fv_message.proofs.lengths.first_above.Goals as goal

pub at-requires : goal.at-requires
at-requires c = place_within c.args.places.now (length c.args.numbers.now) c.loop-place.place-index c.requires (omega arith)

pub returns-then-at-limit : goal.returns-then-at-limit
returns-then-at-limit c =
    let place = get_or c.args.places.now c.loop-place.place-index 0 in
    let less : place < length c.args.numbers.now = place_within c.args.places.now (length c.args.numbers.now) c.loop-place.place-index c.requires (omega arith) in
    let is : c.at.result.now ≡ get_or c.args.numbers.now place 0 = get_or_read c.args.numbers.now place c.at.result.now less c.at.ensures 0 in
    (place_found c.args.places.now c.loop-place.place-index (omega arith), omega (arith, is, c.if-at-limit.true))

pub loop-place-preserved : goal.loop-place-preserved
loop-place-preserved c =
    let place = get_or c.args.places.now c.loop-place.place-index 0 in
    let less : place < length c.args.numbers.now = place_within c.args.places.now (length c.args.numbers.now) c.loop-place.place-index c.requires (omega arith) in
    let is : c.at.result.now ≡ get_or c.args.numbers.now place 0 = get_or_read c.args.numbers.now place c.at.result.now less c.at.ensures 0 in
    none_more (λ i. c.args.limit < get_or c.args.numbers.now i 0) c.args.places.now c.loop-place.place-index (omega arith) c.loop-place.invariant
    (λ more. omega (arith, more, is, c.if-at-limit.false))

pub returns : goal.returns
returns c = λ i at above. none_all (λ i. c.args.limit < get_or c.args.numbers.now i 0) c.args.places.now c.loop-place.place-index (omega arith) c.loop-place.invariant (i, at, above)
