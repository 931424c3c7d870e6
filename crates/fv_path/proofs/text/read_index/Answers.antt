use Rattle.std.proofs.lemmas.List.Sums.{prefix_len-le-length}
use Rattle.std.specs.Char.{is_ascii_digit}
use Rattle.fv_path.proofs.Fronts.{front_passes, index_missing}
use Rattle.fv_path.proofs.text.read_index.Goals as goal

pub split_at-requires : goal.split_at-requires
split_at-requires c = rw c.digits_len.ensures (prefix_len-le-length is_ascii_digit c.args.text.now)

pub index_of-requires : goal.index_of-requires
index_of-requires c = rw (c.split_at.ensures.front, c.digits_len.ensures) (front_passes is_ascii_digit c.args.text.now)

pub returns-in_err-index : goal.returns-in_err-index
returns-in_err-index c =
    rw c.from_residual.ensures (index_missing c.args.text.now c.split_at.result.0.now c.split_at.result.1.now c.digits_len.result c.digits_len.ensures
    c.split_at.ensures.front c.split_at.ensures.back (λ i more small is bracket. c.in_err-index.ensures i small is))

pub returns-in_err-rest : goal.returns-in_err-rest
returns-in_err-rest c =
    rw c.from_residual-in_err-rest.ensures (index_missing c.args.text.now c.split_at.result.0.now c.split_at.result.1.now c.digits_len.result c.digits_len.ensures
    c.split_at.ensures.front c.split_at.ensures.back (λ i more small is bracket. c.in_err-rest.ensures more bracket))
