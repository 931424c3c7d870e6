-- How many parts a batch has.
use Rattle.std.proofs.Common.{◌≡◌, ℕ, ◌<◌, ◌≤◌, ◌&&◌, Bool, true, false, List, length, nat_lt, nat_le, Option, Some, None, option_and_then, if◌then◌else◌, refl, ap, arith}
use Rattle.std.proofs.lemmas.Bool.{lt-leb, lt-ltb, le-leb}
use Rattle.serde_json.specs.Data as json
use Rattle.serde_json.specs.Find.{as_array}
use Rattle.fv_datum.specs.Json.{passing}
use Rattle.fv_datum.specs.Members.{listed, each_some}
use Rattle.fv_datum.proofs.Lists.{length_read}
use Rattle.fv_engine_command.specs.Commands.{Part, part_of, parts_in}

abbrev so_many : List Part → Option (List Part)
so_many = passing (λ parts. nat_lt 0 (length parts) && nat_le (length parts) 64)

neither : (a b : Bool) → b ≡ false → (a && b) ≡ false
neither false b fails = refl
neither true b fails = fails

both : (a b : Bool) → a ≡ true → b ≡ true → (a && b) ≡ true
both a b here there = rw (here, there) refl

many : (n : ℕ) (o : Option (List Part)) → ((parts : List Part) → o ≡ Some parts → length parts ≡ n) → 64 < n → option_and_then so_many o ≡ None
many n None sizes more = refl
many n (Some parts) sizes more =
    let size : length parts ≡ n = sizes parts refl in
    let over : nat_le (length parts) 64 ≡ false = lt-leb (length parts) 64 (omega arith) in
    ap (λ (b : Bool). if b then Some parts else None) (neither (nat_lt 0 (length parts)) (nat_le (length parts) 64) over)

few : (n : ℕ) (o : Option (List Part)) → ((parts : List Part) → o ≡ Some parts → length parts ≡ n) → 0 < n → n ≤ 64 → option_and_then so_many o ≡ o
few n None sizes some under = refl
few n (Some parts) sizes some under =
    let size : length parts ≡ n = sizes parts refl in
    let above : nat_lt 0 (length parts) ≡ true = lt-ltb 0 (length parts) (omega arith) in
    let below : nat_le (length parts) 64 ≡ true = le-leb (length parts) 64 (omega arith) in
    ap (λ (b : Bool). if b then Some parts else None) (both (nat_lt 0 (length parts)) (nat_le (length parts) 64) above below)

pub too_many : (j : json.Data) (vs : json.Items) → as_array j ≡ Some vs → 64 < length (listed vs) → parts_in j ≡ None
too_many j vs is more = rw is (many (length (listed vs)) (each_some part_of (listed vs)) (length_read part_of (listed vs)) more)

pub not_too_many : (j : json.Data) (vs : json.Items) → as_array j ≡ Some vs → 0 < length (listed vs) → length (listed vs) ≤ 64
    → parts_in j ≡ each_some part_of (listed vs)
not_too_many j vs is some under = rw is (few (length (listed vs)) (each_some part_of (listed vs)) (length_read part_of (listed vs)) some under)
