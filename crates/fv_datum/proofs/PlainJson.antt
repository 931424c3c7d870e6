-- JSON values that are plain: whole numbers of 64 bits, members in order, and no more containers one in another than so.
use Rattle.std.proofs.Common.{◌≤◌, ◌<◌, ◌^◌, ℕ, pos, negsuc, arith}
use Rattle.std.specs.Prelude.{⊤}
use Rattle.serde_json.specs.Data.{Num, unsigned, negative, float, Data, null, boolean, number, string, array, object, Items, no_items, item, Members, no_members, member, depth, members_depth}
use Rattle.fv_datum.proofs.Members.{AreAscending}

-- a whole number of 64 bits
abbrev pub IsWhole : Num → Type 0
IsWhole (unsigned n) = n < 2 ^ 63
IsWhole (negative (pos n)) = ⊥
IsWhole (negative (negsuc n)) = n < 2 ^ 63
IsWhole (float x) = ⊥

-- whole numbers, and members in order
abbrev mutual
  pub IsPlain : Data → Type 0
  IsPlain null = ⊤
  IsPlain (boolean b) = ⊤
  IsPlain (number n) = IsWhole n
  IsPlain (string s) = ⊤
  IsPlain (array ds) = ArePlainItems ds
  IsPlain (object ms) = ArePlain ms × AreAscending ms

  pub ArePlainItems : Items → Type 0
  ArePlainItems no_items = ⊤
  ArePlainItems (item d ds) = IsPlain d × ArePlainItems ds

  pub ArePlain : Members → Type 0
  ArePlain no_members = ⊤
  ArePlain (member k d ms) = IsPlain d × ArePlain ms

-- plain, and no deeper than so
abbrev pub IsFlat : ℕ → Data → Type 0
IsFlat n d = IsPlain d × (depth d ≤ n)

-- members that are plain, in order, and no deeper than so
pub record Fields (n : ℕ) (ms : Members) : Type 0 where
  pub plain : ArePlain ms
  pub ordered : AreAscending ms
  pub flat : members_depth ms ≤ n

pub no_fields : (n : ℕ) → Fields n no_members
no_fields n = record { plain = tt; ordered = tt; flat = omega arith }
