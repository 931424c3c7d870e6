-- What the UPDATE of sixteen places means.
use Rattle.std.proofs.Common.{◌≡◌, ◌+◌, ◌*◌, ◌^◌, ◌&&◌, zero, suc, ℕ, ℤ, List, [], ◌∷◌, codes, length, take, drop, if◌then◌else◌, Bool, true, false, refl, lit≤, arith}
use Rattle.std.specs.List.{list_all}
use Rattle.sqlite.specs.Term.{Term, col, op2, case, eval, holds}
use Rattle.sqlite_sql.specs.declared.ops.BinaryOp.TheVariants.{Compare}
use Rattle.sqlite_sql.specs.declared.ops.CompareOp.TheVariants.{Eq, Ge, Le, Lt}
use Rattle.sqlite.specs.Collation.TheVariants.{Binary}
use Rattle.sqlite.specs.declared.types.Value.{Value}
use Rattle.sqlite.specs.declared.types.Value.TheVariants.{Null, Int, Text}
use Rattle.sqlite.specs.Ops.{binary, is_true}
use Rattle.sqlite.specs.Query.{Query}
use Rattle.sqlite.specs.Command.TheVariants.{Update}
use Rattle.sqlite.specs.Listing.{understood}
use Rattle.sqlite.proofs.Callers.{IsPlain, command_of}
use Rattle.sqlite_typing.specs.Types.{accepts_program}
use Rattle.sqlite_tied.specs.Compute.{everything}
use Rattle.fv_store_tables.specs.Tables.{store_schema}
use Rattle.fv_store_tables.specs.Stands.{ObjectTexts, ObjectKey, NumberedThing, part_row}
use Rattle.fv_store_tables.specs.Updating.{range_values}
use Rattle.fv_store_tables.proofs.Texts.{IsWhole, one_table}

abbrev pub range_text : List ℕ
range_text = codes "UPDATE object SET kind = CASE WHEN rowid < ?26 THEN CASE WHEN rowid < ?14 THEN CASE WHEN rowid < ?8 THEN CASE WHEN rowid < ?5 THEN ?3 ELSE ?6 END ELSE CASE WHEN rowid < ?11 THEN ?9 ELSE ?12 END END ELSE CASE WHEN rowid < ?20 THEN CASE WHEN rowid < ?17 THEN ?15 ELSE ?18 END ELSE CASE WHEN rowid < ?23 THEN ?21 ELSE ?24 END END END ELSE CASE WHEN rowid < ?38 THEN CASE WHEN rowid < ?32 THEN CASE WHEN rowid < ?29 THEN ?27 ELSE ?30 END ELSE CASE WHEN rowid < ?35 THEN ?33 ELSE ?36 END END ELSE CASE WHEN rowid < ?44 THEN CASE WHEN rowid < ?41 THEN ?39 ELSE ?42 END ELSE CASE WHEN rowid < ?47 THEN ?45 ELSE ?48 END END END END, fields = CASE WHEN rowid < ?26 THEN CASE WHEN rowid < ?14 THEN CASE WHEN rowid < ?8 THEN CASE WHEN rowid < ?5 THEN ?4 ELSE ?7 END ELSE CASE WHEN rowid < ?11 THEN ?10 ELSE ?13 END END ELSE CASE WHEN rowid < ?20 THEN CASE WHEN rowid < ?17 THEN ?16 ELSE ?19 END ELSE CASE WHEN rowid < ?23 THEN ?22 ELSE ?25 END END END ELSE CASE WHEN rowid < ?38 THEN CASE WHEN rowid < ?32 THEN CASE WHEN rowid < ?29 THEN ?28 ELSE ?31 END ELSE CASE WHEN rowid < ?35 THEN ?34 ELSE ?37 END END ELSE CASE WHEN rowid < ?44 THEN CASE WHEN rowid < ?41 THEN ?40 ELSE ?43 END ELSE CASE WHEN rowid < ?47 THEN ?46 ELSE ?49 END END END END WHERE rowid >= ?2 AND rowid <= ?47 AND rec = ?1"

-- The CASE that halves 2 ^ depth places, of which the first has its rowid in this parameter and its other values behind it. It gives one of these.
abbrev pub halving : ℕ → ℕ → ℕ → Term
halving zero at which = col 0 (at + which)
halving (suc depth) at which =
    case (op2 (Compare Lt Binary) (col 1 0) (col 0 (at + 3 * 2 ^ depth))) (halving depth at which) (halving depth (at + 3 * 2 ^ depth) which)

-- the rowid of the row, and then the whole new row
abbrev pub range_terms : List Term
range_terms = col 1 0 ∷ col 1 0 ∷ col 1 1 ∷ col 1 2 ∷ halving 4 1 1 ∷ halving 4 1 2 ∷ []

-- the rowid is none below the first place's nor above the last's, and the row is of the record
abbrev pub in_range : List Term
in_range = op2 (Compare Ge Binary) (col 1 0) (col 0 1) ∷ op2 (Compare Le Binary) (col 1 0) (col 0 46) ∷ op2 (Compare Eq Binary) (col 1 1) (col 0 0) ∷ []

abbrev pub range_query : Query
range_query = one_table 3 in_range range_terms

pub range_is : command_of (understood store_schema range_text) ≡ Update 2 (record { lets = []; body = range_query })
unfolding understood everything
range_is = refl

pub range_plain : IsPlain (understood store_schema range_text)
unfolding understood everything
range_plain = (refl, refl)

-- ---- sixteen places

-- the rowid is below that of the first of these places
abbrev pub below_first : ℤ → List NumberedThing → Bool
below_first n [] = true
below_first n (p ∷ ps) = is_true (binary (Compare Lt Binary) (Int n) (Int p.0))

-- what is found by halving 2 ^ depth places
abbrev pub halved : (NumberedThing → Value) → ℕ → List NumberedThing → ℤ → Value
halved show zero [] n = Null
halved show zero (p ∷ ps) n = show p
halved show (suc depth) ps n = if below_first n (drop (2 ^ depth) ps) then halved show depth (take (2 ^ depth) ps) n else halved show depth (drop (2 ^ depth) ps) n

abbrev pub kind_of : NumberedThing → Value
kind_of p = Text p.1.1.kind

abbrev pub fields_of : NumberedThing → Value
fields_of p = Text p.1.1.fields

-- the last of some
abbrev pub last_of : NumberedThing → List NumberedThing → NumberedThing
last_of p [] = p
last_of p (q ∷ ps) = last_of q ps

-- a row of `object` passes where its rowid is in the range and it is of the record
abbrev pub passes_range : ℤ → List ℕ → List ℕ → List NumberedThing → Bool
passes_range n rec id [] = false
passes_range n rec id (p ∷ ps) =
    is_true (binary (Compare Ge Binary) (Int n) (Int p.0))
    && (is_true (binary (Compare Le Binary) (Int n) (Int (last_of p ps).0)) && (is_true (binary (Compare Eq Binary) (Text rec) (Text id)) && true))

-- what the statement tests and gives of a row of `object`
pub record RangeMeans (id : List ℕ) (ps : List NumberedThing) : Type 0 where
  pub tests : (n : ℤ) (at : ObjectKey) (q : ObjectTexts) → list_all (holds (range_values id ps ∷ part_row n at q ∷ [])) in_range ≡ passes_range n at.0 id ps
  pub kind : (n : ℤ) (at : ObjectKey) (q : ObjectTexts) → eval (halving 4 1 1) (range_values id ps ∷ part_row n at q ∷ []) ≡ halved kind_of 4 ps n
  pub fields : (n : ℤ) (at : ObjectKey) (q : ObjectTexts) → eval (halving 4 1 2) (range_values id ps ∷ part_row n at q ∷ []) ≡ halved fields_of 4 ps n

pub range_means : (id : List ℕ) (ps : List NumberedThing) → length ps ≡ 16 → RangeMeans id ps
range_means id (a ∷ b ∷ c ∷ d ∷ e ∷ f ∷ g ∷ h ∷ i ∷ j ∷ k ∷ l ∷ m ∷ n ∷ o ∷ p ∷ []) is = record { tests = λ r at q. refl; kind = λ r at q. refl; fields = λ r at q. refl }
range_means id _ is = absurd (omega (arith, is))

pub range_accepted : (id : List ℕ) (ps : List NumberedThing) → length ps ≡ 16 → accepts_program store_schema [] range_query (range_values id ps) ≡ true
unfolding everything
range_accepted id (a ∷ b ∷ c ∷ d ∷ e ∷ f ∷ g ∷ h ∷ i ∷ j ∷ k ∷ l ∷ m ∷ n ∷ o ∷ p ∷ []) is = refl
range_accepted id _ is = absurd (omega (arith, is))

pub range_whole : (id : List ℕ) (ps : List NumberedThing) → length ps ≡ 16 → IsWhole range_text (length (range_values id ps)) (understood store_schema range_text)
unfolding understood everything
range_whole id (a ∷ b ∷ c ∷ d ∷ e ∷ f ∷ g ∷ h ∷ i ∷ j ∷ k ∷ l ∷ m ∷ n ∷ o ∷ p ∷ []) is = (lit≤ tt, refl)
range_whole id _ is = absurd (omega (arith, is))
