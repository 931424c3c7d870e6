-- No rule of the database refuses the INSERT of a record's row that has room, nor a row in place of an object's.
use Rattle.std.proofs.Common.{◌≡◌, inl, inr, bytes_eq, cond, ℕ, zero, suc, ℤ, pos, negsuc, Bool, true, false, List, [], ◌∷◌, length, length-append, map, drop, Option, Some, None, IsSome, IsTrue, Result, Ok, Err, IfErr, refl, sym, ap, subst, ◌∙◌, arith}
use Rattle.sqlite.specs.declared.types.Value.TheVariants.{Int, Text}
use Rattle.sqlite.specs.declared.error.Error.{Error}
use Rattle.sqlite.specs.Order.{Row, number}
use lib.Ieee.{is_nan}
use Rattle.std.specs.Float.{NotNan}
use Rattle.std.proofs.lemmas.List.Elements.{All-from_recursion}
use Rattle.std.specs.Int.{bit_at}
use Rattle.std.proofs.lemmas.Nat.Bits.{bit_at-zero}
use Rattle.sqlite.specs.Tree.{Trees, rowid, with_tree}
use Rattle.sqlite.specs.View.{is_int, IsStorable, IsStorableRow}
use Rattle.sqlite.specs.Command.TheVariants.{Insert}
use Rattle.sqlite.specs.Source.TheVariants.{Values}
use Rattle.sqlite.specs.Cast.{cast_row}
use Rattle.sqlite.specs.Edit.{Edit, taken_by, numbered, next_rowid, is_taken, are_fresh, without_all, put_all, IsRefused, IsOversized}
use Rattle.sqlite.specs.Rowids.TheVariants.{Chosen}
use Rattle.sqlite.specs.Ops.{fits_i64}
use Rattle.sqlite.specs.Table.{Table}
use Rattle.sqlite.specs.Does.{Does, Concludes}
use Rattle.sqlite.specs.Rows.{Written, Edited, Sourced}
use Rattle.sqlite.specs.State.{State, ExecutesInside, mode_of}
use Rattle.sqlite.specs.Listing.{understood}
use Rattle.sqlite.proofs.Callers.{statement_of}
use Rattle.sqlite_schema.specs.declared.schema.Keys.TheVariants.{Enforced}
use Rattle.sqlite_schema.specs.declared.schema.Constraint.TheVariants.{Datatype, NotNull, Check, PrimaryKey, Unique, ForeignKey}
use Rattle.sqlite_schema.specs.declared.schema.Index.{Index}
use Rattle.sqlite_schema.specs.Names.{same_name}
use Rattle.sqlite_schema.specs.Rules.{index_reals}
use Rattle.sqlite_value.specs.Keys.{joined}
use Rattle.sqlite_sql.specs.Catalog.{entry_of}
use Rattle.sqlite_rules.specs.Action.{works, Leads, Writes}
use Rattle.sqlite_rules.specs.Lists.{Has}
use Rattle.sqlite_rules.specs.declared.error.Refusal.{Refusal}
use Rattle.sqlite_rules.specs.declared.error.Refusal.TheVariants.{Violates, Mismatch, NoRowid, BadReference, TooDeep}
use Rattle.sqlite_rules.proofs.ListLemmas.{all_from}
use Rattle.sqlite_rules.proofs.PlaceLemmas.{next_is_free}
use Rattle.sqlite_typing.specs.Types.{accepts_program, accepts_terms}
use Rattle.fv_store_tables.specs.Tables.{store_schema, kept_record, kept_object}
use Rattle.fv_store_tables.specs.Stands.{Head, ObjectTexts, ObjectKey, Maps, head_row, part_row, IsTextHead, IsTextPart, same_place, SpellsTables, IsOwned, put, added}
use Rattle.fv_store_tables.specs.Steps.{Lacks}
use Rattle.fv_store_tables.specs.Causes.{HasRoom, HasRooms, IsShortHead, IsShortPart, IsExcused}
use Rattle.fv_store_tables.proofs.Texts.{put_text, put_terms, put_is, put_plain, put_whole, set_query}
use Rattle.fv_store_tables.proofs.Refusals.{never_steps, run_cause}
use Rattle.fv_store_tables.proofs.Rooms.{next_fits}
use Rattle.fv_store_tables.proofs.RowEdits.{spells_put, spells_replaced, fresh_again}
use Rattle.std.proofs.lemmas.Bool.{cases_Bool}
use Rattle.sqlite_tied.specs.Compute.{everything}
use Rattle.fv_store_tables.proofs.Layouts.{heads, parts, place_is}
use Rattle.fv_store_tables.proofs.Cascade.{works_put_one}
use Rattle.fv_store_tables.proofs.Inserts.{cast_null, at_trees, in_place, task_of, head_params, put_writes}
use Rattle.fv_store_tables.proofs.Updates.{exchange}
use Rattle.fv_store_tables.proofs.Rules.{AreApart, apart_of, keys_apart, refers}

pub never_ok : {A E : Type 0} {a : A} {e : E} → ◌≡◌ {A = Result A E} (Err e) (Ok a) → ⊥
never_ok wrong = cc

pub never_false : ◌≡◌ {A = Bool} true false → ⊥
never_false wrong = cc

-- ---- an edit that is allowed, fits and sets nothing off

module _ (db : Trees) (edit : Edit) (quiet : works store_schema Enforced 0 edit.table.tree (taken_by db edit) edit.news ≡ [])
    (allowed : (why : Refusal) → IsRefused store_schema Enforced db edit why → ⊥) (small : (row : Row) → Has edit.news row → IsOversized store_schema edit.table row → ⊥) where
  never_leads : (n : ℕ) (next : Trees) (why : Option Refusal) → Leads store_schema Enforced n next (works store_schema Enforced 0 edit.table.tree (taken_by db edit) edit.news) (Err why) → ⊥
  never_leads zero next why h = never_ok h.1
  never_leads (suc n) next why h = omega (arith, ap length (sym quiet ∙ h.2), length-append h.0 (h.1 ∷ []))

  never_written : (why : Option Refusal) → Writes store_schema Enforced db edit (Err why) → ⊥
  never_written why (inl (f, is, same)) = allowed f is
  never_written why (inr (inl (row, there, big, same))) = small row there big
  never_written why (inr (inr (next, done, (n, leads)))) = never_leads n next why leads

  pub never_edited : (stop : Option Error) → Edited store_schema Enforced db edit (Err stop) → ⊥
  never_edited stop (why, h, same) = never_written why h

-- ---- what follows the edit: where each object has its record, nothing refuses

pub never_concluded : (s : State) (table : Table) (params : Row) (w : Written) (d : List Row) (t : Maps) → SpellsTables (at_trees w.trees) d t → IsOwned t → (stop : Option Error)
    → Concludes (task_of s.step_limit table params) (mode_of s) None w (Err stop) → ⊥
never_concluded s table params w d t spelled owned stop (inl (st, tested, same)) = tested.0 (refers w.trees t spelled.heads spelled.parts owned)
never_concluded s table params w d t spelled owned stop (inr (b, tested, inl (st, wrong, same))) = never_ok wrong
never_concluded s table params w d t spelled owned stop (inr (b, tested, inr (rows, given, wrong))) = never_ok wrong

-- ---- what is written fits

pub not_nan : (n : ℤ) → NotNan (number (Int n))
unfolding is_nan
not_nan (pos n) = tt
not_nan (negsuc n) = tt

pub no_real : (c : ℕ) {P : Type 0} → bit_at 0 c ≡ 1 → P
no_real c real = absurd (omega (arith, real, bit_at-zero c))

fits_head : (n : ℤ) (id : List ℕ) (h : Head) → IsShortHead id h → IsStorableRow 0 (head_row n id h)
unfolding is_nan
fits_head n id h short = (
  record {
    typed = λ c real. no_real c real;
    columns = (omega arith, omega arith);
    numbers = All-from_recursion (λ v. NotNan (number v)) (head_row n id h) (not_nan n, (tt, (tt, (tt, tt))));
    short = omega (arith, short);
  },
  omega arith,
)

fits_id : (n : ℤ) (id : List ℕ) (h : Head) → IsShortHead id h → IsStorable 0 (Text id ∷ Int n ∷ [])
unfolding is_nan
fits_id n id h short = record {
  typed = λ c real. no_real c real;
  columns = (omega arith, omega arith);
  numbers = All-from_recursion (λ v. NotNan (number v)) (Text id ∷ Int n ∷ []) (tt, (not_nan n, tt));
  short = omega (arith, short);
}

other_table : ◌≡◌ {A = ℕ} 3 1 → ⊥
other_table e = cc

another_table : ◌≡◌ {A = ℕ} 1 3 → ⊥
another_table e = cc

pub head_fits : (n : ℤ) (id : List ℕ) (h : Head) → IsShortHead id h → (row : Row) → Has (head_row n id h ∷ []) row → IsOversized store_schema kept_record row → ⊥
head_fits n id h short row (inr never) big = never
head_fits n id h short row (inl same) (inl big) = big (subst (IsStorableRow 0) (sym same) (fits_head n id h short))
head_fits n id h short row (inl same) (inr (i, inr (inr never), of, big)) = never
head_fits n id h short row (inl same) (inr (i, inr (inl two), of, big)) = other_table (ap (λ (x : Index). x.table) (sym two) ∙ of)
head_fits n id h short row (inl same) (inr (i, inl one, of, big)) =
    subst (λ (x : Index). (x.table ≡ 1) → IsStorable (index_reals 0 x.columns) (entry_of x.columns row) → ⊥) one (λ _. big) refl (subst (λ r. IsStorable 0 (entry_of (1 ∷ []) r)) (sym same) (fits_id n id h short))

fits_part : (n : ℤ) (at : ObjectKey) (p : ObjectTexts) → IsShortPart at p → IsStorableRow 0 (part_row n at p)
unfolding is_nan
fits_part n at p short = (
  record {
    typed = λ c real. no_real c real;
    columns = (omega arith, omega arith);
    numbers = All-from_recursion (λ v. NotNan (number v)) (part_row n at p) (not_nan n, (tt, (tt, (tt, (tt, tt)))));
    short = omega (arith, short);
  },
  omega arith,
)

fits_place : (n : ℤ) (at : ObjectKey) (p : ObjectTexts) → IsShortPart at p → IsStorable 0 (Text at.0 ∷ Text at.1 ∷ Int n ∷ [])
unfolding is_nan
fits_place n at p short = record {
  typed = λ c real. no_real c real;
  columns = (omega arith, omega arith);
  numbers = All-from_recursion (λ v. NotNan (number v)) (Text at.0 ∷ Text at.1 ∷ Int n ∷ []) (tt, (tt, (not_nan n, tt)));
  short = omega (arith, short);
}

pub part_fits : (n : ℤ) (at : ObjectKey) (p : ObjectTexts) → IsShortPart at p → (row : Row) → Has (part_row n at p ∷ []) row → IsOversized store_schema kept_object row → ⊥
part_fits n at p short row (inr never) big = never
part_fits n at p short row (inl same) (inl big) = big (subst (IsStorableRow 0) (sym same) (fits_part n at p short))
part_fits n at p short row (inl same) (inr (i, inr (inr never), of, big)) = never
part_fits n at p short row (inl same) (inr (i, inl one, of, big)) = another_table (ap (λ (x : Index). x.table) (sym one) ∙ of)
part_fits n at p short row (inl same) (inr (i, inr (inl two), of, big)) =
    subst (λ (x : Index). (x.table ≡ 3) → IsStorable (index_reals 0 x.columns) (entry_of x.columns row) → ⊥) two (λ _. big) refl (subst (λ r. IsStorable 0 (entry_of (1 ∷ 2 ∷ []) r)) (sym same) (fits_place n at p short))

-- ---- each object still has its record

pub owned_put : (id : List ℕ) (h : Head) (t : Maps) → IsOwned t → IsOwned (put id h t)
owned_put id h t owned at p is = go (bytes_eq at.0 id)
  where
    go : (b : Bool) → IsSome (cond b (Some h) (t.heads at.0))
    go true = refl
    go false = owned at p is

pub owned_added : (at : ObjectKey) (p : ObjectTexts) (t : Maps) → IsOwned t → IsSome (t.heads at.0) → IsOwned (added at p t)
owned_added at p t owned has other q is = elim (cases_Bool (same_place other at)) [
  | inl same ↦ subst (λ (k : ObjectKey). IsSome (t.heads k.0)) (sym (place_is other at same)) has
  | inr not_same ↦ owned other q (rw not_same at is)
]

-- ---- the INSERT of a record

abbrev put_edit : Table → Row → Edit
put_edit table row = record { table = table; gone = []; news = row ∷ [] }

module _ (db : Trees) (d : List Row) (t : Maps) (spelled : SpellsTables (at_trees db) d t) where
  head_keyed : (row : Row) → Has (db 1) row → IsTrue (is_int (rowid row))
  head_keyed row there = let it = spelled.heads.sound row there in rw it.is refl

  pub heads_apart : AreApart head_row (db 1)
  heads_apart = apart_of head_row IsTextHead (db 1) t.heads spelled.heads

  pub parts_apart : AreApart part_row (db 3)
  parts_apart = apart_of part_row IsTextPart (db 3) t.parts spelled.parts

  module _ (id : List ℕ) (h : Head) (none : Lacks id t) (good : IsTextHead id h) (room : HasRoom 1 (db 1)) where
    abbrev new_head : Row
    new_head = head_row (next_rowid (db 1)) id h

    head_fresh : are_fresh (db 1) (new_head ∷ []) ≡ true
    head_fresh =
        let untaken : is_taken (db 1) new_head ≡ false = next_is_free Chosen (db 1) (drop 1 new_head) spelled.heads.apart (all_from (λ r. IsTrue (is_int (rowid r))) (db 1) head_keyed) in
        rw untaken refl

    put_allowed : (why : Refusal) → IsRefused store_schema Enforced db (put_edit kept_record new_head) why → ⊥
    unfolding same_name joined
    put_allowed (Violates Datatype) w = never_false w
    put_allowed (Violates NotNull) w = never_false w
    put_allowed (Violates Check) w = never_false w
    put_allowed (Violates PrimaryKey) w = never_false (sym head_fresh ∙ w)
    put_allowed (Violates Unique) w = w (keys_apart (with_tree db 1 (put_all (db 1) (new_head ∷ [])))
        (apart_of head_row IsTextHead (put_all (db 1) (new_head ∷ [])) (put id h t).heads (spells_put head_row IsTextHead bytes_eq heads (db 1) t.heads spelled.heads (next_rowid (db 1)) id h none good head_fresh)) parts_apart)
    put_allowed (Violates ForeignKey) w = w
    put_allowed Mismatch w = never_false w
    put_allowed NoRowid w = let fits = next_fits (db 1) room in never_false (sym (rw fits refl) ∙ w)
    put_allowed BadReference w = never_false w
    put_allowed TooDeep w = w

  module _ (at : ObjectKey) (p q : ObjectTexts) (n : ℤ) (there : Has (db 3) (part_row n at q)) (good : IsTextPart at p) (fits : fits_i64 n ≡ true) where
    pub set_allowed : (why : Refusal) → IsRefused store_schema Enforced db (exchange (n ∷ []) (part_row n at p ∷ [])) why → ⊥
    unfolding same_name joined
    set_allowed (Violates Datatype) w = never_false w
    set_allowed (Violates NotNull) w = never_false w
    set_allowed (Violates Check) w = never_false w
    set_allowed (Violates PrimaryKey) w = never_false (sym (fresh_again part_row IsTextPart same_place parts (db 3) t.parts spelled.parts n at q p there good) ∙ w)
    set_allowed (Violates Unique) w = w (keys_apart (with_tree db 3 (put_all (without_all (db 3) (n ∷ [])) (part_row n at p ∷ []))) heads_apart
        (apart_of part_row IsTextPart (put_all (without_all (db 3) (n ∷ [])) (part_row n at p ∷ [])) (added at p t).parts (spells_replaced part_row IsTextPart same_place parts (db 3) t.parts spelled.parts n at q p there good)))
    set_allowed (Violates ForeignKey) w = w
    set_allowed Mismatch w = never_false w
    set_allowed NoRowid w = never_false (sym (rw fits refl) ∙ w)
    set_allowed BadReference w = never_false w
    set_allowed TooDeep w = w

put_accepted : (id form root : List ℕ) → accepts_terms put_terms (Text id ∷ Text form ∷ Text root ∷ []) ≡ true
unfolding everything
put_accepted id form root = refl

pub set_accepted : (id name kind fields : List ℕ) → accepts_program store_schema [] set_query (Text id ∷ Text name ∷ Text kind ∷ Text fields ∷ []) ≡ true
unfolding everything
set_accepted id name kind fields = refl

module _ (s : State) (none : s.step_limit ≡ None) (d : List Row) (t : Maps) (spelled : SpellsTables (at_trees s.now.trees) d t) (owned : IsOwned t) where
  abbrev db : Trees
  db = s.now.trees

  module _ (id : List ℕ) (h : Head) (lacks : Lacks id t) (good : IsTextHead id h) (room : HasRoom 1 (db 1)) (short : IsShortHead id h) where
    never_put_sourced : (stop : Option Error) → Sourced s.step_limit (at_trees db) (head_params id h) (Values put_terms 4) (Err stop) → ⊥
    never_put_sourced None w = w
    never_put_sourced (Some e) (inl w) = never_false (sym (put_accepted id h.form h.root) ∙ w.1)
    never_put_sourced (Some e) (inr w) = never_steps s.step_limit none w.1

    never_put : (sql : List ℕ) (stop : Option Error) → Does s.step_limit (mode_of s) (head_params id h) (at_trees db) sql None (Insert 1 (Values put_terms 4)) (Err stop) → ⊥
    never_put sql stop (inl (st, inl (st', sourced, _), _)) = never_put_sourced st' sourced
    never_put sql stop (inl (st, inr (rows, given, inl (st', wrong, _)), _)) = never_ok wrong
    never_put sql stop (inl (st, inr (rows, given, inr (counter, counted, inl (st', edited, _))), _)) =
        let row = head_row (next_rowid (db 1)) id h in
        let news : numbered Chosen (db 1) (map (λ r. cast_row kept_record (drop 0 r)) rows) ≡ row ∷ [] = ap (λ all. numbered Chosen (db 1) (map (λ r. cast_row kept_record (drop 0 r)) all)) given.1 ∙ rw cast_null in
        let is = ap (λ all. record { table = kept_record; gone = []; news = all }) news in
        never_edited db (put_edit kept_record row) (works_put_one 1 [] (row ∷ []) row refl) (put_allowed db d t spelled id h lacks good room) (head_fits (next_rowid (db 1)) id h short) st'
        (subst (λ (edit : Edit). Edited store_schema Enforced db edit (Err st')) is edited)
    never_put sql stop (inl (st, inr (rows, given, inr (counter, counted, inr (next, edited, inl (st', wrong, _)))), _)) = never_ok wrong
    never_put sql stop (inl (st, inr (rows, given, inr (counter, counted, inr (next, edited, inr (after, kept, wrong)))), _)) = never_ok wrong
    never_put sql stop (inr (w, inserted, concluded)) =
        never_concluded s kept_record (head_params id h) w d (put id h t) (put_writes s.step_limit db id h d t spelled lacks good w inserted).0 (owned_put id h t owned) stop concluded

-- ---- the causes

module _ (old new : State) (none : old.step_limit ≡ None) where
  pub put_cause : (id : List ℕ) (h : Head) → IsTextHead id h → (r : Result ℕ Error) → ExecutesInside 0 put_text (head_params id h) old new r
      → IfErr r (λ e. (d : List Row) (t : Maps) → SpellsTables old.now d t → IsOwned t → Lacks id t → HasRooms 1 old.now → IsShortHead id h → IsExcused old new e)
  put_cause id h good (Ok count) ran = tt
  put_cause id h good (Err e) ran = λ d t spelled owned lacks room short refused.
      let params = head_params id h in
      let command = Insert 1 (Values put_terms 4) in
      let text = statement_of put_text (understood store_schema put_text) in
      run_cause put_text params old new store_schema spelled.schema put_plain put_whole command put_is tt
      (λ stop does. never_put old none d t (in_place old.now d t spelled) owned id h lacks good room.0 short text stop
      (subst (λ sc. Does old.step_limit (mode_of old) params (record old.now { schema = sc }) text None command (Err stop)) spelled.schema does)) e ran refused
