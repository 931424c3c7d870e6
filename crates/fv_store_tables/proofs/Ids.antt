-- What a query of ids shows: each once, ascending.
use Rattle.std.proofs.Common.{◌≡◌, ◌&&◌, ◌+◌, ◌≤◌, ◌<◌, inl, inr, ℕ, ℤ, pos, zero, suc, List, [], ◌∷◌, map, take, length, get_or, sum_by, Bool, true, false, if◌then◌else◌, bytes_eq, Option, Some, None, Ok, Err, Result, IfOk, IfErr, Vec, IsTrue, IsUtf8, codes, refl, sym, ap, subst, subst₂, add-one, ◌∙◌, arith, nat_cmp}
use Rattle.std.specs.List.{list_all, AllByRecursion}
use Rattle.std.specs.List.Sorted.{IsStrictlySortedBy}
use Rattle.std.specs.declared.cmp.Ordering.{Ordering}
use Rattle.std.specs.declared.cmp.Ordering.TheVariants.{Less, Equal, Greater}
use Rattle.std.specs.Ordering.{int_cmp, is_lt, is_gt, ordering_then, ordering_reverse}
use Rattle.std.specs.Cmp.Lexicographic.{slice_cmp}
use Rattle.std.specs.declared.alloc.Global.{Global}
use Rattle.std.proofs.lemmas.Int.{ints}
use Rattle.std.proofs.lemmas.Bool.{cases_Bool, and_parts}
use Rattle.std.proofs.lemmas.Bool.Decides.{nat_tests}
use Rattle.std.proofs.lemmas.Cmp.{nat_list_cmp_total}
use Rattle.std.proofs.lemmas.List.{take-map}
use Rattle.std.proofs.lemmas.Slice.Eq.{bytes_eq-Decides}
use Rattle.std.proofs.lemmas.List.Sums.{sum_by-cons}
use Rattle.std.proofs.lemmas.List.Sorted.{sum_by-IsPermutation}
use Rattle.sqlite.specs.declared.types.Value.TheVariants.{Null, Int, Text}
use Rattle.sqlite.specs.Collation.TheVariants.{Binary}
use Rattle.sqlite.specs.Order.{Row, column, bytes, value_cmp}
use Rattle.sqlite.specs.Ops.{binary, is_true, from_truth}
use Rattle.sqlite.specs.Tree.{Trees, IsTable, rowid}
use Rattle.sqlite_value.proofs.OrderLemmas.{value_cmp-Int, value_cmp-Text}
use Rattle.sqlite_sql.specs.declared.ops.BinaryOp.TheVariants.{Compare}
use Rattle.sqlite_sql.specs.declared.ops.CompareOp.TheVariants.{Gt}
use Rattle.sqlite_rules.specs.Lists.{Has}
use Rattle.sqlite_rules.proofs.ListLemmas.{all_has, has_at}
use Rattle.sqlite_rules.proofs.ProbeLemmas.{has_mapped, mapped_has}
use Rattle.sqlite.specs.Term.{Term, col, holds}
use Rattle.sqlite.specs.Query.{Query, Output, output, output_cmp, page, matches, inner, end, IsAnswer}
use Rattle.sqlite.specs.Program.{overlay}
use Rattle.sqlite.specs.State.{State, HasCleanDisk, Shown, FailsToQuery}
use Rattle.sqlite.specs.Effect.{RefusesToRead}
use Rattle.sqlite.specs.Command.{Command}
use Rattle.sqlite_typing.specs.Types.{accepts_program}
use Rattle.sqlite.specs.Command.TheVariants.{Select}
use Rattle.sqlite.specs.declared.error.Error.{Error}
use Rattle.sqlite.proofs.Callers.{reads_as}
use Rattle.fv_store_tables.specs.Lists.{AreListed, HasForm, HasRecord, ShowsIds, id_row}
use Rattle.fv_store_tables.specs.Causes.{IsExcused}
use Rattle.fv_store_tables.specs.Rows.{IsRowOf, HasRows}
use Rattle.fv_store_tables.specs.Stands.{Head, Entry, TableEntries, Keeps, head_row, IsTextHead, head_of}
use Rattle.fv_store_tables.specs.Tables.{store_schema}
use Rattle.fv_store_tables.proofs.Texts.{by_id, ids_where, IdsMean, ids_text, ids_tests, ids_mean, all_ids_text, all_ids_tests, all_ids_mean}
use Rattle.fv_store_tables.proofs.OneTable.{kept, truth_of, equal_texts, and_true, ordered_sound, ordered_complete}
use Rattle.fv_store_tables.proofs.Ordered.{sum_by-map, le_by, both_le, two_hits, fewer, get_or_same, strictly, all_above}
use Rattle.fv_store_tables.proofs.Queries.{more_on_ok, shown_open}
use Rattle.fv_store_tables.proofs.Refusals.{no_sum, never_steps, query_cause}

-- the id that an output shows
abbrev pub id_of : Output → List ℕ
id_of o = bytes (column o.1 0)

-- ---- no id is shown twice

module _ (id : List ℕ) where
  abbrev pub hit : Row → ℕ
  hit r = if bytes_eq (bytes (column r 1)) id then 1 else 0

  none_hit : (rs : List Row) → ((r : Row) → Has rs r → hit r ≡ 0) → sum_by hit rs ≡ 0
  none_hit [] each = refl
  none_hit (r ∷ rs) each = let step : sum_by hit (r ∷ rs) ≡ hit r + sum_by hit rs = sum_by-cons hit r rs in let head = each r (inl refl) in let tail = none_hit rs (λ x h. each x (inr h)) in omega arith

  not_below : (n : ℤ) → int_cmp n n ≡ Less → ⊥
  not_below n h = grind (arith, ints, nat_tests)

  -- whatever the rows keep beside the rowid and the id, which comes first
  pub at_most_once : {V : Type 0} (row_of : ℤ → List ℕ → V → Row) (IsGood : List ℕ → V → Type 0) → ((i : ℤ) (k : List ℕ) (v : V) → (rowid (row_of i k v) ≡ Int i) × (bytes (column (row_of i k v) 1) ≡ k))
      → (m : List ℕ → Option V) (rs : List Row) → HasRows row_of IsGood rs m → sum_by hit rs ≤ 1
  at_most_once {V} row_of IsGood begins m rs s = go rs s.apart s.sound s.once
    where
      key_is : (row : Row) (it : IsRowOf row_of IsGood m row) → bytes_eq (bytes (column row 1)) id ≡ true → it.key ≡ id
      key_is row it same = sym (begins it.number it.key it.value).1 ∙ ap (λ (r : Row). bytes (column r 1)) (sym it.is) ∙ (bytes_eq-Decides (bytes (column row 1)) id).0 same

      go : (xs : List Row) → IsTable xs → ((r : Row) → Has xs r → IsRowOf row_of IsGood m r) → ((i n : ℤ) (k : List ℕ) (v w : V) → Has xs (row_of i k v) → Has xs (row_of n k w) → i ≡ n) → sum_by hit xs ≤ 1
      go [] up rows once = omega arith
      go (x ∷ xs) up rows once = let step : sum_by hit (x ∷ xs) ≡ hit x + sum_by hit xs = sum_by-cons hit x xs in elim (cases_Bool (bytes_eq (bytes (column x 1)) id)) [
        | inr other ↦ let rest = go xs up.1 (λ r h. rows r (inr h)) (λ i n k v w p q. once i n k v w (inr p) (inr q)) in let head : hit x ≡ 0 = rw other refl in omega arith
        | inl same ↦
            let head : hit x ≡ 1 = rw same refl in
            let later = none_hit xs (λ y h. elim (cases_Bool (bytes_eq (bytes (column y 1)) id)) [
              | inr other ↦ rw other refl
              | inl too ↦ absurd (
                  let rx = rows x (inl refl) in
                  let ry = rows y (inr h) in
                  let here : Has (x ∷ xs) (row_of rx.number id rx.value) = inl (ap (λ k. row_of rx.number k rx.value) (sym (key_is x rx same)) ∙ sym rx.is) in
                  let there : Has (x ∷ xs) (row_of ry.number id ry.value) = inr (subst (Has xs) (ry.is ∙ ap (λ k. row_of ry.number k ry.value) (key_is y ry too)) h) in
                  let number : rx.number ≡ ry.number = once rx.number ry.number id rx.value ry.value here there in
                  let less : value_cmp (rowid x) (rowid y) ≡ Less = all_has (λ r. value_cmp (rowid x) (rowid r) ≡ Less) xs y up.0 h in
                  let both : value_cmp (Int rx.number) (Int ry.number) ≡ Less = subst₂ (λ a b. value_cmp a b ≡ Less) (ap rowid rx.is ∙ (begins rx.number rx.key rx.value).0) (ap rowid ry.is ∙ (begins ry.number ry.key ry.value).0) less in
                  not_below rx.number (sym (value_cmp-Int rx.number rx.number) ∙ subst (λ n. value_cmp (Int rx.number) (Int n) ≡ Less) (sym number) both))
            ]) in
            omega arith
      ]

-- ---- the tests

above_texts : (s t : List ℕ) → is_true (binary (Compare Gt Binary) (Text s) (Text t)) ≡ is_gt (slice_cmp nat_cmp s t)
unfolding binary
above_texts s t = ap (λ o. is_true (from_truth (Some (is_gt o)))) (value_cmp-Text s t) ∙ truth_of _

lesser : (tests : List Term) (limit : Term) (s t : List ℕ) → is_lt (output_cmp (ids_where tests limit) (Text s ∷ [], Text s ∷ []) (Text t ∷ [], Text t ∷ [])) ≡ false → is_lt (slice_cmp nat_cmp s t) ≡ false
lesser tests limit s t h = go (slice_cmp nat_cmp s t) (rw (value_cmp-Text s t) at h)
  where
    go : (o : Ordering) → is_lt (ordering_then o Equal) ≡ false → is_lt o ≡ false
    go Less e = e
    go Equal e = refl
    go Greater e = refl

each_shows : (xs : List Output) → ((o : Output) → Has xs o → o.1 ≡ Text (id_of o) ∷ []) → map (λ (o : Output). o.1) xs ≡ map (λ id. Text id ∷ []) (map id_of xs)
each_shows [] each = refl
each_shows (x ∷ xs) each =
    let head = each x (inl refl) in
    let tail = each_shows xs (λ o h. each o (inr h)) in
    rw (head, tail) refl

greater : (o : Ordering) → is_gt o ≡ true → o ≡ Greater
greater Less h = cc
greater Equal h = cc
greater Greater h = refl

above_when : (id above : List ℕ) → is_gt (slice_cmp nat_cmp id above) ≡ true → slice_cmp nat_cmp above id ≡ Less
above_when id above h = nat_list_cmp_total.antisymm above id ∙ ap ordering_reverse (greater (slice_cmp nat_cmp id above) h)

when_above : (id above : List ℕ) → slice_cmp nat_cmp above id ≡ Less → is_gt (slice_cmp nat_cmp id above) ≡ true
when_above id above h = ap is_gt (nat_list_cmp_total.antisymm id above ∙ ap ordering_reverse h)

-- where each is below its neighbour, each is below all that follow
ascending : (xs : List Output) → ((k : ℕ) (d : Output) → suc k < length xs → slice_cmp nat_cmp (id_of (get_or xs k d)) (id_of (get_or xs (suc k) d)) ≡ Less) → IsStrictlySortedBy (slice_cmp nat_cmp) (map id_of xs)
unfolding IsStrictlySortedBy
ascending [] h = tt
ascending (x ∷ []) h = (tt, tt)
ascending (x ∷ y ∷ xs) h =
    let below : slice_cmp nat_cmp (id_of x) (id_of y) ≡ Less = h 0 x (omega arith) in
    let more = ascending (y ∷ xs) (λ k d within. h (suc k) d (omega arith)) in
    ((below, all_above (id_of x) (id_of y) (map id_of xs) below more.0), more)

each_taken : (P : List ℕ → Type 0) (n : ℕ) (xs : List (List ℕ)) → ((x : List ℕ) → Has xs x → P x) → AllByRecursion P (take n xs)
each_taken P zero xs each = tt
each_taken P (suc n) [] each = tt
each_taken P (suc n) (x ∷ xs) each = (each x (inl refl), each_taken P n xs (λ y h. each y (inr h)))

-- ---- what a query of ids finds

-- The text shows the ids above one, so many at most, of the rows that pass its tests: those of a head that is wanted, which is said of the records too.
pub record Finds (text : List ℕ) (given : Row) (above : List ℕ) (n : ℕ) (Wanted : TableEntries → List ℕ → Type 0) : Type 0 where
  pub tests : List Term
  pub limit : Term
  pub wanted : Head → Bool
  pub means : IdsMean text tests limit given
  pub paged : (xs : List Row) → page (ids_where tests limit) given xs ≡ take n xs
  pub tested : (i : ℤ) (id : List ℕ) (h : Head) → list_all (holds (given ∷ head_row i id h ∷ [])) tests ≡ (wanted h && is_gt (slice_cmp nat_cmp id above))
  pub sound : (m : TableEntries) (id : List ℕ) (h : Head) → head_of (m id) ≡ Some h → wanted h ≡ true → Wanted m id
  pub complete : (m : TableEntries) (id : List ℕ) → Wanted m id → (h : Head) × (head_of (m id) ≡ Some h) × (wanted h ≡ true)

module _ (text : List ℕ) (given : Row) (above : List ℕ) (n : ℕ) (Wanted : TableEntries → List ℕ → Type 0) (f : Finds text given above n Wanted) (db : Trees) (m : TableEntries) (rows : List Row)
    (s : HasRows head_row IsTextHead (db 1) (λ id. head_of (m id))) (a : IsAnswer (ids_where f.tests f.limit) (overlay db []) given rows) where
  abbrev q : Query
  q = ids_where f.tests f.limit

  abbrev shows : List ℕ → Output → ℕ
  shows id o = if bytes_eq (id_of o) id then 1 else 0

  -- no id is shown by two outputs
  shown_once : (id : List ℕ) → sum_by (shows id) a.ordered ≤ 1
  shown_once id =
      let all = kept 1 f.tests (col 1 1 ∷ []) by_id f.limit (overlay db []) given rows a in
      let moved = sum_by-IsPermutation (shows id) a.kept a.ordered a.same in
      let mapped = ap (sum_by (shows id)) all in
      let through = sum_by-map (shows id) (output q) (matches (overlay db []) f.tests (inner 1 end) (given ∷ [])) in
      let less = fewer (λ r. list_all (holds (given ∷ r ∷ [])) f.tests) (λ r. given ∷ r ∷ []) (λ e. shows id (output q e)) (hit id) (db 1) (λ r there passed. refl) in
      let most = at_most_once id head_row IsTextHead (λ i k v. (refl, refl)) (λ i. head_of (m i)) (db 1) s in
      le_by (moved ∙ mapped ∙ through) (both_le less most)

  -- two neighbours show two ids
  differ : (k : ℕ) (o : Output) → suc k < length a.ordered → bytes_eq (id_of (get_or a.ordered (suc k) o)) (id_of (get_or a.ordered k o)) ≡ false
  differ k o h = elim (cases_Bool (bytes_eq (id_of (get_or a.ordered (suc k) o)) (id_of (get_or a.ordered k o)))) [
    | inr other ↦ other
    | inl same ↦
        let id = id_of (get_or a.ordered k o) in
        let itself = (bytes_eq-Decides id id).1 refl in
        let two = two_hits (shows id) a.ordered k o (omega arith) (rw itself refl) (rw same refl) in
        let one = shown_once id in
        absurd (omega arith)
  ]

  -- each output shows an id
  shape : (o : Output) → Has a.ordered o → (id : List ℕ) × Wanted m id × (slice_cmp nat_cmp above id ≡ Less) × IsUtf8 id × (o ≡ (Text id ∷ [], Text id ∷ []))
  shape o h =
      let r = ordered_sound 1 f.tests (col 1 1 ∷ []) by_id f.limit (overlay db []) given rows a o h in
      let it = s.sound r.0 r.1 in
      let okay = sym (f.tested it.number it.key it.value) ∙ ap (λ (v : Row). list_all (holds (given ∷ v ∷ [])) f.tests) (sym it.is) ∙ r.2 in
      let both = and_parts (f.wanted it.value) (is_gt (slice_cmp nat_cmp it.key above)) okay in
      (it.key, f.sound m it.key it.value it.known both.0, above_when it.key above both.1, it.good.0, r.3 ∙ ap (λ (v : Row). (column v 1 ∷ [], column v 1 ∷ [])) it.is)

  abbrev ids : List (List ℕ)
  ids = map id_of a.ordered

  listed_at : (id : List ℕ) → Has ids id → Wanted m id × (slice_cmp nat_cmp above id ≡ Less) × IsUtf8 id
  listed_at id h =
      let o = has_mapped id_of a.ordered id h in
      let r = shape o.0 o.1 in
      let same : id ≡ r.0 = o.2 ∙ ap id_of r.4 in
      (subst (Wanted m) (sym same) r.1, subst (λ (i : List ℕ). slice_cmp nat_cmp above i ≡ Less) (sym same) r.2, subst IsUtf8 (sym same) r.3)

  ids_complete : (id : List ℕ) → Wanted m id → slice_cmp nat_cmp above id ≡ Less → Has ids id
  ids_complete id is_wanted is_above =
      let h = f.complete m id is_wanted in
      let there = s.complete id h.0 h.1 in
      let okay = f.tested there.0 id h.0 ∙ ap (λ b. b && is_gt (slice_cmp nat_cmp id above)) h.2 ∙ when_above id above is_above in
      let o = ordered_complete 1 f.tests (col 1 1 ∷ []) by_id f.limit (overlay db []) given rows a (head_row there.0 id h.0) there.1 okay in
      mapped_has id_of a.ordered (output q (given ∷ head_row there.0 id h.0 ∷ [])) o

  next_above : (k : ℕ) (o : Output) → suc k < length a.ordered → slice_cmp nat_cmp (id_of (get_or a.ordered k o)) (id_of (get_or a.ordered (suc k) o)) ≡ Less
  next_above k o within =
      let x = get_or a.ordered (suc k) o in
      let y = get_or a.ordered k o in
      let sx = shape x (has_at a.ordered (suc k) x (omega arith) (get_or_same a.ordered (suc k) o (omega arith))) in
      let sy = shape y (has_at a.ordered k y (omega arith) (get_or_same a.ordered k o (omega arith))) in
      let least : is_lt (output_cmp q x y) ≡ false = rw add-one at (a.sorted k o (omega arith) (omega arith)) in
      let below = subst₂ (λ (p r : Output). is_lt (output_cmp q p r) ≡ false) sx.4 sy.4 least in
      let apart : bytes_eq sx.0 sy.0 ≡ false = subst₂ (λ (p r : Output). bytes_eq (id_of p) (id_of r) ≡ false) sx.4 sy.4 (differ k o within) in
      subst₂ (λ (p r : Output). slice_cmp nat_cmp (id_of r) (id_of p) ≡ Less) (sym sx.4) (sym sy.4) (strictly sx.0 sy.0 (lesser f.tests f.limit sx.0 sy.0 below) apart)

  rows_are : rows ≡ map id_row (take n ids)
  rows_are =
      a.shown
      ∙ f.paged (map (λ (o : Output). o.1) a.ordered)
      ∙ ap (take n) (each_shows a.ordered (λ o h. let it = shape o h in ap (λ (x : Output). x.1) it.4 ∙ ap (λ id. Text id ∷ []) (sym (ap id_of it.4))))
      ∙ take-map id_row n ids

  ids_listed : ShowsIds rows (Wanted m) above n
  ids_listed =
      let all : AreListed (Wanted m) above ids = record { ascending = ascending a.ordered next_above; sound = λ id h. let it = listed_at id h in (it.0, it.1); complete = ids_complete } in
      (take n ids, (ids, all, refl), each_taken IsUtf8 n ids (λ id h. (listed_at id h).2), rows_are)

module _ (text : List ℕ) (given : Row) (above : List ℕ) (n : ℕ) (Wanted : TableEntries → List ℕ → Type 0) (f : Finds text given above n Wanted) (old new : State) (clean : HasCleanDisk old) (r : Result (Vec Row Global) Error) where
  abbrev command : Command
  command = Select (record { lets = []; body = ids_where f.tests f.limit }) (codes "id" ∷ [])

  pub ids_shown : IfOk r (λ rows. Shown text given old new rows.items) → IfOk r (λ rows. IsTrue old.is_open × ((d : List Row) (m : TableEntries) → Keeps old d m → ShowsIds rows.items (Wanted m) above n))
  ids_shown h = more_on_ok (λ rows. Shown text given old new rows.items) (λ rows. IsTrue old.is_open × ((d : List Row) (m : TableEntries) → Keeps old d m → ShowsIds rows.items (Wanted m) above n)) r shown h
    where
      shown : (rows : Vec Row Global) → Shown text given old new rows.items → IsTrue old.is_open × ((d : List Row) (m : TableEntries) → Keeps old d m → ShowsIds rows.items (Wanted m) above n)
      shown rows h =
          let live = shown_open _ _ old new rows.items h in (
            live,
            λ d m keeps.
                let stood = (keeps clean live).0 in
                let read = reads_as text given old new store_schema stood.schema command f.means.is f.means.plain f.means.unlisted rows.items h in
                ids_listed text given above n Wanted f old.now.trees m rows.items stood.heads (read.answer Null),
          )

  never_refused : old.now.schema ≡ store_schema → old.step_limit ≡ None → (e : Error) → RefusesToRead old.step_limit command old.now given e → ⊥
  never_refused has none e (inl h) = let wrong = subst (λ sc. accepts_program sc [] (ids_where f.tests f.limit) given ≡ false) has h.1 in let accepted = f.means.accepted in cc
  never_refused has none e (inr (inl h)) = no_sum (old.now.trees 1) h.1
  never_refused has none e (inr (inr h)) = never_steps old.step_limit none h.1

  pub ids_cause : old.step_limit ≡ None → IfErr r (FailsToQuery text given old new) → IfErr r (λ e. (d : List Row) (m : TableEntries) → Keeps old d m → IsExcused old new e)
  ids_cause none h = go r h
    where
      go : (o : Result (Vec Row Global) Error) → IfErr o (FailsToQuery text given old new) → IfErr o (λ e. (d : List Row) (m : TableEntries) → Keeps old d m → IsExcused old new e)
      go (Ok rows) h = tt
      go (Err e) h = λ d m keeps refused. elim (cases_Bool old.is_open) [
        | inl live ↦ let has = (keeps clean live).0.schema in query_cause text given old new store_schema has f.means.plain f.means.whole command f.means.is f.means.unlisted (never_refused has none) e h refused
        | inr shut ↦ inr shut
      ]

-- ---- the two queries

-- a head that is kept is that of a record
of_head : (o : Option Entry) (h : Head) → head_of o ≡ Some h → (k : Entry) × (o ≡ Some k) × (k.form ≡ h.form)
of_head None h is = cc
of_head (Some k) h is = (k, refl, ap form_of is)
  where
    form_of : Option Head → List ℕ
    form_of None = k.form
    form_of (Some e) = e.form

abbrev kept_head : Entry → Head
kept_head k = record { form = k.form; root = k.root }

-- the ids of the records of a form
pub of_form : (form above : List ℕ) (n : ℕ) → Finds ids_text (Text form ∷ Text above ∷ Int (pos n) ∷ []) above n (λ m. HasForm m form)
of_form form above n = record {
  tests = ids_tests;
  limit = col 0 2;
  wanted = λ h. bytes_eq h.form form;
  means = ids_mean form above n;
  paged = λ xs. refl;
  tested = λ i id h. rw (equal_texts h.form form, above_texts id above) (ap (λ b. bytes_eq h.form form && b) (and_true (is_gt (slice_cmp nat_cmp id above))));
  sound = λ m id h known same. let k = of_head (m id) h known in (k.0, k.1, k.2 ∙ (bytes_eq-Decides h.form form).0 same);
  complete = λ m id it. (kept_head it.0, ap head_of it.1, (bytes_eq-Decides it.0.form form).1 it.2);
}

-- those of all records
pub of_all : (above : List ℕ) (n : ℕ) → Finds all_ids_text (Text above ∷ Int (pos n) ∷ []) above n HasRecord
of_all above n = record {
  tests = all_ids_tests;
  limit = col 0 1;
  wanted = λ h. true;
  means = all_ids_mean above n;
  paged = λ xs. refl;
  tested = λ i id h. rw (above_texts id above) (and_true (is_gt (slice_cmp nat_cmp id above)));
  sound = λ m id h known _. let k = of_head (m id) h known in (k.0, k.1);
  complete = λ m id it. (kept_head it.0, ap head_of it.1, refl);
}
