-- Records that are written one after another in a transaction.
use Rattle.std.proofs.Common.{◌≡◌, ◌+◌, ◌<◌, ◌≤◌, ◌++◌, zero, suc, take, get_or, length, ℕ, List, [], ◌∷◌, Result, OnOk, IfErr, refl, sym, ap, subst, arith}
use Rattle.std.proofs.lemmas.List.{length-map}
use Rattle.sqlite.specs.Effect.{Database}
use Rattle.sqlite.specs.Order.{Row}
use Rattle.sqlite.specs.declared.error.Error.{Error}
use Rattle.sqlite.specs.State.{State, HasCleanDisk}
use Rattle.fv_store_tables.specs.declared.text.ObjectText.{ObjectText}
use Rattle.fv_store_tables.specs.Causes.{AreShort, HasRooms, IsExcused, IsShortHead}
use Rattle.fv_store_tables.specs.Changes.{AreApart, object_view, objects_view}
use Rattle.fv_store_tables.specs.Stands.{Entry, TableEntries, Frame, TablesStand, with_entry}
use Rattle.fv_store_tables.specs.Steps.{Advances, Turns}
use Rattle.fv_store_tables.proofs.Composed.{fewer_rooms, more_on_err}
use Rattle.fv_store_tables.proofs.Steps.{failed_then, led_on_ok}
use Rattle.fv_store_upgrade.specs.declared.records.NewRecord.{NewRecord}
use Rattle.fv_store_upgrade.specs.Steps.{AllApart, EachShort, Named, Puts, all_put, new_view, news_view, rows_taken}

-- ---- one record

module _ (id form root : List ℕ) (objects : List ObjectText) where
  -- as the code gives it
  abbrev pub given : Entry
  given = record { form = form; root = root; objects = objects_view objects }

  count : length (objects_view objects) ≡ length objects
  count = length-map objects object_view

  puts_one : (x y : Database) → Turns (1 + length objects) (λ _. AreApart (objects_view objects)) (with_entry id given) x y → Puts ((id, given) ∷ []) x y
  puts_one x y turns d m stands apart =
      let it = turns d m stands apart.0 in
      let same = count in
      (it.0, λ n room. it.1 n (fewer_rooms (n + (1 + length objects)) (n + rows_taken ((id, given) ∷ [])) x (omega (arith, same)) room))

  pub put_made : (old new : State) (r : Result (Unit {0}) Error) → OnOk r (Advances old new (Turns (1 + length objects) (λ _. AreApart (objects_view objects)) (with_entry id given)))
      → OnOk r (Advances old new (Puts ((id, given) ∷ [])))
  put_made old new r = led_on_ok old new r puts_one

  pub put_excused : (old new : State) (r : Result (Unit {0}) Error)
      → IfErr r (λ e. (d : List Row) (m : TableEntries) → TablesStand old.now d m → AreApart (objects_view objects) → HasRooms (1 + length objects) old.now
      → IsShortHead id (record { form = form; root = root }) → AreShort id (objects_view objects) → IsExcused old new e)
      → IfErr r (λ e. (d : List Row) (m : TableEntries) → TablesStand old.now d m → AllApart ((id, given) ∷ []) → HasRooms (rows_taken ((id, given) ∷ [])) old.now → EachShort ((id, given) ∷ []) → IsExcused old new e)
  put_excused old new r = more_on_err _ _ r (λ e h d m stands apart room short.
      let same = count in
      h d m stands apart.0 (fewer_rooms (1 + length objects) (rows_taken ((id, given) ∷ [])) old.now (omega (arith, same)) room) short.0.0 short.0.1)

-- ---- one record after another

all_put-push : (ks : List Named) (k : Named) (m : TableEntries) → all_put (ks ++ k ∷ []) m ≡ with_entry k.0 k.1 (all_put ks m)
all_put-push [] k m = refl
all_put-push (x ∷ ks) k m = all_put-push ks k (with_entry x.0 x.1 m)

rows-push : (ks : List Named) (k : Named) → rows_taken (ks ++ k ∷ []) ≡ rows_taken ks + rows_taken (k ∷ [])
rows-push [] k = omega arith
rows-push (x ∷ ks) k = let rest = rows-push ks k in omega (arith, rest)

apart_front : (ks : List Named) (k : Named) → AllApart (ks ++ k ∷ []) → AllApart ks × AllApart (k ∷ [])
apart_front [] k apart = (tt, apart)
apart_front (x ∷ ks) k apart = let rest = apart_front ks k apart.1 in ((apart.0, rest.0), rest.1)

-- one record more
one_more : (ks : List Named) (k : Named) (x y z : Database) → Puts ks x y → Puts (k ∷ []) y z → Puts (ks ++ k ∷ []) x z
one_more ks k x y z p q d m stands apart =
    let parts = apart_front ks k apart in
    let made = p d m stands parts.0 in
    let more = q d (all_put ks m) made.0 parts.1 in (
      subst (λ (r : TableEntries). TablesStand z d r) (sym (all_put-push ks k m)) more.0,
      λ n room. more.1 n (made.1 (n + rows_taken (k ∷ [])) (fewer_rooms (n + rows_taken (k ∷ []) + rows_taken ks) (n + rows_taken (ks ++ k ∷ [])) x (omega (arith, rows-push ks k)) room)),
    )

news-push : (rs : List NewRecord) (r : NewRecord) → news_view (rs ++ r ∷ []) ≡ news_view rs ++ new_view r ∷ []
news-push [] r = refl
news-push (x ∷ rs) r = ap (λ ks. new_view x ∷ ks) (news-push rs r)

pub one_record : (rs : List NewRecord) (r : NewRecord) (x y z : Database) → Puts (news_view rs) x y → Puts (new_view r ∷ []) y z → Puts (news_view (rs ++ r ∷ [])) x z
one_record rs r x y z p q = subst (λ ks. Puts ks x z) (sym (news-push rs r)) (one_more (news_view rs) (new_view r) x y z p q)

-- ---- refusals

apart_taken : (i : ℕ) (rs : List NewRecord) → AllApart (news_view rs) → AllApart (news_view (take i rs))
apart_taken zero rs apart = tt
apart_taken (suc i) [] apart = tt
apart_taken (suc i) (r ∷ rs) apart = (apart.0, apart_taken i rs apart.1)

apart_at : (rs : List NewRecord) (i : ℕ) (r : NewRecord) → i < length rs → AllApart (news_view rs) → AllApart (new_view (get_or rs i r) ∷ [])
apart_at [] i r below apart = absurd (omega arith)
apart_at (x ∷ rs) zero r below apart = (apart.0, tt)
apart_at (x ∷ rs) (suc i) r below apart = apart_at rs i r (omega arith) apart.1

short_at : (rs : List NewRecord) (i : ℕ) (r : NewRecord) → i < length rs → EachShort (news_view rs) → EachShort (new_view (get_or rs i r) ∷ [])
short_at [] i r below short = absurd (omega arith)
short_at (x ∷ rs) zero r below short = (short.0, tt)
short_at (x ∷ rs) (suc i) r below short = short_at rs i r (omega arith) short.1

rows_at : (rs : List NewRecord) (i : ℕ) (r : NewRecord) → i < length rs → rows_taken (new_view (get_or rs i r) ∷ []) + rows_taken (news_view (take i rs)) ≤ rows_taken (news_view rs)
rows_at [] i r below = absurd (omega arith)
rows_at (x ∷ rs) zero r below = omega arith
rows_at (x ∷ rs) (suc i) r below = let rest = rows_at rs i r (omega arith) in omega (arith, rest)

-- some records were written and the next was refused
pub step_cause : (a b c : State) (rs : List NewRecord) (i : ℕ) (r : NewRecord) → i < length rs → r ≡ get_or rs i r → HasCleanDisk c → Frame a b → Frame b c
    → Advances a b (Puts (news_view (take i rs))) → (e : Error)
    → ((d : List Row) (m : TableEntries) → TablesStand b.now d m → AllApart (new_view r ∷ []) → HasRooms (rows_taken (new_view r ∷ [])) b.now → EachShort (new_view r ∷ []) → IsExcused b c e)
    → (d : List Row) (m : TableEntries) → TablesStand a.now d m → AllApart (news_view rs) → HasRooms (rows_taken (news_view rs)) a.now → EachShort (news_view rs) → IsExcused a c e
step_cause a b c rs i r below is clean before after made e h d m stands apart room short refused =
    let front = news_view (take i rs) in
    let it = made.change d m stands (apart_taken i rs apart) in
    let least = rows_at rs i r below in
    let same : rows_taken (new_view r ∷ []) ≡ rows_taken (new_view (get_or rs i r) ∷ []) = ap (λ x. rows_taken (new_view x ∷ [])) is in
    let left = fewer_rooms (rows_taken (new_view r ∷ []) + rows_taken front) (rows_taken (news_view rs)) a.now (omega (arith, least, same)) room in
    failed_then a b c (after.clean clean) before after.counts
    (h d (all_put front m) it.0 (subst (λ x. AllApart (new_view x ∷ [])) (sym is) (apart_at rs i r below apart)) (it.1 (rows_taken (new_view r ∷ [])) left)
    (subst (λ x. EachShort (new_view x ∷ [])) (sym is) (short_at rs i r below short)) refused)
