-- The head of a record is looked up inside a transaction, and written anew where it differs.
use Rattle.std.proofs.Common.{◌≡◌, ◌+◌, inl, inr, ℕ, List, [], ◌∷◌, Some, None, IsSome, Ok, Err, Result, IfOk, IfErr, OnOk, IsTrue, Vec, Option, codes, option_map, refl, sym, ap, subst, ◌∙◌, arith}
use Rattle.std.proofs.lemmas.Slice.Eq.{bytes_eq-Decides}
use Rattle.std.specs.declared.alloc.Global.{Global}
use Rattle.sqlite.specs.declared.types.Value.TheVariants.{Text}
use Rattle.sqlite.specs.declared.error.Error.{Error}
use Rattle.sqlite.specs.Order.{Row}
use Rattle.sqlite.specs.Effect.{Database}
use Rattle.sqlite.specs.Command.TheVariants.{Select}
use Rattle.sqlite.specs.State.{State, HasCleanDisk, Shown}
use Rattle.fv_store_tables.specs.Tables.{store_schema}
use Rattle.fv_store_tables.specs.declared.entry.HeadRow.{HeadRow}
use Rattle.fv_store_tables.specs.Stored.{head_view}
use Rattle.fv_store_tables.specs.Stands.{Head, Maps, SpellsTables, Frame, IsOwned, ShowsHead, put, removed, without_parts}
use Rattle.fv_store_tables.specs.Changes.{AllTexts, AreApart, all_added, replaced, written, IsNew, IsReady}
use Rattle.fv_store_tables.specs.Causes.{HasRooms, IsExcused, IsShortHead, AreShort}
use Rattle.fv_store_tables.specs.Steps.{Advances, Makes, HasHead, UpdatesHead}
use Rattle.fv_store_tables.proofs.Texts.{find_text, find_query, find_is, find_plain, find_whole, find_unlisted}
use Rattle.fv_store_tables.proofs.InsideQueries.{FailsInside}
use Rattle.fv_store_tables.proofs.Queries.{finds, find_never}
use Rattle.fv_store_tables.proofs.Refusals.{query_cause}
use Rattle.fv_store_tables.proofs.Objects.{both}
use Rattle.fv_store_tables.proofs.Composed.{fewer_rooms}
use Rattle.fv_store_tables.proofs.Writes.{owned_put}
use Rattle.fv_store_tables.proofs.Replaces.{heads_anew}
use Rattle.fv_store_tables.proofs.Steps.{frame_then, failed_then}

-- ---- the query

pub head_shown : (old new : State) (id : List ℕ) (r : Result (Vec Row Global) Error) → IfOk r (λ rows. Shown find_text (Text id ∷ []) old new rows.items)
    → IfOk r (λ rows. (d : List Row) (t : Maps) → SpellsTables old.now d t → ShowsHead rows.items (t.heads id))
head_shown old new id (Err e) h = tt
head_shown old new id (Ok rows) h = λ d t spelled. finds old new id rows.items d t spelled h

pub head_cause : (old new : State) → IsTrue old.in_transaction → old.step_limit ≡ None → (id : List ℕ) (r : Result (Vec Row Global) Error) → IfErr r (FailsInside find_text (Text id ∷ []) old new)
    → IfErr r (λ e. (d : List Row) (t : Maps) → SpellsTables old.now d t → IsExcused old new e)
head_cause old new inside none id (Ok rows) h = tt
head_cause old new inside none id (Err e) (inr late) = λ d t spelled refused. absurd (let outside = late.3 in cc)
head_cause old new inside none id (Err e) (inl fails) = λ d t spelled refused.
    query_cause find_text (Text id ∷ []) old new store_schema spelled.schema find_plain find_whole (Select (record { lets = []; body = find_query }) (codes "form" ∷ codes "root" ∷ [])) find_is find_unlisted (find_never old spelled.schema none id) e fails refused

-- what the row shows that was found
pub head_read : (old : State) (id : List ℕ) (rows v : List Row) (o : Option HeadRow) → v ≡ rows → ((d : List Row) (t : Maps) → SpellsTables old.now d t → ShowsHead rows (t.heads id))
    → ((h : Option Head) → ShowsHead v h → option_map head_view o ≡ h) → (d : List Row) (t : Maps) → SpellsTables old.now d t → option_map head_view o ≡ t.heads id
head_read old id rows v o same shown reads d t spelled = reads (t.heads id) (subst (λ rs. ShowsHead rs (t.heads id)) (sym same) (shown d t spelled))

-- ---- the head

-- another head is written
pub head_written : (old new : State) (id : List ℕ) (h v : Head) (r : Result ℕ Error) → IfOk r (λ count. Advances old new (UpdatesHead id h count)) → OnOk r (Advances old new (Makes 0 (HasHead id v) (put id h)))
head_written old new id h v (Err e) updated = tt
head_written old new id h v (Ok count) updated = record {
  was_open = updated.was_open;
  mode = updated.mode;
  committed = updated.committed;
  change = λ d t spelled has.
      let it = updated.change d t spelled in (
        elim it.0 [ inl none ↦ absurd (let lacks = none.0 in cc) | inr made ↦ made.2 ],
        λ n room. it.1 n (fewer_rooms n (n + 0) old.now (omega arith) room),
      );
}

-- ---- the record

-- none was found, and a new one was written
pub found_none : {X E : Type 0} (a b c : State) (id : List ℕ) (h : Head) (os : AllTexts) (k : ℕ) (r : Result X E) → ((d : List Row) (t : Maps) → SpellsTables a.now d t → None ≡ t.heads id) → Advances a b (λ x y. y ≡ x)
    → OnOk r (Advances b c (Makes (1 + k) (IsNew id os) (written id h os))) → OnOk r (Advances a c (Makes (1 + k) (IsReady os) (written id h os)))
found_none a b c id h os k (Err e) found p q = tt
found_none a b c id h os k (Ok x) found p q = record {
  was_open = λ live. p.was_open (q.was_open live);
  mode = q.mode;
  committed = q.committed ∙ p.committed;
  change = λ d t spelled ready.
      let made = q.change d t (subst (λ (x : Database). SpellsTables x d t) (sym p.change) spelled) (ready, sym (found d t spelled)) in
      (made.0, λ n room. made.1 n (subst (HasRooms (n + (1 + k))) (sym p.change) room));
}

-- one was found, its head was written, and then its objects
pub found_one : {X E : Type 0} (a b c f : State) (id : List ℕ) (h v : Head) (os : AllTexts) (k : ℕ) (r : Result X E) → ((d : List Row) (t : Maps) → SpellsTables a.now d t → Some v ≡ t.heads id) → Advances a b (λ x y. y ≡ x)
    → Advances b c (Makes 0 (HasHead id v) (put id h)) → OnOk r (Advances c f (Makes k (λ _. AreApart os) (replaced id os))) → OnOk r (Advances a f (Makes (1 + k) (IsReady os) (written id h os)))
found_one a b c f id h v os k (Err e) found p q s = tt
found_one a b c f id h v os k (Ok x) found p q s = record {
  was_open = λ live. p.was_open (q.was_open (s.was_open live));
  mode = s.mode;
  committed = s.committed ∙ q.committed ∙ p.committed;
  change = λ d t spelled ready.
      let one = q.change d t (subst (λ (x : Database). SpellsTables x d t) (sym p.change) spelled) (sym (found d t spelled)) in
      let two = s.change d (put id h t) one.0 ready.0 in
      let same : replaced id os (put id h t) ≡ written id h os t = ap (all_added id os) (both (record { heads = (put id h t).heads; parts = without_parts id t.parts }) (put id h (removed id t)) (heads_anew id h t) (λ at. refl)) in
      (subst (SpellsTables f.now d) same two.0, λ n room. two.1 n (one.1 (n + k) (fewer_rooms (n + k + 0) (n + (1 + k)) b.now (omega arith) (subst (HasRooms (n + (1 + k))) (sym p.change) room))));
}

pub found_none_cause : {X : Type 0} (a b c : State) (id : List ℕ) (h : Head) (os : AllTexts) (k : ℕ) → HasCleanDisk c → Frame a b → Frame b c → ((d : List Row) (t : Maps) → SpellsTables a.now d t → None ≡ t.heads id) → Advances a b (λ x y. y ≡ x) → (r : Result X Error)
    → IfErr r (λ e. (d : List Row) (t : Maps) → SpellsTables b.now d t → IsNew id os t → HasRooms (1 + k) b.now → IsShortHead id h → AreShort id os → IsExcused b c e)
    → IfErr r (λ e. (d : List Row) (t : Maps) → SpellsTables a.now d t → IsReady os t → HasRooms (1 + k) a.now → IsShortHead id h → AreShort id os → IsExcused a c e)
found_none_cause a b c id h os k clean before after found p (Ok x) cause = tt
found_none_cause a b c id h os k clean before after found p (Err e) cause = λ d t spelled ready room one short refused.
    failed_then a b c (after.clean clean) before after.counts
    (cause d t (subst (λ (x : Database). SpellsTables x d t) (sym p.change) spelled) (ready, sym (found d t spelled)) (subst (HasRooms (1 + k)) (sym p.change) room) one short refused)

-- one was found, and its head was refused
pub found_head_cause : (a b c : State) (id : List ℕ) (h : Head) (k : ℕ) → HasCleanDisk c → Frame a b → Frame b c → Advances a b (λ x y. y ≡ x) → (e : Error)
    → ((d : List Row) (t : Maps) → SpellsTables b.now d t → IsOwned t → HasRooms 0 b.now → IsShortHead id h → IsExcused b c e)
    → (d : List Row) (t : Maps) → SpellsTables a.now d t → IsOwned t → HasRooms (1 + k) a.now → IsShortHead id h → IsExcused a c e
found_head_cause a b c id h k clean before after p e cause d t spelled owned room one refused =
    failed_then a b c (after.clean clean) before after.counts
    (cause d t (subst (λ (x : Database). SpellsTables x d t) (sym p.change) spelled) owned (fewer_rooms 0 (1 + k) b.now (omega arith) (subst (HasRooms (1 + k)) (sym p.change) room)) one refused)

-- its head was written, and an object was refused
pub found_one_cause : {X : Type 0} (a b c f : State) (id : List ℕ) (h v : Head) (os : AllTexts) (k : ℕ) → HasCleanDisk f → Frame a b → Frame b c → Frame c f → ((d : List Row) (t : Maps) → SpellsTables a.now d t → Some v ≡ t.heads id) → Advances a b (λ x y. y ≡ x)
    → Advances b c (Makes 0 (HasHead id v) (put id h)) → (r : Result X Error)
    → IfErr r (λ e. (d : List Row) (t : Maps) → SpellsTables c.now d t → AreApart os → IsOwned t → IsSome (t.heads id) → HasRooms k c.now → AreShort id os → IsExcused c f e)
    → IfErr r (λ e. (d : List Row) (t : Maps) → SpellsTables a.now d t → IsReady os t → HasRooms (1 + k) a.now → IsShortHead id h → AreShort id os → IsExcused a f e)
found_one_cause a b c f id h v os k clean first second third found p q (Ok x) cause = tt
found_one_cause a b c f id h v os k clean first second third found p q (Err e) cause = λ d t spelled ready room _ short refused.
    let one = q.change d t (subst (λ (x : Database). SpellsTables x d t) (sym p.change) spelled) (sym (found d t spelled)) in
    let itself = (bytes_eq-Decides id id).1 refl in
    let headed : IsSome ((put id h t).heads id) = rw itself refl in
    failed_then a c f (third.clean clean) (frame_then a b c first second) third.counts
    (cause d (put id h t) one.0 ready.0 (owned_put id h t ready.1) headed (one.1 k (fewer_rooms (k + 0) (1 + k) b.now (omega arith) (subst (HasRooms (1 + k)) (sym p.change) room))) short refused)
