-- One statement inside a transaction, as a step of the maps.
use Rattle.std.proofs.Common.{◌≡◌, ◌+◌, ◌≤◌, ℕ, inl, inr, false, List, [], ◌∷◌, IsTrue, Ok, Err, Result, OnOk, refl, sym, subst, ◌∙◌, arith}
use Rattle.std.proofs.lemmas.Bool.{cases_Bool}
use Rattle.sqlite.specs.Order.{Row}
use Rattle.sqlite.specs.Effect.{Database}
use Rattle.sqlite.specs.declared.types.Value.TheVariants.{Text}
use Rattle.sqlite.specs.declared.error.Error.{Error}
use Rattle.sqlite.specs.declared.error.Error.TheVariants.{SqliteFailure}
use Rattle.sqlite.specs.declared.error.ErrorCode.TheVariants.{TransactionState}
use Rattle.sqlite.specs.Disk.{MoreFaults}
use Rattle.sqlite.specs.Store.{Ghosts}
use Rattle.sqlite.specs.Held.{Held, state}
use Rattle.sqlite.specs.State.{State, HasCleanDisk, ExecutesInside, KeepsCommit, Survives}
use Rattle.fv_store_tables.specs.Stands.{Head, head_row, IsTextHead, IsOwned, Frame, put, removed}
use Rattle.fv_store_tables.specs.Steps.{Advances, Makes, Lacks}
use Rattle.sqlite.specs.Edit.{next_rowid}
use Rattle.fv_store_tables.specs.Causes.{HasRoom, HasFailed}
use Rattle.fv_store_tables.proofs.Rooms.{fewer, room_among, room_after}
use Rattle.fv_store_tables.proofs.Texts.{remove_text, put_text}
use Rattle.fv_store_tables.proofs.Removes.{removes}
use Rattle.fv_store_tables.proofs.Inserts.{head_params, puts}

same_room : (rows new : List Row) (n k : ℕ) → new ≡ rows → HasRoom (n + k) rows → HasRoom n new
same_room rows new n k is room = subst (HasRoom n) (sym is) (fewer n (n + k) rows (omega arith) room)

pub remove_step : (old new : State) (id : List ℕ) (r : Result ℕ Error) → ExecutesInside 0 remove_text (Text id ∷ []) old new r → OnOk r (Advances old new (Makes 0 IsOwned (removed id)))
remove_step old new id (Err error) h = tt
remove_step old new id (Ok count) h =
    record {
      was_open = λ _. h.1.was_open;
      mode = h.1.mode;
      committed = h.1.committed_is;
      change = λ d t spelled owned.
          let it = removes old new id count d t spelled owned h.0 in
          (it.0, λ n room. (room_among (old.now.trees 1) (new.now.trees 1) it.1 n (fewer n (n + 0) (old.now.trees 1) (omega arith) room.0), room_among (old.now.trees 3) (new.now.trees 3) it.2 n (fewer n (n + 0) (old.now.trees 3) (omega arith) room.1)));
    }

pub put_step : (old new : State) (id : List ℕ) (it : Head) (r : Result ℕ Error) → IsTextHead id it → ExecutesInside 0 put_text (head_params id it) old new r → OnOk r (Advances old new (Makes 1 (Lacks id) (put id it)))
put_step old new id it (Err error) text h = tt
put_step old new id it (Ok count) text h =
    record {
      was_open = λ _. h.1.was_open;
      mode = h.1.mode;
      committed = h.1.committed_is;
      change = λ d t spelled none.
          let made = puts old new id it count d t spelled none text h.0 in
          (made.0, λ n room. (room_after (old.now.trees 1) (new.now.trees 1) (head_row (next_rowid (old.now.trees 1)) id it) refl made.1 n room.0, same_room (old.now.trees 3) (new.now.trees 3) n 1 made.2 room.1));
    }

-- whatever a statement answers, nothing is committed
pub inside_keeps : (sql : List ℕ) (params : Row) (old new : State) (r : Result ℕ Error) → ExecutesInside 0 sql params old new r → KeepsCommit old new
inside_keeps sql params old new (Ok count) h = record { was_open = λ _. h.1.was_open; committed = λ _. h.1.committed_is }
inside_keeps sql params old new (Err e) (inl (_, inl same)) = record { was_open = λ _. same.0.was_open; committed = λ _. same.0.committed_is }
inside_keeps sql params old new (Err e) (inl (_, inr back)) = record { was_open = back.was_open; committed = λ live. (back.undone live).1 }
inside_keeps sql params old new (Err e) (inr (_, _, same)) = record { was_open = λ _. same.0.was_open; committed = λ _. same.0.committed_is }

module _ {S : Type 0} (g : Ghosts S) (old new : Held S) (sql : List ℕ) (params : Row) (r : Result ℕ Error) (survives : Survives (state g old) (state g new) (λ _. ⊥))
    (ended : old.in_transaction ≡ false → (r ≡ Err (SqliteFailure TransactionState)) × (new ≡ old))
    (runs : HasCleanDisk (state g new) → IsTrue old.in_transaction → ExecutesInside 0 sql params (state g old) (state g new) r) where
  pub inside_frame : Frame (state g old) (state g new)
  inside_frame = record {
    clean = omega (arith, survives.clean);
    was_open = λ clean live. elim (cases_Bool old.in_transaction) [
      | inl inside ↦ (inside_keeps sql params (state g old) (state g new) r (runs clean inside)).was_open live
      | inr outside ↦ subst (λ (h : Held S). IsTrue (state g h).is_open) (ended outside).1 live
    ];
    counts = survives.counts;
    closes = survives.closes;
  }

-- ---- one step after another

pub frame_same : (s : State) → Frame s s
frame_same s = record { clean = λ clean. clean; was_open = λ _ live. live; counts = omega arith; closes = λ _ live. inl live }

pub keeps_same : (s : State) → KeepsCommit s s
keeps_same s = record { was_open = λ live. live; committed = λ _. refl }

more_then : (a b c : ℕ) → MoreFaults a b → b ≤ c → MoreFaults a c
more_then a b c more up = omega arith

then_more : (a b c : ℕ) → a ≤ b → MoreFaults b c → MoreFaults a c
then_more a b c up more = omega arith

pub frame_then : (a b c : State) → Frame a b → Frame b c → Frame a c
frame_then a b c p q = record {
  clean = λ clean. p.clean (q.clean clean);
  was_open = λ clean live. p.was_open (q.clean clean) (q.was_open clean live);
  counts = omega (arith, p.counts, q.counts);
  closes = λ clean live. elim (p.closes (q.clean clean) live) [
    | inl on ↦ elim (q.closes clean on) [ inl still ↦ inl still | inr more ↦ inr (then_more a.faults b.faults c.faults p.counts more) ]
    | inr more ↦ inr (more_then a.faults b.faults c.faults more q.counts)
  ];
}

-- what failed on the way has failed since the start
pub failed_then : (a b c : State) → HasCleanDisk b → Frame a b → b.faults ≤ c.faults → HasFailed b c → HasFailed a c
failed_then a b c clean p up (inl more) = inl (then_more a.faults b.faults c.faults p.counts more)
failed_then a b c clean p up (inr shut) = elim (cases_Bool a.is_open) [
  | inl live ↦ elim (p.closes clean live) [ inl on ↦ absurd cc | inr more ↦ inl (more_then a.faults b.faults c.faults more up) ]
  | inr was ↦ inr was
]

pub failed_still : (a b c : State) → b.faults ≤ c.faults → HasFailed a b → HasFailed a c
failed_still a b c up (inl more) = inl (more_then a.faults b.faults c.faults more up)
failed_still a b c up (inr shut) = inr shut

pub keeps_then : (a b c : State) → KeepsCommit a b → KeepsCommit b c → KeepsCommit a c
keeps_then a b c p q = record { was_open = λ live. p.was_open (q.was_open live); committed = λ live. q.committed live ∙ p.committed (q.was_open live) }

pub next_step : {R S T : Database → Database → Type 0} (a b c : State) → ((x y z : Database) → R x y → S y z → T x z) → Advances a b R → Advances b c S → Advances a c T
next_step a b c joined p q = record { was_open = λ live. p.was_open (q.was_open live); mode = q.mode; committed = q.committed ∙ p.committed; change = joined a.now b.now c.now p.change q.change }

pub then_on_ok : {X E : Type 0} {R S T : Database → Database → Type 0} (a b c : State) (r : Result X E) → ((x y z : Database) → R x y → S y z → T x z) → Advances a b R → OnOk r (Advances b c S) → OnOk r (Advances a c T)
then_on_ok a b c (Err e) joined p q = tt
then_on_ok a b c (Ok x) joined p q = next_step a b c joined p q

-- what holds whatever is answered
pub on_ok : {X E : Type 0} {P : Type 0} (r : Result X E) → P → OnOk r P
on_ok (Err e) p = tt
on_ok (Ok x) p = p

-- the same step, in other words
pub led : {R S : Database → Database → Type 0} (a b : State) → ((x y : Database) → R x y → S x y) → Advances a b R → Advances a b S
led a b to p = record { was_open = p.was_open; mode = p.mode; committed = p.committed; change = to a.now b.now p.change }

pub led_on_ok : {X E : Type 0} {R S : Database → Database → Type 0} (a b : State) (r : Result X E) → ((x y : Database) → R x y → S x y) → OnOk r (Advances a b R) → OnOk r (Advances a b S)
led_on_ok a b (Err e) to p = tt
led_on_ok a b (Ok x) to p = led a b to p
