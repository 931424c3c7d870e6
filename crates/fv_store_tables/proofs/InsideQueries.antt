-- What a query leaves inside a transaction.
use Rattle.std.proofs.Common.{◌≡◌, ◌⊎◌, inl, inr, ℕ, List, Ok, Err, Result, IfOk, IfErr, OnOk, IsTrue, Vec, sym, subst, arith}
use Rattle.std.specs.declared.alloc.Global.{Global}
use Rattle.sqlite.specs.declared.error.Error.{Error}
use Rattle.sqlite.specs.Order.{Row}
use Rattle.sqlite.specs.Schema.{Schema}
use Rattle.sqlite.specs.Store.{Ghosts}
use Rattle.sqlite.specs.Held.{Held, state}
use Rattle.sqlite.specs.State.{State, HasCleanDisk, Shown, FailsToQuery, IsTooLate, IsUnchanged, IsRolledBack, KeepsCommit, Survives}
use Rattle.fv_store_tables.specs.Stands.{Frame}
use Rattle.fv_store_tables.specs.Steps.{Advances}
use Rattle.fv_store_tables.proofs.Queries.{IsBare, still, refused_holds}

-- why it fails there
abbrev pub FailsInside : List ℕ → Row → State → State → Error → Type 0
FailsInside sql params old new e = FailsToQuery sql params old new e ⊎ IsTooLate sql params old new e

left : (sql : List ℕ) (params : Row) (old new : State) (e : Error) → FailsInside sql params old new e → IsUnchanged old new ⊎ IsRolledBack old new
left sql params old new e (inl fails) = refused_holds sql params old new e fails
left sql params old new e (inr late) = inl late.5

module _ (sql : List ℕ) (params : Row) (bare : (s : Schema) → IsBare s sql) where
  pub inside_step : (old new : State) (r : Result (Vec Row Global) Error) → IsTrue old.in_transaction → IfOk r (λ rows. Shown sql params old new rows.items) → OnOk r (Advances old new (λ x y. y ≡ x))
  inside_step old new (Err e) inside h = tt
  inside_step old new (Ok rows) inside h =
      let same = still sql params old new rows.items (bare old.now.schema) h in
      record { was_open = λ _. same.0.was_open; mode = subst IsTrue (sym same.0.mode) inside; committed = same.0.committed_is; change = same.0.now_is }

  pub inside_keep : (old new : State) (r : Result (Vec Row Global) Error) → IfOk r (λ rows. Shown sql params old new rows.items) → IfErr r (FailsInside sql params old new) → KeepsCommit old new
  inside_keep old new (Ok rows) ok err =
      let same = still sql params old new rows.items (bare old.now.schema) ok in
      record { was_open = λ _. same.0.was_open; committed = λ _. same.0.committed_is }
  inside_keep old new (Err e) ok err = elim (left sql params old new e err) [
    | inl same ↦ record { was_open = λ _. same.0.was_open; committed = λ _. same.0.committed_is }
    | inr back ↦ record { was_open = back.was_open; committed = λ live. (back.undone live).1 }
  ]

  module _ {S : Type 0} (g : Ghosts S) (old new : Held S) (r : Result (Vec Row Global) Error) (survives : Survives (state g old) (state g new) (λ _. ⊥))
      (ok : HasCleanDisk (state g new) → IfOk r (λ rows. Shown sql params (state g old) (state g new) rows.items)) (err : HasCleanDisk (state g new) → IfErr r (FailsInside sql params (state g old) (state g new))) where
    pub query_frame : Frame (state g old) (state g new)
    query_frame = record {
      clean = omega (arith, survives.clean);
      was_open = λ clean live. (inside_keep (state g old) (state g new) r (ok clean) (err clean)).was_open live;
      counts = survives.counts;
      closes = survives.closes;
    }
