-- A database in memory never fails.
use Rattle.std.proofs.Common.{◌≡◌, ◌⊎◌, ℕ, ℤ, IsTrue, List, inl, inr, arith}
use Rattle.sqlite.specs.Disk.{MoreFaults}
use Rattle.sqlite.specs.State.{State}
use Rattle.sqlite.specs.Steps.{over_memory}
use Rattle.sqlite.proofs.Callers.{memory_is_clean}
use Rattle.sqlite_trees.specs.declared.memory.MemStore.{MemStore}
use Rattle.fv_engine.specs.Laws.{LacksRoom, LacksRoomForAll}
use Rattle.fv_engine.proofs.Laws.{closes_only_failed, fails_for_room_alone}
use Rattle.fv_engine_machine.specs.Machines.{with_map}
use Rattle.fv_engine_machine.specs.Services.{GoesOn, ServiceKeeps, Responds, Service, with_mapped}
use Rattle.fv_engine_reply.specs.Answers.{refused}
use Rattle.fv_engine_reply.specs.Texts.{answer_text}
use Rattle.fv_engine_reply.specs.declared.answer.Refusal.TheVariants.{Store}
use Rattle.fv_registry.specs.Meanings.{Meanings}
use Rattle.fv_store.specs.Records.{Records}
use Rattle.fv_store.specs.Stock.{Stock, stock_state}

-- what a store over a database in memory stands for
abbrev pub in_memory : Stock MemStore → State
in_memory = stock_state over_memory

none_fail : MoreFaults 0 0 → ⊥
none_fail more = omega (arith, more)

-- a line is answered over an open connection to a database in memory, which stands for these records
module _ (means : Meanings) (line : List ℕ) (now : ℤ) (reply : List ℕ) (old new : Service (Stock MemStore))
    (going : GoesOn in_memory old new (λ x y. Responds means x line now reply y))
    (m : Records) (stands : ServiceKeeps in_memory old m) (live : IsTrue (in_memory old.machine.records).is_open) where
  -- it stays open
  pub open_still : IsTrue (in_memory new.machine.records).is_open
  open_still =
      let t = going.related (memory_is_clean new.machine.records.connection) m stands in
      elim (closes_only_failed means (with_mapped in_memory old m) (with_mapped in_memory new t.0) line now reply t.1 live) [ inl is ↦ is | inr more ↦ absurd (none_fail more) ]

  -- the store fails for want of room alone
  pub fails_for_room : reply ≡ answer_text (refused Store) → LacksRoom means line now (with_map in_memory old.machine m) ⊎ LacksRoomForAll line (with_map in_memory old.machine m)
  fails_for_room is =
      let t = (fails_for_room_alone in_memory means line now reply old new going).related (memory_is_clean new.machine.records.connection) m stands in
      t.1 is live none_fail
