-- Over memory nothing fails, so a store is refused memory alone.
use Rattle.std.proofs.Common.{IsTrue, inl, inr, arith}
use Rattle.sqlite.specs.Held.{Held, state}
use Rattle.sqlite.specs.Steps.{over_memory}
use Rattle.sqlite.proofs.Callers.{memory_is_clean}
use Rattle.sqlite_trees.specs.declared.memory.MemStore.{MemStore}
use Rattle.fv_store.specs.Causes.{HasFailed}
use Rattle.fv_store.specs.Stands.{Frame}

-- a connection that was open stays open
pub memory_lasts : (old new : Held MemStore) → Frame (state over_memory old) (state over_memory new) → IsTrue (state over_memory old).is_open → IsTrue (state over_memory new).is_open
memory_lasts old new frame live = elim (frame.closes (memory_is_clean new) live) [ inl on ↦ on | inr more ↦ absurd (omega (arith, more)) ]

-- and no call on it has failed
pub memory_serves : (old new : Held MemStore) → IsTrue (state over_memory old).is_open → HasFailed (state over_memory old) (state over_memory new) → ⊥
memory_serves old new live (inl more) = omega (arith, more)
memory_serves old new live (inr shut) = cc
