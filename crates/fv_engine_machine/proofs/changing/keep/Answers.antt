use Rattle.std.proofs.Common.{inr, option_map, refl, arith}
use Rattle.fv_store.specs.Stock.{stock_state as state}
use Rattle.fv_engine_reply.specs.Answers.{refused}
use Rattle.fv_engine_reply.specs.declared.answer.Refusal.TheVariants.{Memory}
use Rattle.fv_engine_machine.specs.Keeping.{Keeps, rows_on}
use Rattle.fv_engine_machine.specs.Machines.{contents}
use Rattle.fv_engine_pending.specs.Ways.{pending_view}
use Rattle.fv_engine_machine.proofs.Becoming.{stays_itself, fails_so}
use Rattle.fv_engine_machine.proofs.Changes.{moves_on, moves_not}
use Rattle.fv_engine_machine.proofs.Rooms.{room_for}
use Rattle.fv_store.specs.Causes.{rows_of_all}
use Rattle.fv_engine_machine.proofs.changing.keep.Goals as goal

pub returns-in-Err-clause-moves : goal.returns-in-Err-clause-moves
returns-in-Err-clause-moves g c = λ ds bytes m typed fits one clean holds. (m, inr (Memory, tt, refl, stays_itself _), holds)

pub returns-in-Ok-commit-clause-moves : goal.returns-in-Ok-commit-clause-moves
returns-in-Ok-commit-clause-moves g c = λ ds bytes m typed fits one.
    let done = rw c.deref.ensures.value at c.in-Ok-commit.ensures.done in
    let room = rw c.deref.ensures.value at c.in-Ok-commit.ensures.room in
    moves_on (state g.S.Store) ds bytes m c.args.store.now c.commit.new.self _ (pending_view c.args.pending) c.args.taken.now.done _ c.in-Ok-commit.ensures.frame c.in-Ok-commit.ensures.open done (c.in-Ok.ensures.after m one) (c.in-Ok.ensures.rows ds.types m typed one) room (c.in-Ok.ensures.fit ds.types ds.forms m one) fits

pub returns-clause-moves : goal.returns-clause-moves
returns-clause-moves g c = λ ds bytes m typed fits one.
    let rows = c.in-Ok.ensures.rows ds.types m typed one in
    let cause = rw c.deref.ensures.value at c.in-Err-commit.ensures.cause in
    moves_not (state g.S.Store) ds bytes m c.args.store.now c.commit.new.self (λ x y. Keeps (rows_on (option_map (λ s. s.now) c.args.taken.now.object) (pending_view c.args.pending)) (pending_view c.args.pending) c.args.taken.now.done x (refused c.undone.result) y) c.in-Err-commit.ensures.frame (λ holds. c.in-Err-commit.ensures.undone (contents bytes ds m) holds) (λ holds. c.in-Err-commit.ensures.untouched) (λ clean holds stay. inr (
      c.undone.result,
      fails_so c.in-Err-commit.fault c.undone.result _ c.undone.ensures.store c.undone.ensures.memory (λ is room. cause clean is (contents bytes ds m) holds
          (room_for (state g.S.Store c.args.store.now).now (rows_of_all c.in-Ok.changes.items) (omega (arith, rows, room.0))) (c.in-Ok.ensures.short room.1)),
      refl,
      stay,
    ))
