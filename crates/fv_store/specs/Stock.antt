-- A store as contracts see it.
use Rattle.std.specs.Prelude.{ℕ, List, refl}
use Rattle.std.specs.Coded.{Coded, code_by, coded×, coded_ℕ, coded_list}
use Rattle.sqlite.specs.Held.{Held, held_code, state}
use Rattle.sqlite.specs.State.{State}
use Rattle.sqlite_trees.specs.declared.store.Store.{Ghosts}

-- its connection, and the bytes of the declarations in force
pub record Stock (S : Type 0) : Type 0 where
  pub connection : Held S
  pub text : List ℕ

-- the code of a store's value
abbrev pub stock_code : {S : Type 0} → Coded S → Coded (Stock S)
stock_code {S} store =
    code_by (Held S × List ℕ) (coded× (held_code store) (coded_list coded_ℕ))
    (λ s. (s.connection, s.text))
    (λ p. record { connection = p.0; text = p.1 })
    (λ _. refl)

-- the state of its connection
abbrev pub stock_state : {S : Type 0} → Ghosts S → Stock S → State
stock_state g s = state g s.connection
