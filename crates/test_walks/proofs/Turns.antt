-- What turns lead to, as the library of traces has it.
pub use Rattle.fv_walk_traces.proofs.Told.{arrives, enters, tells}
