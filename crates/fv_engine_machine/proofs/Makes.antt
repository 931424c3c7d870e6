-- What parts make of the records on the way, by the proofs of fv_engine_pending.
pub use Rattle.fv_engine_pending.proofs.Fitting.{agreeing_fit}
pub use Rattle.fv_engine_pending.proofs.Made.{bare_made, made, unmade}
pub use Rattle.fv_engine_pending.proofs.Touching.{counted, standing_touched, touched_stands}
