-- Refusals that are handed on.
pub use Rattle.fv_store_tables.proofs.Refusals.{handed_on}
