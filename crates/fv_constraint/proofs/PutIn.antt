-- How attributes are put in, of built-in constraints.
pub use Rattle.fv_builtin.proofs.PutIn.{stands, given_alone, given_stays}
