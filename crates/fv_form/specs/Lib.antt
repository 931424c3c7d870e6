pub mod Asked
pub mod Commands
pub mod Declarations
pub mod Entries
pub mod FormViews
pub mod MisfitViews
pub mod Misfits
