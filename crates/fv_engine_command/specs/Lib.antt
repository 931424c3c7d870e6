pub mod CommandView
pub mod Commands
