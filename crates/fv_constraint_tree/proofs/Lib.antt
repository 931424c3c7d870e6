pub mod Entries
pub mod Laws
pub mod Passed
pub mod Steps
pub mod Walking
