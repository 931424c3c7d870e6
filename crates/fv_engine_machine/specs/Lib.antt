pub mod Causes
pub mod Judges
pub mod Keeping
pub mod Machines
pub mod Redeclaring
pub mod Refusals
pub mod Services
pub mod Step
