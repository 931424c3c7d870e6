pub mod Upgraded
pub mod Faults
pub mod Steps
