pub mod Lines
pub mod Writes
