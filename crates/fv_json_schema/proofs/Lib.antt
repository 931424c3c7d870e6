pub mod Absent
pub mod Adding
pub mod Walk
