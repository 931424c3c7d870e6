pub mod Absent
pub mod Faulty
pub mod Stops
