pub mod Asked
pub mod Bounds
pub mod FaultNames
