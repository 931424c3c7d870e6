pub mod FaultNames
pub mod Reading
pub mod Removing
