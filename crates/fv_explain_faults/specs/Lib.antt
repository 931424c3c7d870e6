pub mod FaultNames
pub mod Quoted
