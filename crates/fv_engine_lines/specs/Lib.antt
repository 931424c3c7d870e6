pub mod Buffering
pub mod FaultNames
pub mod Lines
pub mod Reads
pub mod Runs
pub mod Writes
