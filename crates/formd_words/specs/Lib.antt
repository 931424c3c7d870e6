pub mod Answering
pub mod FaultNames
pub mod Failures
pub mod Openings
pub mod Refused
pub mod Rehearsals
