pub mod ExportSteps
pub mod Exports
pub mod FaultNames
pub mod Laws
pub mod Openings
pub mod Steps
