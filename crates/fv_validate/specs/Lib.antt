pub mod FaultNames
pub mod Listing
pub mod Values
pub mod ViolationView
pub mod Violations
