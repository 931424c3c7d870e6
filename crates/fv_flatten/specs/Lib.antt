pub mod FaultNames
pub mod Flattening
pub mod Placed
pub mod Read
pub mod Refusals
pub mod UseViews
pub mod Whereabouts
