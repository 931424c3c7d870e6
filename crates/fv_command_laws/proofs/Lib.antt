pub mod Causes
pub mod Faults
pub mod Parted
pub mod Refused
pub mod Shaped
