pub mod Apart
pub mod Ends
pub mod NoFloats
pub mod OneLine
pub mod Shown
pub mod Told
