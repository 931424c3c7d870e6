pub mod FoundView
pub mod InsideView
pub mod Pairs
pub mod Parts
pub mod Places
pub mod Views
