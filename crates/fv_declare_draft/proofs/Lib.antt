pub mod Gathered
pub mod PlaceMembers
