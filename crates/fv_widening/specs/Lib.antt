pub mod Narrowed
pub mod Same
pub mod Widens
