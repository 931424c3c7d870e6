pub mod Adds
pub mod Among
pub mod Digits
pub mod Registries
