pub mod Adding
pub mod Attributes
pub mod Explained
pub mod Lines
