pub mod Named
pub mod Whereabouts
