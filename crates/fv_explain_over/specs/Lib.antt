pub mod Adding
pub mod Changes
pub mod Lines
pub mod Misfits
pub mod Places
pub mod Same
