pub mod Apart
pub mod Fields
pub mod Migrates
pub mod Order
pub mod Ordered
pub mod Reading
pub mod Steps
pub mod Upgrades
