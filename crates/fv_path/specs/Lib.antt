pub mod Nodes
pub mod Paths
pub mod Reading
pub mod Texts
pub mod Views
