pub mod Graph
pub mod Growing
pub mod Recursion
pub mod Search
pub mod Tree
pub mod Weight
