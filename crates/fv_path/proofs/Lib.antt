pub mod Chains
pub mod Determined
mod Fronts
pub mod Joined
mod KeyNodes
mod Keys
mod Strings
pub mod Turns
