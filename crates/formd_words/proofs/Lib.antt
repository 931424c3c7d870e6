pub mod Answered
pub mod Failed
pub mod Formed
pub mod Opened
pub mod Refused
pub mod Rehearsed
pub mod Writes
