pub mod Courses
pub mod Exact
pub mod Handed
pub mod Leading
pub mod Levels
pub mod Parted
pub mod Told
