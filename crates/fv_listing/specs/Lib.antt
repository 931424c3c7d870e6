pub mod Arrivals
pub mod Courses
pub mod Listed
pub mod Turns
pub mod Visits
