pub mod Alike
pub mod Arranged
pub mod Numbers
pub mod Reports
pub mod Values
