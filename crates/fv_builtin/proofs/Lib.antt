pub mod Alike
pub mod Counts
pub mod DigitCounts
pub mod PutIn
pub mod Regexes
pub mod Units
