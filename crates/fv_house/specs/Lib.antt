pub mod House
pub mod Luhn
pub mod Named
pub mod Objects
pub mod Words
