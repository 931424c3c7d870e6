pub mod Loci
pub mod Longer
pub mod Writable
