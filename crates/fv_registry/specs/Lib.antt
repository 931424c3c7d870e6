pub mod FaultNames
pub mod Meanings
pub mod NamedFields
pub mod Rules
pub mod SameKind
