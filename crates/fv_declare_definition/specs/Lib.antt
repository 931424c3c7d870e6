pub mod Attributes
pub mod DefinitionViews
pub mod Definitions
pub mod Written
