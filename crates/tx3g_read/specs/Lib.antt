pub mod Entry
pub mod Sample
pub mod Statements
