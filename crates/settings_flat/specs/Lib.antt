pub mod Flat
pub mod Statements
