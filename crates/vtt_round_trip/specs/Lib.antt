pub mod Premises
pub mod Statements
