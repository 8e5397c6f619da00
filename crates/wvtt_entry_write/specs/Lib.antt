pub mod Written
pub mod Writing
pub mod Statements
pub mod Terms
