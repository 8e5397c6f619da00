pub mod Kinds
pub mod Found
