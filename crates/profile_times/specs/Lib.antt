pub mod Stamped
pub mod Terms
