pub mod Tidy
pub mod Escapes
