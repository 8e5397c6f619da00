pub mod Converted
pub mod Turn
pub mod Convert
pub mod Terms
