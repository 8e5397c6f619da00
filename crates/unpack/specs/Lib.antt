pub mod Unpacked
pub mod Unpacking
pub mod Rows
