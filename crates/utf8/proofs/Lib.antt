pub mod Ranges
pub mod Classes
pub mod States
pub mod Windows
pub mod Keeps
pub mod Begun
pub mod Machine
pub mod Strings
