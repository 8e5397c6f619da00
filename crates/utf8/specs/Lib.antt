pub mod Passed
pub mod Utf8
pub mod Strings
pub mod Forbidden
pub mod Machine
