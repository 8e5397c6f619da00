pub mod Weave
pub mod Bytes
pub mod Tidy
pub mod Back
pub mod Rule
pub mod Points
pub mod Longest
