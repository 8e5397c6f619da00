pub mod Took
pub mod Gathered
pub mod Gathering
