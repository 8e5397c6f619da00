pub mod Heads
pub mod Names
pub mod Starts
