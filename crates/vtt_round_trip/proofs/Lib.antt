pub mod Lines
pub mod Blocks
pub mod Timing
pub mod Writable
pub mod File
pub mod Records
pub mod Again
pub mod Needed
