pub mod FileWritten
pub mod Writing
pub mod Steps
