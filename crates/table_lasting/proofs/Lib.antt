pub mod Lasting
pub mod Ticks
pub mod Reading
pub mod Answers
pub mod Runs
pub mod Turns
