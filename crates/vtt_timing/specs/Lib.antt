pub mod Timing
pub mod Grammar
pub mod Read
