pub mod Sound
pub mod Records
pub mod Read
pub mod Arrows
pub mod Blocks
pub mod Lines
pub mod Refused
