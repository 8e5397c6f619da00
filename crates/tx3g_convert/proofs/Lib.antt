pub mod Zeros
pub mod Judging
pub mod States
pub mod Rooms
pub mod Writing
