pub mod Entry
pub mod Read
pub mod Reading
pub mod Held
