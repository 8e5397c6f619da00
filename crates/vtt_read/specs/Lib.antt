pub mod FileRead
pub mod Turn
pub mod Reading
pub mod Steps
