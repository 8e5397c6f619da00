pub mod Within
pub mod Cues
