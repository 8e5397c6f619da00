pub mod Held
pub mod Inner
pub mod Cues
pub mod Walk
pub mod Terms
