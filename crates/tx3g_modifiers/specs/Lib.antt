pub mod Held
pub mod Modifiers
pub mod Exactly
