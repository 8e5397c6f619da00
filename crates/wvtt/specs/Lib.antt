pub mod Kinds
pub mod Sample
pub mod Seen
pub mod Sound
