pub mod Part
pub mod Judgement
pub mod Terms
