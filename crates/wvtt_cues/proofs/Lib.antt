pub mod Laws
pub mod Walk
pub mod Sound
pub mod Whole
