pub mod Hundredths
pub mod Terms
