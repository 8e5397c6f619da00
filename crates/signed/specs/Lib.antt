pub mod Signed
pub mod Rank
