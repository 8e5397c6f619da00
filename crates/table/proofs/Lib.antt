pub mod Laws
pub mod Judging
pub mod Parts
