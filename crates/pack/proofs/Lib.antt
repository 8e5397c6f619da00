pub mod Laws
pub mod Turns
pub mod ReadBack
pub mod Track
pub mod Answers
