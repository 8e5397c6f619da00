pub mod Laws
pub mod Exactly
pub mod Errors
pub mod Blame
