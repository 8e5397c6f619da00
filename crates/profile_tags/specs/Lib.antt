pub mod Named
pub mod Terms
