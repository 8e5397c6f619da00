pub mod Stock
pub mod Terms
