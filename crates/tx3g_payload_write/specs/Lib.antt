pub mod Left
pub mod Sample
pub mod Terms
