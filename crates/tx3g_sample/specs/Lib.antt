pub mod Reading
pub mod Text
pub mod Sample
pub mod Terms
