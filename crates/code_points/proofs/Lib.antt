pub mod CodePoints
pub mod CodePoints16
