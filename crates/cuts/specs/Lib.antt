pub mod Cuts
pub mod Window
