pub mod Spot
pub mod TextBox
