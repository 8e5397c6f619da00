pub mod Laws
pub mod Fonts
pub mod Texts
pub mod Blinking
