pub mod Styled
pub mod Style
pub mod Only
