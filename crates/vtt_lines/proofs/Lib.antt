pub mod Lines
pub mod Places
pub mod Blocks
pub mod Arrows
pub mod Gathering
pub mod Scanning
