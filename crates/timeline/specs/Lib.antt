pub mod Lists
pub mod Cues
pub mod Tracks
pub mod Packing
pub mod Nearest
pub mod Checking
pub mod Unpacking
pub mod Joining
