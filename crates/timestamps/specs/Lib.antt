pub mod Timestamp
pub mod Timestamps
