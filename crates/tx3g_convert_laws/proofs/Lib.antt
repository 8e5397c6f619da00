pub mod Samples
pub mod Fine
pub mod Payloads
pub mod Counting
