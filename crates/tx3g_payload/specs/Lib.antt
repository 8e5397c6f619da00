pub mod Points
pub mod Left
pub mod Payload
pub mod Statements
