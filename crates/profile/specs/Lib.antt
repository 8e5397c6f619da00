pub mod Spot
pub mod Grammar
pub mod Machine
pub mod Readings
pub mod Statements
pub mod Cases
