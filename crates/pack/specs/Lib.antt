pub mod Packed
pub mod Packing
pub mod Statements
pub mod Writing
