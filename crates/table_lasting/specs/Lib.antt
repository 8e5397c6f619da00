pub mod Dropped
pub mod Lasting
pub mod Dropping
pub mod Statements
pub mod Copying
