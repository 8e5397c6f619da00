pub mod Word
pub mod Read
pub mod Words
pub mod Grammar
pub mod Reading
pub mod Form
pub mod Statements
pub mod Cases
