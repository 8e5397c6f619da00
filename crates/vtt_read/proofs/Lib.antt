pub mod Judging
pub mod Lists
pub mod States
pub mod Header
pub mod Ends
pub mod Rows
