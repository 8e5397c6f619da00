pub mod Met
pub mod Checked
pub mod Conformance
pub mod Window
