pub mod Choice
pub mod First
pub mod Over
pub mod Table
pub mod Tests
pub mod Iter
pub mod Results
