pub mod Caption
pub mod Judgement
pub mod List
