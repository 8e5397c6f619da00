pub mod Verdict
pub mod Judgement
pub mod Reason
