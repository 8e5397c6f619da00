pub mod Judged
pub mod FirstBad
