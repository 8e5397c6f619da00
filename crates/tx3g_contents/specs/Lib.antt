pub mod Contents
pub mod Kinds
