pub mod Body
pub mod Bodies
