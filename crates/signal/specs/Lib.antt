pub mod Signal
pub mod code
