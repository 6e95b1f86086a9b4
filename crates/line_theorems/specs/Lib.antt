pub mod Text
pub mod Silence
pub mod Examples
