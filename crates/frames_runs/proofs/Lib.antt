pub mod Numbered
pub mod Walking
pub mod Framing
