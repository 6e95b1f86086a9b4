pub mod Preview
pub mod code
