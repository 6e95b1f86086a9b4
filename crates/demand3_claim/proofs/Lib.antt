pub mod ExampleWords
pub mod Examples
pub mod Claim
pub mod Needed
