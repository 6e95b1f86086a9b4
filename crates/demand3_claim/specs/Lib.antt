pub mod Examples
pub mod Claim
