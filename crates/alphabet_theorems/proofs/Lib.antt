pub mod Same
pub mod Rule
pub mod Normal
pub mod Numbering
