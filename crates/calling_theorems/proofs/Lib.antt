pub mod Range
pub mod Cuts
pub mod Printed
pub mod Periods
pub mod Pauses
pub mod Choosing
