pub mod RoundTrip
pub mod Runs
pub mod Repeats
pub mod Cuts
pub mod BothShifts
