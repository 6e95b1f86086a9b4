pub mod Ranges
pub mod Packing
pub mod Storage
pub mod ReadingBack
pub mod DtmfCodes
