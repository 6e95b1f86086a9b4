pub mod WholeCodes
