pub mod Bits
pub mod Turns
pub mod Writes
pub mod Parts
pub mod Low
pub mod Scans
pub mod Joins
