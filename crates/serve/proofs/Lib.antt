pub mod Splits
pub mod Turns
