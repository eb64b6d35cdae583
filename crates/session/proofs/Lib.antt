pub mod Held
pub mod Scripts
