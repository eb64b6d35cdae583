pub mod Kept
pub mod Held
pub mod Calls
pub mod Script
