pub mod Needed
pub mod Runs
pub mod Asking
