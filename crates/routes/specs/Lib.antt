pub mod Bare
pub mod Routes
