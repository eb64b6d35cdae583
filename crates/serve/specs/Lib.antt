pub mod Lines
pub mod Served
pub mod Progress
