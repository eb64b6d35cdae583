pub mod Goals
pub mod Steps
