pub mod Fresh
pub mod Notes
pub mod States
pub mod Turns
pub mod Queues
pub mod Finds
