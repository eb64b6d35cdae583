pub mod Sets
pub mod Heads
pub mod Shared
pub mod Fresh
