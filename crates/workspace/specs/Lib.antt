pub mod Buffers
pub mod Parts
