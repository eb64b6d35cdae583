pub mod Vertices
pub mod Blocks
pub mod Ways
pub mod Seeks
pub mod Draws
