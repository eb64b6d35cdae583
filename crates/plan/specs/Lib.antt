pub mod Pairs
pub mod Plans
pub mod Nodes
pub mod Tells
pub mod Writing
