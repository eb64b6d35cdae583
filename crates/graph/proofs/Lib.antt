pub mod Counts
pub mod Firsts
pub mod Edges
pub mod Leaps
