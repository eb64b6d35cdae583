pub mod Arcs
pub mod Placing
pub mod Cuts
pub mod Across
