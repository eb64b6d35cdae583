pub mod Strength
pub mod Variants
pub mod Checked
pub mod Memory
