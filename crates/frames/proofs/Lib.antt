pub mod Digits
pub mod Opens
pub mod Fronts
