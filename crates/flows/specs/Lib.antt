pub mod Lists
pub mod Reach
pub mod Routes
pub mod Flow
