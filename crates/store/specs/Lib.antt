pub mod Change
pub mod Ends
pub mod Outside
