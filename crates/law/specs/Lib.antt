pub mod Told
pub mod Right
pub mod Law
pub mod Laws
