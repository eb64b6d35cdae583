pub mod Shifts
pub mod Held
pub mod Listings
pub mod Changes
pub mod Searches
pub mod Chains
pub mod Told
