pub mod Tallies
pub mod Spans
pub mod Wipes
pub mod Changes
pub mod Whole
pub mod Replies
pub mod Puts
