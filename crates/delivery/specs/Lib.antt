pub mod Rooms
pub mod Held
