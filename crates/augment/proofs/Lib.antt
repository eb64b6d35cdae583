pub mod Backs
pub mod Trails
pub mod PushBacks
